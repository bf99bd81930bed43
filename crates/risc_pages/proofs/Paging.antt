use Rattle.std.proofs.Common.{◌≡◌, ℕ, zero, suc, ◌+◌, ◌-◌, ◌*◌, ◌<◌, ◌≤◌, List, [], ◌∷◌, ◌++◌, length, get_or, set, refl, ap, sym, ◌∙◌, arith, length-append, length-drop, slice_range}
use Rattle.std.specs.List.{flat_map, All}
use Rattle.std.proofs.lemmas.List.{get_or_append_left, get_or-append_right, set-append_left, set-append_right}
use Rattle.std.proofs.Common.{take, drop}
use Rattle.std.proofs.Math.Seq.{drop-append-add, get_or-append_seam}
use borrow.Author.Count.{below_more}
use Rattle.std.proofs.lemmas.List.{get_or-drop, take_at, take_more}
use Rattle.std.proofs.lemmas.List.Elements.{All-append, All-head, All-nil, All-tail}

-- the word at k, which is the j-th of the i-th page
pub get_or-pages : {X : Type 0} (f : X → List ℕ) (n : ℕ) (xs : List X) (i j k : ℕ) (e : X) → All (λ x. length (f x) ≡ n) xs → i < length xs → j < n → k ≡ i * n + j → get_or (flat_map f xs) k 0 ≡ get_or (f (get_or xs i e)) j 0
get_or-pages f n [] i j k e all h b at = absurd (omega arith)
get_or-pages {X} f n (x ∷ xs) zero j k e all h b at =
    let P : X → Type 0 = λ x. length (f x) ≡ n in
    let here : k ≡ j = omega arith in
    let whole : length (f x) ≡ n = All-head P x xs all in
    let within : j < length (f x) = omega arith in
    ap (λ m. get_or (f x ++ flat_map f xs) m 0) here ∙ get_or_append_left (f x) (flat_map f xs) 0 j within
get_or-pages {X} f n (x ∷ xs) (suc i) j k e all h b at =
    let P : X → Type 0 = λ x. length (f x) ≡ n in
    let past : n ≤ k = omega arith in
    let rest : k - n ≡ i * n + j = omega arith in
    let inside : i < length xs = omega arith in
    get_or-append_right (f x) (flat_map f xs) n k 0 (All-head P x xs all) past ∙ get_or-pages f n xs i j (k - n) e (All-tail P x xs all) inside b rest

-- replacing the i-th page by one with another word at j changes the word at k alone
pub flat_map-set : {X : Type 0} (f : X → List ℕ) (n : ℕ) (xs : List X) (i j k : ℕ) (e y : X) (v : ℕ) → All (λ x. length (f x) ≡ n) xs → i < length xs → j < n → k ≡ i * n + j → f y ≡ set (f (get_or xs i e)) j v → flat_map f (set xs i y) ≡ set (flat_map f xs) k v
flat_map-set f n [] i j k e y v all h b at same = absurd (omega arith)
flat_map-set {X} f n (x ∷ xs) zero j k e y v all h b at same =
    let P : X → Type 0 = λ x. length (f x) ≡ n in
    let here : k ≡ j = omega arith in
    let whole : length (f x) ≡ n = All-head P x xs all in
    let within : j < length (f x) = omega arith in
    ap (λ w. w ++ flat_map f xs) same
    ∙ sym (set-append_left (f x) (flat_map f xs) j v within)
    ∙ ap (λ m. set (f x ++ flat_map f xs) m v) (sym here)
flat_map-set {X} f n (x ∷ xs) (suc i) j k e y v all h b at same =
    let P : X → Type 0 = λ x. length (f x) ≡ n in
    let past : n ≤ k = omega arith in
    let rest : k - n ≡ i * n + j = omega arith in
    let inside : i < length xs = omega arith in
    ap (λ w. f x ++ w) (flat_map-set f n xs i j (k - n) e y v (All-tail P x xs all) inside b rest same)
    ∙ sym (set-append_right (f x) (flat_map f xs) n k v (All-head P x xs all) past)

-- the i-th page begins after the pages before it
pub take-drop-pages : {X : Type 0} (f : X → List ℕ) (n : ℕ) (xs : List X) (i k : ℕ) (e : X) → All (λ x. length (f x) ≡ n) xs → i < length xs → k ≡ n * i → take n (drop k (flat_map f xs)) ≡ f (get_or xs i e)
take-drop-pages f n [] i k e all h at = absurd (omega arith)
take-drop-pages {X} f n (x ∷ xs) zero k e all h at =
    let P : X → Type 0 = λ x. length (f x) ≡ n in
    let here : k ≡ 0 = omega arith in
    ap (λ m. take n (drop m (f x ++ flat_map f xs))) here ∙ take_at (f x) (flat_map f xs) n (All-head P x xs all)
take-drop-pages {X} f n (x ∷ xs) (suc i) k e all h at =
    let P : X → Type 0 = λ x. length (f x) ≡ n in
    let whole : length (f x) ≡ n = All-head P x xs all in
    let past : k ≡ length (f x) + (k - n) = omega arith in
    let rest : k - n ≡ n * i = omega arith in
    let inside : i < length xs = omega arith in
    ap (λ m. take n (drop m (f x ++ flat_map f xs))) past
    ∙ ap (λ (l : List ℕ). take n l) (drop-append-add (f x) (flat_map f xs) (k - n))
    ∙ take-drop-pages f n xs i (k - n) e (All-tail P x xs all) inside rest

-- lists of equal pages are equal
pub flat_map-same : {X Y : Type 0} (f : X → List ℕ) (g : Y → List ℕ) (xs : List X) (ys : List Y) → length xs ≡ length ys → ((k : ℕ) (d : X) (e : Y) → k < length xs → f (get_or xs k d) ≡ g (get_or ys k e)) → flat_map f xs ≡ flat_map g ys
flat_map-same f g [] [] long same = refl
flat_map-same f g [] (y ∷ ys) long same = absurd (omega arith)
flat_map-same f g (x ∷ xs) [] long same = absurd (omega arith)
flat_map-same f g (x ∷ xs) (y ∷ ys) long same =
    let first : f x ≡ g y = same 0 x y (omega arith) in
    let rest : flat_map f xs ≡ flat_map g ys = flat_map-same f g xs ys (omega arith) (λ k d e h. same (suc k) d e (omega arith)) in
    ap (λ (l : List ℕ). l ++ flat_map f xs) first ∙ ap (λ (l : List ℕ). g y ++ l) rest

-- another element with the same page instead of the i-th
pub flat_map-set_same : {X : Type 0} (f : X → List ℕ) (xs : List X) (i : ℕ) (e y : X) → i < length xs → f y ≡ f (get_or xs i e) → flat_map f (set xs i y) ≡ flat_map f xs
flat_map-set_same f [] i e y h same = absurd (omega arith)
flat_map-set_same f (x ∷ xs) zero e y h same = ap (λ (w : List ℕ). w ++ flat_map f xs) same
flat_map-set_same f (x ∷ xs) (suc i) e y h same =
    let inside : i < length xs = omega arith in
    ap (λ (w : List ℕ). f x ++ w) (flat_map-set_same f xs i e y inside same)

-- pages of n words make n words each
pub length-pages : {X : Type 0} (f : X → List ℕ) (n : ℕ) (xs : List X) → ((x : X) → length (f x) ≡ n) → length (flat_map f xs) ≡ length xs * n
length-pages f n [] each = omega arith
length-pages f n (x ∷ xs) each =
    let first : length (f x) ≡ n = each x in
    let rest : length (flat_map f xs) ≡ length xs * n = length-pages f n xs each in
    let both : length (f x ++ flat_map f xs) ≡ length (f x) + length (flat_map f xs) = length-append (f x) (flat_map f xs) in
    omega arith

-- what holds for each word of each page holds for each word
pub All-pages : {X : Type 0} (P : ℕ → Type 0) (f : X → List ℕ) (xs : List X) → ((x : X) → All P (f x)) → All P (flat_map f xs)
All-pages P f [] each = All-nil P
All-pages P f (x ∷ xs) each = All-append P (f x) (flat_map f xs) (each x) (All-pages P f xs each)

-- one element more in two lists whose pages agree so far
pub same_more : {X : Type 0} (f : X → List ℕ) (g : ℕ → List ℕ) (xs : List X) (ys : List ℕ) (x : X) → ((k : ℕ) (d : X) (e : ℕ) → k < length xs → f (get_or xs k d) ≡ g (get_or ys k e)) → ((e : ℕ) → f x ≡ g (get_or ys (length xs) e)) → (k : ℕ) (d : X) (e : ℕ) → k < length xs + 1 → f (get_or (xs ++ x ∷ []) k d) ≡ g (get_or ys k e)
same_more {X} f g xs ys x before here k d e h =
    below_more (λ (j : ℕ). f (get_or (xs ++ x ∷ []) j d) ≡ g (get_or ys j e)) (length xs)
    (λ j l. ap f (get_or_append_left xs (x ∷ []) d j l) ∙ before j d e l)
    (ap f (get_or-append_seam xs x [] d) ∙ here e) k h

-- one word more of a range
pub slice_range_more : (xs : List ℕ) (from i : ℕ) → from ≤ i → i < length xs → slice_range xs from (i + 1) ≡ slice_range xs from i ++ get_or xs i 0 ∷ []
slice_range_more xs from i low inside =
    let long : length (drop from xs) ≡ length xs - from = length-drop from xs in
    let next : take (i - from + 1) (drop from xs) ≡ take (i - from) (drop from xs) ++ get_or (drop from xs) (i - from) 0 ∷ [] =
    take_more (drop from xs) (i - from) 0 (omega arith) in
    let count : i + 1 - from ≡ i - from + 1 = omega arith in
    let slot : from + (i - from) ≡ i = omega arith in
    ap (λ (n : ℕ). take n (drop from xs)) count ∙ next
    ∙ ap (λ (x : ℕ). take (i - from) (drop from xs) ++ x ∷ []) (get_or-drop from xs (i - from) 0 ∙ ap (λ (k : ℕ). get_or xs k 0) slot)
