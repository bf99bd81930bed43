-- Bytes at an offset of a file, the numbers that they are, and what holds for each member of a list as it is filled.
use Rattle.oberon_format.proofs.Common.{[], add-zero, All, ap, append-nil, AreBytes, arith, bytes_low_first, cases_lt, drop, drop-drop, drop-take, drop_at, each, EachAt, fill_by_all, flat_map, get_or, get_or-drop, get_or-map-range_with_len, get_or-set_other, get_or-set_same, get_or-take, get_or_append_left, get_or_past, get_or_push, if◌then◌else◌, inl, inr, le_bytes_4, le_bytes_8, length, length-append, length-bytes_low_first, length-drop, length-map-range_with_len, length-take, List, little_from, little_from-take, little_number-reads_back, long_at, long_bytes, nat_tests, refl, SERIAL_END, set, subst, suc, sym, take, take-add, take-take, take_at, take_rest, word_at, word_bytes, words_bytes, words_from, zero, ℕ, ◌%◌, ◌*◌, ◌++◌, ◌+◌, ◌-◌, ◌/◌, ◌<◌, ◌==◌, ◌^◌, ◌∙◌, ◌∷◌, ◌≡◌, ◌≢◌, ◌≤◌}

-- the number at an offset in what follows an offset
pub little_from-drop : (n k offset : ℕ) (bytes : List ℕ) → little_from k n (drop offset bytes) ≡ little_from (offset + k) n bytes
little_from-drop zero k offset bytes = refl
little_from-drop (suc n) k offset bytes =
    let byte = get_or-drop offset bytes k 0 in
    let rest = little_from-drop n (suc k) offset bytes in
    let next : offset + suc k ≡ suc (offset + k) = omega arith in
    rw (byte, rest, next) refl

pub word_at-drop : (offset : ℕ) (bytes : List ℕ) → little_from 0 4 (take (length bytes - offset) (drop offset bytes)) ≡ word_at bytes offset
unfolding word_at
word_at-drop offset bytes = ap (little_from 0 4) (take_rest bytes offset) ∙ little_from-drop 4 0 offset bytes ∙ ap (λ (k : ℕ). little_from k 4 bytes) (add-zero offset)

pub long_at-drop : (offset : ℕ) (bytes : List ℕ) → little_from 0 8 (take (length bytes - offset) (drop offset bytes)) ≡ long_at bytes offset
unfolding long_at
long_at-drop offset bytes = ap (little_from 0 8) (take_rest bytes offset) ∙ little_from-drop 8 0 offset bytes ∙ ap (λ (k : ℕ). little_from k 8 bytes) (add-zero offset)

-- the serial line's number is that of its parts
pub serial_whole : (serial : ℕ) → serial < SERIAL_END → serial % 2 ^ 8 + (if serial / 2 ^ 8 == 1 then 2 ^ 8 else 0) ≡ serial
serial_whole serial h = grind (arith, nat_tests)

-- after a write at i
pub each_set : {X : Type 0} (P : ℕ → X → Type 0) (xs : List X) (i : ℕ) (v : X) → i < length xs → ((k : ℕ) (d : X) → k < i → P k (get_or xs k d)) → P i v
    → (k : ℕ) (d : X) → k < i + 1 → P k (get_or (set xs i v) k d)
each_set {X} P xs i v lt below here k d h =
    elim (cases_lt k i) [
      | inl less ↦ let ne : k ≢ i = omega arith in subst (P k) (sym (get_or-set_other xs i k v d ne)) (below k d less)
      | inr more ↦
          let e : i ≡ k = omega arith in
          let Q : ℕ → Type 0 = λ (j : ℕ). P j (get_or (set xs i v) j d) in
          subst Q e (subst (P i) (sym (get_or-set_same xs i v d lt)) here)
    ]

-- after a push
pub each_push : {X : Type 0} (P : ℕ → X → Type 0) (xs : List X) (n : ℕ) (v : X) → length xs ≡ n → EachAt P xs → P n v → EachAt P (xs ++ v ∷ [])
each_push {X} P xs n v len each here i d h =
    elim (cases_lt i (length xs)) [
      | inl less ↦ subst (P i) (sym (get_or_append_left xs (v ∷ []) d i less)) (each i d less)
      | inr more ↦
          let e : n ≡ i = omega (arith, length-append xs (v ∷ [])) in
          let Q : ℕ → Type 0 = λ (j : ℕ). P j (get_or (xs ++ v ∷ []) j d) in
          subst Q e (subst (P n) (sym (get_or_push xs v d n len)) here)
    ]

-- numbers of four bytes
abbrev pub AreWide : List ℕ → Type 0
AreWide xs = All (λ x. x < 2 ^ 32) xs

-- each member is a byte, also past the end
abbrev pub IsBytes : List ℕ → Type 0
IsBytes bytes = (i : ℕ) → get_or bytes i 0 < 256

pub all_bytes : (bytes : List ℕ) → AreBytes bytes → IsBytes bytes
all_bytes bytes are_bytes i =
    elim (cases_lt i (length bytes)) [
      | inl less ↦ are_bytes i 0 less
      | inr more ↦ rw (get_or_past bytes i 0 more) (omega arith)
    ]

-- these bytes are in the file at an offset
pub record HasBytes (bytes : List ℕ) (offset : ℕ) (part : List ℕ) : Type 0 where
  pub is : take (length part) (drop offset bytes) ≡ part

pub bytes_whole : (bytes : List ℕ) → HasBytes bytes 0 bytes
bytes_whole bytes = record { is = ap (take (length bytes)) (sym (append-nil bytes)) ∙ take_at bytes [] (length bytes) refl }

-- two parts that follow each other
pub bytes_join : (bytes : List ℕ) (p q : ℕ) (xs ys : List ℕ) → q ≡ p + length xs → HasBytes bytes p xs → HasBytes bytes q ys → HasBytes bytes p (xs ++ ys)
bytes_join bytes p q xs ys e a b = record {
  is = ap (λ (n : ℕ). take n (drop p bytes)) (length-append xs ys) ∙ take-add (length xs) (length ys) (drop p bytes)
      ∙ ap (λ (l : List ℕ). l ++ take (length ys) (drop (length xs) (drop p bytes))) a.is
      ∙ ap (λ (l : List ℕ). xs ++ take (length ys) l) (drop-drop (length xs) p bytes) ∙ ap (λ (k : ℕ). xs ++ take (length ys) (drop k bytes)) (sym e)
      ∙ ap (λ (l : List ℕ). xs ++ l) b.is;
}

pub bytes_left : (bytes : List ℕ) (p : ℕ) (xs ys : List ℕ) → HasBytes bytes p (xs ++ ys) → HasBytes bytes p xs
bytes_left bytes p xs ys s = record {
  is = sym (take-take (length xs) (length (xs ++ ys)) (drop p bytes) (omega (arith, length-append xs ys))) ∙ ap (take (length xs)) s.is ∙ take_at xs ys (length xs) refl;
}

pub bytes_right : (bytes : List ℕ) (p q : ℕ) (xs ys : List ℕ) → q ≡ p + length xs → HasBytes bytes p (xs ++ ys) → HasBytes bytes q ys
bytes_right bytes p q xs ys e s = record {
  is = ap (λ (k : ℕ). take (length ys) (drop k bytes)) e ∙ ap (take (length ys)) (sym (drop-drop (length xs) p bytes))
      ∙ sym (drop-take (length xs) (length ys) (drop p bytes)) ∙ ap (λ (n : ℕ). drop (length xs) (take n (drop p bytes))) (sym (length-append xs ys))
      ∙ ap (drop (length xs)) s.is ∙ drop_at xs ys (length xs) refl;
}

-- numbers that are read where they were written
number_read : (n : ℕ) (bytes : List ℕ) (p x : ℕ) → x < 256 ^ n → HasBytes bytes p (bytes_low_first 0 n x) → little_from p n bytes ≡ x
number_read n bytes p x lt s =
    let low_first = bytes_low_first 0 n x in let len : length low_first ≡ n = length-bytes_low_first 0 n x in
    ap (λ (k : ℕ). little_from k n bytes) (sym (add-zero p)) ∙ sym (little_from-drop n 0 p bytes) ∙ sym (little_from-take 0 n n (drop p bytes) (omega arith))
    ∙ ap (λ (m : ℕ). little_from 0 n (take m (drop p bytes))) (sym len) ∙ ap (little_from 0 n) (s.is ∙ sym (append-nil low_first))
    ∙ little_number-reads_back n x [] lt

pub word_read : (bytes : List ℕ) (p x : ℕ) → x < 2 ^ 32 → HasBytes bytes p (word_bytes x) → word_at bytes p ≡ x
unfolding word_at word_bytes
word_read bytes p x lt s = number_read 4 bytes p x lt s

pub long_read : (bytes : List ℕ) (p x : ℕ) → x < 2 ^ 64 → HasBytes bytes p (long_bytes x) → long_at bytes p ≡ x
unfolding long_at long_bytes
long_read bytes p x lt s = number_read 8 bytes p x lt s

-- and the bytes of a number that is read
bytes_range : (bytes : List ℕ) (p n : ℕ) → IsBytes bytes → IsBytes (take n (drop p bytes))
bytes_range bytes p n h i =
    elim (cases_lt i n) [
      | inl less ↦ rw (get_or-take n (drop p bytes) i 0 less, get_or-drop p bytes i 0) (h (p + i))
      | inr more ↦ rw (get_or_past (take n (drop p bytes)) i 0 (omega (arith, length-take n (drop p bytes)))) (omega arith)
    ]

number_there : (n : ℕ) (bytes : List ℕ) (p : ℕ) → little_from 0 n (take n (drop p bytes)) ≡ little_from p n bytes
number_there n bytes p = little_from-take 0 n n (drop p bytes) (omega arith) ∙ little_from-drop n 0 p bytes ∙ ap (λ (k : ℕ). little_from k n bytes) (add-zero p)

pub word_back : (bytes : List ℕ) (p : ℕ) → IsBytes bytes → p + 4 ≤ length bytes → HasBytes bytes p (word_bytes (word_at bytes p))
unfolding word_at word_bytes
word_back bytes p h room =
    let bs = take 4 (drop p bytes) in
    let len : length bs ≡ 4 = omega (arith, length-take 4 (drop p bytes), length-drop p bytes) in
    record { is = sym (le_bytes_4 bs (little_from p 4 bytes) len (bytes_range bytes p 4 h) (omega (arith, number_there 4 bytes p))) }

pub long_back : (bytes : List ℕ) (p : ℕ) → IsBytes bytes → p + 8 ≤ length bytes → HasBytes bytes p (long_bytes (long_at bytes p))
unfolding long_at long_bytes
long_back bytes p h room =
    let bs = take 8 (drop p bytes) in
    let len : length bs ≡ 8 = omega (arith, length-take 8 (drop p bytes), length-drop p bytes) in
    record { is = sym (le_bytes_8 bs (little_from p 8 bytes) len (bytes_range bytes p 8 h) (omega (arith, number_there 8 bytes p))) }

pub length-word_bytes : (x : ℕ) → length (word_bytes x) ≡ 4
unfolding word_bytes
length-word_bytes x = length-bytes_low_first 0 4 x

pub length-long_bytes : (x : ℕ) → length (long_bytes x) ≡ 8
unfolding long_bytes
length-long_bytes x = length-bytes_low_first 0 8 x

-- parts that are all of one length
abbrev pub HaveLength : {X : Type 0} → (X → List ℕ) → ℕ → List X → Type 0
HaveLength {X} f n xs = All (λ x. length (f x) ≡ n) xs

pub length-parts : {X : Type 0} (f : X → List ℕ) (n : ℕ) (xs : List X) → HaveLength f n xs → length (flat_map f xs) ≡ n * length xs
length-parts {X} f n [] len = omega arith
length-parts {X} f n (x ∷ xs) len =
    let ih = length-parts f n xs (λ k e lt. len (suc k) e (omega arith)) in
    let first : length (f x) ≡ n = len 0 x (omega arith) in
    length-append (f x) (flat_map f xs) ∙ omega arith

pub parts_read : {X : Type 0} (f : X → List ℕ) (n : ℕ) (bytes : List ℕ) (p : ℕ) (xs : List X) → HaveLength f n xs
    → HasBytes bytes p (flat_map f xs) → EachAt (λ i x. HasBytes bytes (p + n * i) (f x)) xs
parts_read {X} f n bytes p [] len s i d h = absurd (omega arith)
parts_read {X} f n bytes p (x ∷ xs) len s zero d h =
    let e : p ≡ p + n * zero = omega arith in
    subst (λ (q : ℕ). HasBytes bytes q (f x)) e (bytes_left bytes p (f x) (flat_map f xs) s)
parts_read {X} f n bytes p (x ∷ xs) len s (suc i) d h =
    let first = len 0 d (omega arith) in
    let rest = bytes_right bytes p (p + n) (f x) (flat_map f xs) (omega arith) s in
    let ih = parts_read f n bytes (p + n) xs (λ k e lt. len (suc k) e (omega arith)) rest i d (omega arith) in
    let e : p + n + n * i ≡ p + n * suc i = omega arith in
    subst (λ (q : ℕ). HasBytes bytes q (f (get_or xs i d))) e ih

pub parts_back : {X : Type 0} (f : X → List ℕ) (n : ℕ) (bytes : List ℕ) (p : ℕ) (xs : List X) → HaveLength f n xs
    → EachAt (λ i x. HasBytes bytes (p + n * i) (f x)) xs → HasBytes bytes p (flat_map f xs)
parts_back {X} f n bytes p [] len each = record { is = refl }
parts_back {X} f n bytes p (x ∷ xs) len each =
    let first = len 0 x (omega arith) in
    let at : p + n * 0 ≡ p = omega arith in let e : (i : ℕ) → p + n * suc i ≡ p + n + n * i = λ i. omega arith in
    bytes_join bytes p (p + n) (f x) (flat_map f xs) (omega arith) (subst (λ (q : ℕ). HasBytes bytes q (f x)) at (each 0 x (omega arith)))
    (parts_back f n bytes (p + n) xs (λ k d lt. len (suc k) d (omega arith)) (λ i d lt. subst (λ (q : ℕ). HasBytes bytes q (f (get_or xs i d))) (e i) (each (suc i) d (omega arith))))

-- words
four : (xs : List ℕ) → HaveLength word_bytes 4 xs
four xs i d lt = length-word_bytes (get_or xs i d)

pub length-words_bytes : (xs : List ℕ) → length (words_bytes xs) ≡ 4 * length xs
length-words_bytes xs = length-parts word_bytes 4 xs (four xs)

pub length-words_from : (bytes : List ℕ) (offset from n : ℕ) → length (words_from bytes offset from n) ≡ n
unfolding words_from
length-words_from bytes offset from n = length-map-range_with_len (λ i. word_at bytes (offset + (from + 4 * i))) 0 n

pub word_of : (bytes : List ℕ) (offset from n i d : ℕ) → i < n → get_or (words_from bytes offset from n) i d ≡ word_at bytes (offset + (from + 4 * i))
unfolding words_from
word_of bytes offset from n i d lt = get_or-map-range_with_len (λ i. word_at bytes (offset + (from + 4 * i))) 0 n i i d lt (omega arith)

pub words_made : (bytes : List ℕ) (offset from n : ℕ) (words : List ℕ) → length words ≡ n → ((i : ℕ) → i < n → get_or words i 0 ≡ word_at bytes (offset + (from + 4 * i)))
    → words ≡ words_from bytes offset from n
unfolding words_from
words_made bytes offset from n words len each = fill_by_all (λ i. word_at bytes (offset + (from + 4 * i))) words n 0 len each

pub words_read : (bytes : List ℕ) (offset from p n : ℕ) (xs : List ℕ) → p ≡ offset + from → n ≡ length xs → AreWide xs → HasBytes bytes p (words_bytes xs)
    → words_from bytes offset from n ≡ xs
words_read bytes offset from p n xs at count wide s =
    sym (words_made bytes offset from n xs (sym count) (λ i lt.
    let e : p + 4 * i ≡ offset + (from + 4 * i) = omega arith in let less : i < length xs = omega arith in
    sym (ap (word_at bytes) (sym e) ∙ word_read bytes (p + 4 * i) (get_or xs i 0) (wide i 0 less) (parts_read word_bytes 4 bytes p xs (four xs) s i 0 less))))

pub words_back : (bytes : List ℕ) (offset from p n : ℕ) → p ≡ offset + from → IsBytes bytes → p + 4 * n ≤ length bytes → HasBytes bytes p (words_bytes (words_from bytes offset from n))
words_back bytes offset from p n at h room =
    let xs = words_from bytes offset from n in
    let len = length-words_from bytes offset from n in
    parts_back word_bytes 4 bytes p xs (four xs) (λ i d lt.
    let e : p + 4 * i ≡ offset + (from + 4 * i) = omega arith in
    let one = word_of bytes offset from n i d (omega arith) in
    subst (λ (x : ℕ). HasBytes bytes (p + 4 * i) (word_bytes x)) (ap (word_at bytes) e ∙ sym one) (word_back bytes (p + 4 * i) h (omega arith)))
