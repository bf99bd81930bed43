-- Lists after loops over them.
use Rattle.std.proofs.Common.{◌≡◌, ◌<◌, ◌≤◌, ◌+◌, ◌++◌, ◌∷◌, [], List, ℕ, suc, length, take, get_or, sym, ap, refl, ◌∙◌, append-nil, append_assoc, arith}
use Rattle.std.specs.Prelude.{slice_index_or, slice_set}
use Rattle.std.specs.List.{fold}
use Rattle.std.proofs.lemmas.Grind.{flat_map-append}
use Rattle.std.proofs.Math.Seq.{take-suc}
use Rattle.std.proofs.lemmas.List.{set_past}
use Rattle.std.proofs.lemmas.List.Sums.{fold-append}
use Rattle.recording_texts.specs.Bytes.{padded, word_bytes, words_bytes}
use Rattle.recording_texts.specs.Claims.{change_at, changes_below}

-- an index past the end is no index
pub past : {X : Type 0} (xs : List X) (i : ℕ) (y : X) → length xs ≤ i → xs ≡ slice_set xs i y
past xs i y far = sym (set_past xs i y far)

-- one item more, from the left
pub one_more : {A B : Type 0} (f : B → A → B) (a : B) (xs : List A) (j : ℕ) (d : A) → j < length xs →
    fold f a (take (suc j) xs) ≡ f (fold f a (take j xs)) (get_or xs j d)
one_more f a xs j d near = ap (fold f a) (take-suc xs j d near) ∙ fold-append f a (take j xs) (get_or xs j d ∷ [])

pub no_number : (numbers : List ℕ) → padded numbers 0 ≡ []
unfolding padded
no_number numbers = refl

next_number : (numbers : List ℕ) (n : ℕ) → padded numbers (suc n) ≡ padded numbers n ++ slice_index_or numbers n 0 ∷ []
unfolding padded
next_number numbers n = refl

pub one_number_more : (numbers : List ℕ) (n : ℕ) → padded numbers (n + 1) ≡ padded numbers n ++ slice_index_or numbers n 0 ∷ []
one_number_more numbers n = ap (padded numbers) (omega arith) ∙ next_number numbers n

pub one_word_more : (numbers : List ℕ) (n : ℕ) →
    words_bytes (padded numbers (n + 1)) ≡ words_bytes (padded numbers n) ++ word_bytes (slice_index_or numbers n 0)
one_word_more numbers n = ap words_bytes (one_number_more numbers n) ∙ flat_map-append word_bytes (padded numbers n) (slice_index_or numbers n 0 ∷ [])
    ∙ ap (λ (bytes : List ℕ). words_bytes (padded numbers n) ++ bytes) (append-nil (word_bytes (slice_index_or numbers n 0)))

-- one byte more, after those before
pub one_key_more : (start keys bytes new : List ℕ) (i key : ℕ) → new ≡ bytes ++ key ∷ [] → bytes ≡ start ++ padded keys i →
    key ≡ slice_index_or keys i 0 → new ≡ start ++ padded keys (i + 1)
one_key_more start keys bytes new i key pushed before is =
    pushed ∙ ap (λ (bs : List ℕ). bs ++ key ∷ []) before ∙ append_assoc start (padded keys i) (key ∷ [])
    ∙ ap (λ (k : ℕ). start ++ (padded keys i ++ k ∷ [])) is ∙ ap (λ (bs : List ℕ). start ++ bs) (sym (one_number_more keys i))

-- one word more, after those before
pub one_word_after : (start words bytes new : List ℕ) (i word : ℕ) → new ≡ bytes ++ word_bytes word → bytes ≡ start ++ words_bytes (padded words i) →
    word ≡ slice_index_or words i 0 → new ≡ start ++ words_bytes (padded words (i + 1))
one_word_after start words bytes new i word pushed before is =
    pushed ∙ ap (λ (bs : List ℕ). bs ++ word_bytes word) before ∙ append_assoc start (words_bytes (padded words i)) (word_bytes word)
    ∙ ap (λ (w : ℕ). start ++ (words_bytes (padded words i) ++ word_bytes w)) is ∙ ap (λ (bs : List ℕ). start ++ bs) (sym (one_word_more words i))

-- nothing, after those before
pub none_after : (start numbers : List ℕ) → start ≡ start ++ padded numbers 0
none_after start numbers = sym (ap (λ (bs : List ℕ). start ++ bs) (no_number numbers) ∙ append-nil start)

pub no_word_after : (start words : List ℕ) → start ≡ start ++ words_bytes (padded words 0)
no_word_after start words = sym (ap (λ (ws : List ℕ). start ++ words_bytes ws) (no_number words) ∙ append-nil start)

pub no_change : (before after : List ℕ) → changes_below before after 0 ≡ []
unfolding changes_below
no_change before after = refl

next_change : (before after : List ℕ) (n : ℕ) → changes_below before after (suc n) ≡ changes_below before after n ++ change_at before after n
unfolding changes_below
next_change before after n = refl

pub one_change_more : (before after : List ℕ) (n : ℕ) → changes_below before after (n + 1) ≡ changes_below before after n ++ change_at before after n
one_change_more before after n = ap (changes_below before after) (omega arith) ∙ next_change before after n
