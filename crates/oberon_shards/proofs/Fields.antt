-- The fields of a line: where it is cut, and what they are read as.
use Rattle.std.proofs.Common.{◌≡◌, ◌≢◌, ◌∙◌, ℕ, ◌+◌, ◌-◌, ◌<◌, ◌≤◌, ◌/◌, ◌%◌, ◌==◌, ◌&&◌, not, Bool, cond, false, zero, suc, List, [], ◌∷◌, ◌++◌, Some, arith, rules, eqb, true, None, refl, sym, ap, subst, inl, inr, length, take, drop, get_or}
use Rattle.std.proofs.lemmas.Bool.{and_parts, cases_lt, eqb-false, eqb-true, not-true}
use lib.Seq.{take-append_seam}
use Rattle.std.proofs.lemmas.List.{get_or_append_left, get_or-append-add, length-append, append_assoc, append_cancel_left, take_all, get_or_past}
use Rattle.std.proofs.lemmas.List.Prefix.{front_rest}
use Rattle.std.specs.Str.Iter.{LacksByte}
use Rattle.memchr.specs.Find.{IsFirstByte, is_byte}
use Rattle.std.specs.Prelude.{codes, slice_index}
use Rattle.std.specs.Fmt.{decimal, digit_glyph, digits, digits_onto}
use Rattle.hex.specs.Hex.{encode_lower, encode_with, lower_digits}
use Rattle.oberon_shards.specs.declared.shard.Shard.{Shard}
use Rattle.oberon_shards.specs.declared.shard.Finding.{Finding}
use Rattle.oberon_shards.specs.declared.shard.Finding.TheVariants.{Holds, Fails, Refused}
use Rattle.oberon_shards.specs.Lines.{IsSame}
use Rattle.oberon_shards.specs.Shard.{finding_word, shard_line}

-- the byte after those that lack it
found_at : (byte : ℕ) (before after : List ℕ) → get_or (before ++ byte ∷ after) (length before) 0 ≡ byte
found_at byte before after =
    let e : length before + 0 ≡ length before = omega arith in
    ap (λ (n : ℕ). get_or (before ++ byte ∷ after) n 0) (sym e) ∙ get_or-append-add before (byte ∷ after) 0 0

eqb-same : (n : ℕ) → eqb n n ≡ true
eqb-same n = search rules

-- the first such byte is where the text is cut
pub first_cut : (byte at : ℕ) (text before after : List ℕ) → IsFirstByte (is_byte byte) text (Some at) → LacksByte byte before → text ≡ before ++ byte ∷ after
    → at ≡ length before
first_cut byte at text before after first lacks is =
    let found : get_or text (length before) 0 ≡ byte = rw is (found_at byte before after) in
    let here : get_or text at 0 ≡ byte = eqb-true _ _ first.1 in
    elim (cases_lt at (length before)) [
      | inl less ↦
          let inside : get_or text at 0 ≡ get_or before at 0 = rw is (get_or_append_left before (byte ∷ after) 0 at less) in
          absurd (lacks at less (sym inside ∙ here))
      | inr more ↦ elim (cases_lt (length before) at) [
        | inl earlier ↦ absurd (first.0.before (length before) (omega arith) earlier (rw found (eqb-same byte)))
        | inr same ↦ omega (arith, more, same)
      ]
    ]

pub cut_here : (byte at : ℕ) (text before after : List ℕ) → IsFirstByte (is_byte byte) text (Some at) → LacksByte byte before → text ≡ before ++ byte ∷ after
    → (take at text ≡ before) × (take (length text - (at + 1)) (drop (at + 1) text) ≡ after)
cut_here byte at text before after first lacks is =
    let place : at ≡ length before = first_cut byte at text before after first lacks is in
    let whole : text ≡ (before ++ byte ∷ []) ++ after = is ∙ sym (append_assoc before (byte ∷ []) after) in
    let long : length (before ++ byte ∷ []) ≡ at + 1 = omega (arith, length-append before (byte ∷ []), place) in
    let rest : drop (at + 1) text ≡ after = subst (λ (n : ℕ). drop n text ≡ after) long (front_rest text (before ++ byte ∷ []) after whole) in
    let all : length text ≡ at + 1 + length after = omega (arith, ap length whole, length-append (before ++ byte ∷ []) after, long) in
    let fits : length after ≤ length text - (at + 1) = omega (arith, all) in
    (rw (place, is) (take-append_seam before (byte ∷ after)), rw rest (take_all (length text - (at + 1)) after fits))

-- a text that is cut has the byte
pub uncut : (byte : ℕ) (text before after : List ℕ) → IsFirstByte (is_byte byte) text None → text ≡ before ++ byte ∷ after → ⊥
uncut byte text before after none is =
    let found : get_or text (length before) 0 ≡ byte = rw is (found_at byte before after) in
    let inside : length before < length text = omega (arith, ap length is, length-append before (byte ∷ after)) in
    none (length before) (omega arith) inside (rw found (eqb-same byte))

-- the fields of a shard's line, and what comes after it
abbrev pub shard_fields : Shard → List ℕ → List ℕ
shard_fields s more =
    codes "shard" ++ 32 ∷ (encode_lower s.digest ++ 32 ∷ (decimal s.from ++ 32 ∷ (decimal s.to ++ 32 ∷ (decimal s.last
    ++ 32 ∷ ((finding_word s.finding ++ codes ":") ++ 32 ∷ (s.line.items ++ more))))))

-- a field, the space after it and the rest, before more
pub joined : (a b rest more : List ℕ) → b ++ more ≡ rest → (a ++ 32 ∷ b) ++ more ≡ a ++ 32 ∷ rest
joined a b rest more is = append_assoc a (32 ∷ b) more ∙ ap (λ (x : List ℕ). a ++ 32 ∷ x) is

pub fields_are : (s : Shard) (more : List ℕ) → shard_line s ++ more ≡ shard_fields s more
fields_are s more =
    let word : (finding_word s.finding ++ (codes ": " ++ s.line.items)) ++ more ≡ (finding_word s.finding ++ codes ":") ++ 32 ∷ (s.line.items ++ more) =
    ap (λ (x : List ℕ). x ++ more) (sym (append_assoc (finding_word s.finding) (codes ":") (32 ∷ s.line.items)))
    ∙ joined (finding_word s.finding ++ codes ":") s.line.items _ more refl in
    ap (λ (x : List ℕ). codes "shard " ++ x) (joined (encode_lower s.digest) _ _ more (joined (decimal s.from) _ _ more (joined (decimal s.to) _ _ more (joined (decimal s.last) _ _ more word))))

-- the test that no byte of a text is this one, which computes
unfoldable pub lacks : ℕ → List ℕ → Bool
lacks byte [] = true
lacks byte (x ∷ xs) = not (x == byte) && lacks byte xs

pub lacks_cons : (byte x : ℕ) (xs : List ℕ) → x ≢ byte → LacksByte byte xs → LacksByte byte (x ∷ xs)
lacks_cons byte x xs differs rest zero inside is = differs is
lacks_cons byte x xs differs rest (suc k) inside is = rest k (omega arith) is

pub lacks_append : (byte : ℕ) (xs ys : List ℕ) → LacksByte byte xs → LacksByte byte ys → LacksByte byte (xs ++ ys)
lacks_append byte [] ys first second = second
lacks_append byte (x ∷ xs) ys first second = lacks_cons byte x (xs ++ ys) (first 0 (omega arith)) (lacks_append byte xs ys (λ k inside. first (suc k) (omega arith)) second)

pub lacks_text : (byte : ℕ) (xs : List ℕ) → lacks byte xs ≡ true → LacksByte byte xs
unfolding lacks
lacks_text byte [] is = λ k inside. absurd (omega arith)
lacks_text byte (x ∷ xs) is =
    let parts = and_parts (not (x == byte)) (lacks byte xs) is in
    lacks_cons byte x xs (eqb-false x byte (not-true _ parts.0)) (lacks_text byte xs parts.1)

-- hexadecimal digits have no space
digit_lacks : (n : ℕ) → slice_index lower_digits n ≢ 32
unfolding lacks
digit_lacks n = elim (cases_lt n 16) [
  | inl less ↦ lacks_text 32 lower_digits refl n less
  | inr more ↦ λ is. (let past : slice_index lower_digits n ≡ 0 = get_or_past lower_digits n 0 more in absurd (omega (arith, past, is)))
]

pub hex_lacks : (xs : List ℕ) → LacksByte 32 (encode_lower xs)
unfolding encode_with
hex_lacks [] = λ k inside. absurd (omega arith)
hex_lacks (x ∷ xs) = lacks_cons 32 _ (slice_index lower_digits (x % 16) ∷ encode_lower xs) (digit_lacks (x / 16)) (lacks_cons 32 _ (encode_lower xs) (digit_lacks (x % 16)) (hex_lacks xs))

-- decimal digits have no byte below 48
digits_lack : (byte k n : ℕ) (rest : List ℕ) → byte < 48 → LacksByte byte rest → LacksByte byte (digits_onto k 10 false n rest)
digits_lack byte zero n rest small lack = lack
digits_lack byte (suc k) n rest small lack = go (n / 10 == 0) (digits_lack byte k (n / 10) (digit_glyph false (n % 10) ∷ rest) small)
  where
    glyph : 48 + n % 10 ≢ byte
    glyph is = absurd (omega (arith, small, is))

    digit : digit_glyph false (n % 10) ≡ 48 + n % 10
    digit = search rules

    more : LacksByte byte (digit_glyph false (n % 10) ∷ rest)
    more = lacks_cons byte (digit_glyph false (n % 10)) rest (λ is. glyph (sym digit ∙ is)) lack

    go : (b : Bool) → (LacksByte byte (digit_glyph false (n % 10) ∷ rest) → LacksByte byte (digits_onto k 10 false (n / 10) (digit_glyph false (n % 10) ∷ rest)))
        → LacksByte byte (cond b (digit_glyph false (n % 10) ∷ rest) (digits_onto k 10 false (n / 10) (digit_glyph false (n % 10) ∷ rest)))
    go true others = more
    go false others = others more

pub decimal_lacks : (byte n : ℕ) → byte < 48 → LacksByte byte (decimal n)
unfolding digits
decimal_lacks byte n small = digits_lack byte 64 n [] small (λ k inside. absurd (omega arith))

pub finding_lacks : (f : Finding) → LacksByte 32 (finding_word f ++ codes ":")
unfolding lacks
finding_lacks Holds = lacks_text 32 (finding_word Holds ++ codes ":") refl
finding_lacks Fails = lacks_text 32 (finding_word Fails ++ codes ":") refl
finding_lacks Refused = lacks_text 32 (finding_word Refused ++ codes ":") refl

-- the lines of shards with the same parts
pub same_line : (s t : Shard) → IsSame s t → shard_line t ≡ shard_line s
same_line s t same = rw (same.digest_is, same.from_is, same.to_is, same.last_is, same.finding_is, same.line_is) refl

pub same_rest : (s t : Shard) (text more rest : List ℕ) → IsSame s t → text ≡ shard_line s ++ more → text ≡ shard_line t ++ rest → more ≡ rest
same_rest s t text more rest same is begins =
    append_cancel_left (shard_line s) more rest (sym is ∙ begins ∙ ap (λ (x : List ℕ). x ++ rest) (same_line s t same))
