-- A line of a shard has one reading.
use Rattle.std.proofs.Common.{◌≡◌, ◌∙◌, ℕ, suc, ◌<◌, ◌^◌, List, [], ◌∷◌, ◌++◌, Ok, arith, refl, sym, ap, codes, get_or}
use Rattle.std.proofs.lemmas.Fmt.{decimal_injective}
use Rattle.std.proofs.lemmas.List.{append_cancel_right}
use Rattle.std.specs.Fmt.{decimal}
use Rattle.std.specs.Str.Iter.{LacksByte}
use Rattle.hex.specs.Hex.{decode_of, encode_lower}
use Rattle.hex.proofs.HexLemmas.{decode_of-encode_lower, decode_of-same}
use Rattle.oberon_format.specs.Line.{refused_line}
use Rattle.oberon_shards.specs.declared.shard.Finding.{Finding}
use Rattle.oberon_shards.specs.declared.shard.Finding.TheVariants.{Holds, Fails, Refused}
use Rattle.oberon_shards.specs.Shard.{byte_of, finding_word}
use Rattle.oberon_shards.specs.Laws.{HasOneReading}
use Rattle.oberon_shards.specs.Lines.{HasLine}
use Rattle.oberon_shards.specs.inner.Reading.{fault_number}
use Rattle.oberon_shards.proofs.Fields.{decimal_lacks, fields_are, finding_lacks, hex_lacks, lacks, lacks_text, shard_fields}
use Rattle.oberon_shards.proofs.LineFields.{accepted_fields, false_fields, fault_line_is, fault_name, fit, moved, name_lacks, refused_fields}

-- a text is cut at the first such byte in one way
one_cut : (byte : ℕ) (a b x y : List ℕ) → LacksByte byte a → LacksByte byte b → a ++ byte ∷ x ≡ b ++ byte ∷ y → (a ≡ b) × (x ≡ y)
one_cut byte [] [] x y la lb is = (refl, cc)
one_cut byte [] (d ∷ b) x y la lb is = absurd (lb 0 (omega arith) (let same : byte ≡ d = cc in sym same))
one_cut byte (c ∷ a) [] x y la lb is = absurd (la 0 (omega arith) cc)
one_cut byte (c ∷ a) (d ∷ b) x y la lb is =
    let head : c ≡ d = cc in
    let tail : a ++ byte ∷ x ≡ b ++ byte ∷ y = cc in
    let rest = one_cut byte a b x y (λ k inside. la (suc k) (omega arith)) (λ k inside. lb (suc k) (omega arith)) tail in
    (rw (head, rest.0) refl, rest.1)

one_word : (f g : Finding) → finding_word f ≡ finding_word g → f ≡ g
one_word Holds Holds is = refl
one_word Fails Fails is = refl
one_word Refused Refused is = refl
one_word Holds Fails is = (let first : 104 ≡ 102 = ap (λ (x : List ℕ). get_or x 0 0) is in absurd (omega (arith, first)))
one_word Holds Refused is = (let first : 104 ≡ 114 = ap (λ (x : List ℕ). get_or x 0 0) is in absurd (omega (arith, first)))
one_word Fails Holds is = (let first : 102 ≡ 104 = ap (λ (x : List ℕ). get_or x 0 0) is in absurd (omega (arith, first)))
one_word Fails Refused is = (let first : 102 ≡ 114 = ap (λ (x : List ℕ). get_or x 0 0) is in absurd (omega (arith, first)))
one_word Refused Holds is = (let first : 114 ≡ 104 = ap (λ (x : List ℕ). get_or x 0 0) is in absurd (omega (arith, first)))
one_word Refused Fails is = (let first : 114 ≡ 102 = ap (λ (x : List ℕ). get_or x 0 0) is in absurd (omega (arith, first)))

-- a line of a recording has one count
one_count : (f : Finding) (to last c d : ℕ) (line : List ℕ) → c < 2 ^ 64 → d < 2 ^ 64 → HasLine f to last c line → HasLine f to last d line → c ≡ d
unfolding lacks
one_count Holds to last c d line fc fd isc isd =
    let whole = sym (accepted_fields last c []) ∙ ap (λ (x : List ℕ). x ++ []) (sym isc ∙ isd) ∙ accepted_fields last d [] in
    let a = one_cut 32 (codes "accepted") (codes "accepted") _ _ (lacks_text 32 (codes "accepted") refl) (lacks_text 32 (codes "accepted") refl) whole in
    let k = one_cut 32 (decimal last) (decimal last) _ _ (decimal_lacks 32 last (omega arith)) (decimal_lacks 32 last (omega arith)) a.1 in
    let b = one_cut 32 (codes "checkpoints") (codes "checkpoints") _ _ (lacks_text 32 (codes "checkpoints") refl) (lacks_text 32 (codes "checkpoints") refl) k.1 in
    let n = one_cut 32 (decimal c) (decimal d) _ _ (decimal_lacks 32 c (omega arith)) (decimal_lacks 32 d (omega arith)) b.1 in
    decimal_injective c d fc fd n.0
one_count Fails to last c d line fc fd isc isd =
    let whole = sym (false_fields to c isc.0 []) ∙ ap (λ (x : List ℕ). x ++ []) (sym isc.2 ∙ isd.2) ∙ false_fields to d isd.0 [] in
    let a = one_cut 32 (codes "false") (codes "false") _ _ (lacks_text 32 (codes "false") refl) (lacks_text 32 (codes "false") refl) whole in
    let b = one_cut 32 (codes "checkpoint") (codes "checkpoint") _ _ (lacks_text 32 (codes "checkpoint") refl) (lacks_text 32 (codes "checkpoint") refl) a.1 in
    let k = one_cut 32 (decimal to) (decimal to) _ _ (decimal_lacks 32 to (omega arith)) (decimal_lacks 32 to (omega arith)) b.1 in
    let e = one_cut 32 (codes "at") (codes "at") _ _ (lacks_text 32 (codes "at") refl) (lacks_text 32 (codes "at") refl) k.1 in
    let n = one_cut 32 (decimal c) (decimal d) _ _ (decimal_lacks 32 c (omega arith)) (decimal_lacks 32 d (omega arith)) e.1 in
    decimal_injective c d fc fd n.0
one_count Refused to last c d line fc fd isc isd =
    let named : refused_line (fault_number isc.0) (fault_name isc.0) (byte_of isc.0) ≡ refused_line (fault_number isd.0) (fault_name isd.0) (byte_of isd.0) =
    sym (fault_line_is isc.0 isc.1) ∙ sym isc.3 ∙ isd.3 ∙ fault_line_is isd.0 isd.1 in
    let whole = sym (refused_fields (fault_number isc.0) (fault_name isc.0) (byte_of isc.0) []) ∙ ap (λ (x : List ℕ). x ++ []) named
    ∙ refused_fields (fault_number isd.0) (fault_name isd.0) (byte_of isd.0) [] in
    let a = one_cut 32 (codes "refused") (codes "refused") _ _ (lacks_text 32 (codes "refused") refl) (lacks_text 32 (codes "refused") refl) whole in
    let k = one_cut 32 (decimal (fault_number isc.0)) (decimal (fault_number isd.0)) _ _ (decimal_lacks 32 _ (omega arith)) (decimal_lacks 32 _ (omega arith)) a.1 in
    let m = one_cut 32 (fault_name isc.0) (fault_name isd.0) _ _ (name_lacks isc.0) (name_lacks isd.0) k.1 in
    let e = one_cut 32 (codes "at") (codes "at") _ _ (lacks_text 32 (codes "at") refl) (lacks_text 32 (codes "at") refl) m.1 in
    let b = one_cut 32 (codes "byte") (codes "byte") _ _ (lacks_text 32 (codes "byte") refl) (lacks_text 32 (codes "byte") refl) e.1 in
    let n = one_cut 10 (decimal (byte_of isc.0)) (decimal (byte_of isd.0)) _ _ (decimal_lacks 10 _ (omega arith)) (decimal_lacks 10 _ (omega arith)) b.1 in
    let same : byte_of isc.0 ≡ byte_of isd.0 = decimal_injective (byte_of isc.0) (byte_of isd.0) (rw isc.2 fc) (rw isd.2 fd) n.0 in
    sym isc.2 ∙ same ∙ isd.2

pub one_reading : HasOneReading
unfolding lacks
one_reading s t fs ft is =
    let whole : shard_fields s [] ≡ shard_fields t [] = sym (fields_are s []) ∙ ap (λ (x : List ℕ). x ++ []) is ∙ fields_are t [] in
    let small = fit s s.finding fs.in_ranges fs.few in
    let tall = fit t t.finding ft.in_ranges ft.few in
    let head = one_cut 32 (codes "shard") (codes "shard") _ _ (lacks_text 32 (codes "shard") refl) (lacks_text 32 (codes "shard") refl) whole in
    let digest = one_cut 32 (encode_lower s.digest) (encode_lower t.digest) _ _ (hex_lacks s.digest) (hex_lacks t.digest) head.1 in
    let from = one_cut 32 (decimal s.from) (decimal t.from) _ _ (decimal_lacks 32 s.from (omega arith)) (decimal_lacks 32 t.from (omega arith)) digest.1 in
    let to = one_cut 32 (decimal s.to) (decimal t.to) _ _ (decimal_lacks 32 s.to (omega arith)) (decimal_lacks 32 t.to (omega arith)) from.1 in
    let last = one_cut 32 (decimal s.last) (decimal t.last) _ _ (decimal_lacks 32 s.last (omega arith)) (decimal_lacks 32 t.last (omega arith)) to.1 in
    let finding = one_cut 32 (finding_word s.finding ++ codes ":") (finding_word t.finding ++ codes ":") _ _ (finding_lacks s.finding) (finding_lacks t.finding) last.1 in
    let line : t.line.items ≡ s.line.items = append_cancel_right t.line.items s.line.items [] (sym finding.1) in
    let decoded : decode_of (encode_lower s.digest) ≡ Ok t.digest = ap (λ (x : List ℕ). decode_of x) digest.0 ∙ decode_of-encode_lower t.digest ft.digest_bytes in
    let to_is : t.to ≡ s.to = sym (decimal_injective s.to t.to (omega (arith, small)) (omega (arith, tall)) to.0) in
    let last_is : t.last ≡ s.last = sym (decimal_injective s.last t.last (omega (arith, small)) (omega (arith, tall)) last.0) in
    let finding_is : t.finding ≡ s.finding = sym (one_word s.finding t.finding (append_cancel_right (finding_word s.finding) (finding_word t.finding) (codes ":") finding.0)) in
    let here : HasLine s.finding s.to s.last t.count s.line.items = moved t.finding s.finding t.to s.to t.last s.last t.count t.count t.line.items s.line.items finding_is to_is last_is refl line ft.line in
    record {
      digest_is = decode_of-same (encode_lower s.digest) t.digest s.digest decoded (decode_of-encode_lower s.digest fs.digest_bytes);
      from_is = sym (decimal_injective s.from t.from (omega (arith, small)) (omega (arith, tall)) from.0);
      to_is = to_is;
      last_is = last_is;
      finding_is = finding_is;
      count_is = one_count s.finding s.to s.last t.count s.count s.line.items ft.count_fits fs.count_fits here fs.line;
      line_is = line;
    }
