use Rattle.std.proofs.Common.{◌≡◌, ◌∙◌, List, Ok, Err, ap, arith, get_or, inl, inr, replicate, ℕ}
use Rattle.std.proofs.lemmas.Bool.{cases_lt}
use Rattle.std.proofs.lemmas.List.{get_or-replicate, get_or_past}
use Rattle.hex.specs.Hex.{decode_sized}
use Rattle.hex.proofs.HexLemmas.{decode_sized-encode_lower}
use Rattle.oberon_shards.proofs.reading.digest_in.Goals as goal

pub returns-in-Ok-clause-name : goal.returns-in-Ok-clause-name
returns-in-Ok-clause-name c = λ name long bytes is.
    let read : Ok c.in-Ok.name ≡ Ok name = c.in-Ok.ensures ∙ ap (λ (t : List ℕ). decode_sized t 32) is ∙ decode_sized-encode_lower name 32 long bytes in
    cc

pub returns-in-Err-clause-bytes : goal.returns-in-Err-clause-bytes
returns-in-Err-clause-bytes c = λ i. elim (cases_lt i 32) [
  | inl less ↦ (let zeros : List ℕ = replicate 32 0 in let zero : get_or zeros i 0 ≡ 0 = get_or-replicate 32 i 0 0 less in omega (arith, zero))
  | inr more ↦ (let zeros : List ℕ = replicate 32 0 in let zero : get_or zeros i 0 ≡ 0 = get_or_past zeros i 0 more in omega (arith, zero))
]

pub returns-in-Err-clause-name : goal.returns-in-Err-clause-name
returns-in-Err-clause-name c = λ name long bytes is.
    let read : Err c.in-Err.field-0 ≡ Ok name = c.in-Err.ensures ∙ ap (λ (t : List ℕ). decode_sized t 32) is ∙ decode_sized-encode_lower name 32 long bytes in
    absurd cc
