-- The answer of a check is the line of its report, and so are those of a shard and of lines of shards.
use Rattle.std.proofs.Common.{◌≡◌, ◌<◌, ◌≤◌, ◌∙◌, ◌+◌, ℕ, List, arith, ap, sym, inl, inr, length, take}
use Rattle.std.proofs.lemmas.Bool.{cases_lt}
use Rattle.std.proofs.lemmas.List.{take_all}
use Rattle.oberon_check.specs.declared.versions.Versions.{Versions}
use Rattle.oberon_check.specs.HeadlineWithDisk.{IsLineIn}
use Rattle.oberon_shards.specs.Combination.{IsCombination, IsShardReportIn}
use Rattle.oberon_cli.specs.Answer.{IsAnswer, longest_in}
use Rattle.oberon_cli.specs.declared.arguments.Request.{Request}
use Rattle.oberon_cli.specs.declared.arguments.Request.TheVariants.{Check, Combine, Shard}

pub check_answer : (request : Request) (versions : Versions) (workers cut : ℕ) (input text : List ℕ) (own status : ℕ) → request ≡ Check versions workers cut
    → IsLineIn versions input text own → status ≡ own → IsAnswer request input text status
check_answer request versions workers cut input text own status is line same = rw (is, same) line

pub combine_answer : (request : Request) (input text : List ℕ) (status : ℕ) → request ≡ Combine → IsCombination input text status → IsAnswer request input text status
combine_answer request input text status is line = rw is line

pub shard_answer : (request : Request) (versions : Versions) (index of : ℕ) (input text : List ℕ) (status : ℕ) → request ≡ Shard versions index of
    → IsShardReportIn versions (take (longest_in versions + 1) input) index of text status → IsAnswer request input text status
shard_answer request versions index of input text status is line = rw is line

-- the first k bytes are the first n, or all
pub first_bytes : (k n : ℕ) (bytes : List ℕ) → k ≤ n → (k < n → length bytes ≤ k) → take k bytes ≡ take n bytes
first_bytes k n bytes within whole = elim (cases_lt k n) [
  | inl less ↦ (let all = whole less in take_all k bytes all ∙ sym (take_all n bytes (omega (arith, all, within))))
  | inr more ↦ (let same : k ≡ n = omega (arith, within, more) in ap (λ (m : ℕ). take m bytes) same)
]
