use Rattle.oberon_format.proofs.Common.{ap, arith, encoding, false, refl, version, VERSION, VERSION_WITH_DISK, ℕ, ◌==◌, ◌∙◌, ◌≡◌}
use Rattle.oberon_format.proofs.Agree.{encoding_agrees, version_of}
use Rattle.oberon_format.proofs.LawfulLemmas.{parts_of_file}
use Rattle.oberon_format.proofs.PlainLemmas.{fault_other, writable_any}
use Rattle.oberon_format.proofs.laws.fault_of_parts_law.Goals as goal

pub returns : goal.returns
returns c = λ r fits.
    let any = writable_any r fits in
    let other : (version (encoding VERSION r) == VERSION_WITH_DISK) ≡ false = ap (λ (v : ℕ). v == VERSION_WITH_DISK) (version_of VERSION r refl any) in
    fault_other (encoding VERSION r) other ∙ encoding_agrees VERSION r refl (λ first. absurd (omega arith)) any
    ∙ parts_of_file VERSION r (λ is k d lt. (fits.checkpoints k d lt).unanswered)
