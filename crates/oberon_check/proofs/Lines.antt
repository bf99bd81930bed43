-- Any bytes have exactly one line with one status.
use Rattle.std.proofs.Common.{◌≡◌, ℕ, List, Option, None, Some, refl, ap, sym, ◌∙◌, subst}
use Rattle.std.specs.Prelude.{MatchOption}
use Rattle.oberon_format.specs.declared.fault.Fault.{Fault}
use Rattle.oberon_format.specs.Recording.{RecordingParts}
use Rattle.oberon_format.specs.Text.{AreBytes}
use Rattle.oberon_format.specs.Line.{fault_line}
use Rattle.oberon_check.specs.Verdict.{IsVerdict}
use Rattle.oberon_check.specs.Line.{line_of, status_of}
use Rattle.oberon_check.specs.Versions.{TextIn, first_fault_in}
use Rattle.oberon_check.specs.HeadlineWithDisk.{IsLineIn}
use Rattle.oberon_check.specs.declared.verdict.Verdict.{Verdict}
use Rattle.oberon_check.specs.declared.versions.Versions.{Versions}
use Rattle.oberon_check.proofs.Existence.{some_verdict}
use Rattle.oberon_check.proofs.InVersions.{HasEitherIn, HasOneIn, by-line, fault-as-line, fault-line, lawful_in, verdict-line}
use Rattle.oberon_check.proofs.Unique.{one_verdict}

module _ (v : Versions) (bytes : List ℕ) where
  -- the bytes have exactly one line with one status
  abbrev HasOneLine : Type 0
  HasOneLine =
      (line : List ℕ) × (status : ℕ) × IsLineIn v bytes line status
      × ((other : List ℕ) (number : ℕ) → IsLineIn v bytes other number → (other ≡ line) × (number ≡ status))

  of_recording : HasOneIn v → first_fault_in v bytes ≡ None → (r : RecordingParts) → TextIn v bytes r → HasOneLine
  of_recording one faultless r text = (
    line_of own.0,
    status_of own.0,
    verdict-line v bytes r text own.0 own.1 _ _ refl refl,
    λ other number.
        by-line v bytes other number ((other ≡ line_of own.0) × (number ≡ status_of own.0))
        (λ s is verdict is_verdict line_is status_is.
        let same : verdict ≡ own.0 = one_verdict r verdict own.0 (subst (λ (q : RecordingParts). IsVerdict q verdict) (one bytes s r is text) is_verdict) own.1 in
        (line_is ∙ ap line_of same, status_is ∙ ap status_of same))
        (λ fault first line_is status_is. let bad : None ≡ Some fault = sym faultless ∙ first in absurd (cc)),
  )
    where
      own : (verdict : Verdict) × IsVerdict r verdict
      own = some_verdict r (lawful_in v bytes r text)

  of_fault : (f : Fault) → first_fault_in v bytes ≡ Some f → ((r : RecordingParts) → ¬ (TextIn v bytes r)) → HasOneLine
  of_fault f first none = (
    fault_line f,
    2,
    fault-as-line v bytes _ _ (fault-line v bytes f first _ _ refl refl),
    λ other number.
        by-line v bytes other number ((other ≡ fault_line f) × (number ≡ 2))
        (λ r text verdict is_verdict line_is status_is. absurd (none r text))
        (λ fault is line_is status_is.
        let both : Some fault ≡ Some f = sym is ∙ first in
        let same : fault ≡ f = cc in
        (line_is ∙ ap fault_line same, status_is)),
  )

  pub one_line : HasOneIn v → HasEitherIn v → AreBytes bytes → HasOneLine
  one_line one either are = go (first_fault_in v bytes) refl (either bytes are)
    where
      go : (o : Option Fault) → first_fault_in v bytes ≡ o → MatchOption o ((r : RecordingParts) × TextIn v bytes r) (λ fault. (r : RecordingParts) → ¬ (TextIn v bytes r)) → HasOneLine
      go None e has = of_recording one e has.0 has.1
      go (Some f) e none = of_fault f e none
