-- The line of a recording whose segments hold, or hold up to one that fails.
use Rattle.std.proofs.Common.{◌≡◌, ℕ, ◌+◌, ◌<◌, List, Some, refl, arith, subst}
use Rattle.oberon_format.specs.Recording.{RecordingParts, count_at, last_of}
use Rattle.oberon_format.specs.Defined.{Outcome, claimed}
use Rattle.oberon_check.specs.declared.versions.Versions.{Versions}
use Rattle.oberon_check.specs.Versions.{TextIn}
use Rattle.oberon_check.specs.declared.part.Part.{Part}
use Rattle.oberon_check.specs.declared.verdict.Verdict.TheVariants.{Accepted, FalseAt}
use Rattle.oberon_check.specs.Difference.{first_difference}
use Rattle.oberon_check.specs.HeadlineWithDisk.{IsLineIn}
use Rattle.oberon_check.specs.Line.{line_of}
use Rattle.oberon_check.specs.Segment.{IsSegmentPart}
use Rattle.oberon_check.proofs.Replays.{HoldBelow, replayed-defined}
use Rattle.oberon_check.proofs.Collects.{true_to}
use Rattle.oberon_check.proofs.InVersions.{lawful_in, verdict-line}

-- all segments hold
pub accepted_line : (v : Versions) (bytes : List ℕ) (r : RecordingParts) → TextIn v bytes r → HoldBelow r (last_of r) → (line : List ℕ)
    → line ≡ line_of (Accepted (last_of r) (count_at r (last_of r))) → IsLineIn v bytes line 0
accepted_line v bytes r text hold line is =
    verdict-line v bytes r text (Accepted (last_of r) (count_at r (last_of r))) (record {
      true_at = λ k above within. true_to r (lawful_in v bytes r text) (last_of r) (omega arith) hold k above within;
      checkpoints_is = refl;
      steps_is = refl;
    }) line 0 is refl

-- segment i fails, and those below it hold
pub false_line : (v : Versions) (bytes : List ℕ) (r : RecordingParts) → TextIn v bytes r → (i : ℕ) (part : Part) → i < last_of r → HoldBelow r i → IsSegmentPart r i (Some part)
    → (line : List ℕ) → line ≡ line_of (FalseAt (i + 1) (count_at r (i + 1)) part) → IsLineIn v bytes line 1
false_line v bytes r text i part inside hold fails line is =
    verdict-line v bytes r text (FalseAt (i + 1) (count_at r (i + 1)) part) (record {
      above = omega arith;
      inside = omega arith;
      before = λ j some below. true_to r (lawful_in v bytes r text) i (omega arith) hold j some (omega arith);
      differs = subst (λ (x : Outcome). first_difference (claimed r (i + 1)) x ≡ Some part) (replayed-defined r (lawful_in v bytes r text) i inside hold) fails;
      count_is = refl;
    }) line 1 is refl
