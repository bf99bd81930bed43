-- The line of a recording file whose checkpoints are all true.
use Rattle.std.proofs.Common.{◌<◌, ℕ, List, arith, length, refl}
use Rattle.oberon_format.specs.Defined.{IsTrueAt}
use Rattle.oberon_format.specs.Recording.{RecordingParts, count_at, last_of}
use Rattle.oberon_check.specs.Line.{line_of}
use Rattle.oberon_check.specs.Versions.{TextIn}
use Rattle.oberon_check.specs.HeadlineWithDisk.{IsLineIn}
use Rattle.oberon_check.specs.declared.verdict.Verdict.TheVariants.{Accepted}
use Rattle.oberon_check.specs.declared.versions.Versions.{Versions}
use Rattle.oberon_check.proofs.InVersions.{lawful_in, verdict-line}

pub accepted-text : (v : Versions) (r : RecordingParts) (bytes : List ℕ) → TextIn v bytes r → ((k : ℕ) → k < length r.checkpoints → IsTrueAt r k)
    → IsLineIn v bytes (line_of (Accepted (last_of r) (count_at r (last_of r)))) 0
accepted-text v r bytes text truth = verdict-line v bytes r text (Accepted (last_of r) (count_at r (last_of r))) (record {
  true_at = λ k above within. truth k (omega (arith, (lawful_in v bytes r text).some));
  checkpoints_is = refl;
  steps_is = refl;
}) _ 0 refl refl
