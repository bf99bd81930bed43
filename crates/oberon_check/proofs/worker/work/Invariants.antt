use Rattle.std.proofs.Common.{◌≡◌, ◌≤◌, ◌-◌}
use Rattle.std.specs.Prelude.{All}
use Rattle.oberon_format.specs.Recording.{last_of}
use Rattle.oberon_check.specs.Segment.{SegmentVerdictRecord}
use Rattle.oberon_check.specs.Work.{HasDone}
use Rattle.oberon_check.proofs.Tops.{top}
use Rattle.oberon_check.proofs.worker.work.Given as goal

abbrev pub invariant-loop-job : goal.invariant-loop-job
invariant-loop-job g l = record {
  replayer : l.replayer ≡ l.r;
  book : l.pass.book ≡ l.claims;
  top : top l.pass.taken ≤ l.claims.jobs;
  recordings : All (λ (v : SegmentVerdictRecord). v.recording ≡ l.r) l.verdicts.items;
  done : HasDone (last_of l.r) l.cut l.pass l.verdicts.items;
}

abbrev pub decreases-loop-job : goal.decreases-loop-job
decreases-loop-job g l = l.claims.jobs - top l.pass.taken
