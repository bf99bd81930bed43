use Rattle.std.proofs.Common.{◌≡◌, ◌∙◌, ◌+◌, ◌*◌, ap, length, min, refl, arith}
use Rattle.oberon_format.specs.Recording.{RecordingParts, last_of}
use Rattle.oberon_check.proofs.Series.{job_skipped, job_series}
use Rattle.oberon_check.proofs.worker.do_job.Goals as goal
use Rattle.oberon_check.proofs.worker.do_job.Goals.{then-cut-last, else-cut-last}

pub returns-then-is_skipped-clause-job : goal.returns-then-is_skipped-clause-job
returns-then-is_skipped-clause-job c =
    job_skipped c.args.replayer.now c.args.cut c.args.job _ _ _ c.is_skipped.ensures.looked (c.is_skipped.ensures.shown c.if-is_skipped.true)

pub returns-clause-job : goal.returns-clause-job
returns-clause-job c =
    let count = c.count-last.ensures.count ∙ ap (λ (r : RecordingParts). length r.checkpoints) c.recording.ensures in
    let below = c.requires.job in
    let end : c.if-cut-last.end ≡ min (c.args.job * c.args.cut + c.args.cut) (last_of c.args.replayer.now) =
    elim c.if-cut-last.branch [ then-cut-last w ↦ (let t = w.if-cut-last.true in let e = w.end-is in omega arith) | else-cut-last w ↦ (let t = w.if-cut-last.false in let e = w.end-is in omega arith) ] in
    job_series c.args.replayer.now c.args.cut c.args.job _ _ _ _ _ _ _ c.is_skipped.ensures.looked refl end c.in_ok-replay_series.ensures.series
