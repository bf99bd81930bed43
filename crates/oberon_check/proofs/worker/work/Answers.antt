use Rattle.std.proofs.Common.{ap, ◌∙◌, arith}
use Rattle.oberon_claims.specs.Pass.{PassRecord}
use Rattle.oberon_check.proofs.Tops.{top, top_below, top_more}
use Rattle.oberon_check.proofs.Series.{done_more, adds_recordings}
use Rattle.oberon_check.proofs.worker.work.Goals as goal

pub loop-job-smaller : goal.loop-job-smaller
loop-job-smaller g c =
    let s = c.in-Some.ensures in
    let new = ap top c.in_ok-do_job.ensures.job.taken ∙ ap (λ (h : PassRecord). top h.taken) s.taken ∙ top_more _ _ s.above in
    let old = top_below _ _ s.above in
    let below = s.job in
    omega arith

pub loop-job-preserved : goal.loop-job-preserved
loop-job-preserved g c =
    let i = c.loop-job.invariant in
    let s = c.in-Some.ensures in
    let d = rw i.replayer at c.in_ok-do_job.ensures.job in
    let new = ap top d.taken ∙ ap (λ (h : PassRecord). top h.taken) s.taken ∙ top_more _ _ s.above in
    let below = s.job in record {
      replayer = c.do_job.ensures.kept ∙ i.replayer;
      book = d.book ∙ ap (λ (h : PassRecord). h.book) s.taken ∙ i.book;
      top = omega arith;
      recordings = adds_recordings c.args.r.now c.args.cut c.in-Some.job _ _ _ _ i.recordings d;
      done = done_more c.args.r.now c.args.cut c.in-Some.job _ _ _ _ _ i.done s.taken d;
    }

pub invariant_of-result : goal.invariant_of-result
invariant_of-result g c = search arith

pub do_job-requires-clause-job : goal.do_job-requires-clause-job
do_job-requires-clause-job g c = rw c.loop-job.invariant.replayer (search arith)
