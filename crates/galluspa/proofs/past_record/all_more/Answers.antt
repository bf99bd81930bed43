use Rattle.std.proofs.Common.{◌∙◌, arith, inr, subst, sym}
use Rattle.std.proofs.lemmas.Result.{err_from_is_err_and}
use Rattle.oberon_past.specs.Draft.{IsDraftOf}
use Rattle.oberon_past.specs.Run.{Run}
use Rattle.galluspa.proofs.DraftLemmas.{misdrafted, one-checkpoint}
use Rattle.galluspa.proofs.past_record.all_more.Goals as goal

pub returns-in_err-next-clause-refused : goal.returns-in_err-next-clause-refused
returns-in_err-next-clause-refused c =
    let i = c.loop-index.invariant in
    let from = err_from_is_err_and c.from_residual.result c.from_residual.ensures.1 in
    rw (from.1, from.2)
    (misdrafted c.args.past.now c.loop-index.past c.args.draft c.loop-index.draft c.args.counts.now c.args.recorded c.loop-index.index _
    i.longer.run i.longer.end i.low (omega (arith, c.loop-index-test.true)) i.checkpoints i.truth c.in_err-next.ensures.refused)

pub loop-index-preserved : goal.loop-index-preserved
loop-index-preserved c =
    let i = c.loop-index.invariant in
    let on = c.one_more.ensures.longer in
    let next = c.in-Done.next in
    let truth = rw c.in-Done.is at c.in_ok-next.ensures.truth in
    let more = rw c.in-Done.is at c.in_ok-next.ensures.more in
    record {
      low = omega (arith, i.low);
      high = omega (arith, c.loop-index-test.true);
      checkpoints =
          one-checkpoint c.args.draft.recording c.loop-index.draft.recording next.recording c.args.counts.now c.args.recorded c.loop-index.index
          i.low i.checkpoints more;
      truth = λ is.
          subst (λ (r : Run). IsDraftOf r next) i.longer.run
          (truth (subst (λ (r : Run). IsDraftOf r c.loop-index.draft) (sym i.longer.run) (i.truth is)));
      longer = record {
        run = on.run ∙ i.longer.run;
        end = on.end ∙ i.longer.end;
        spacing = on.spacing ∙ i.longer.spacing;
        keyframes = omega (arith, on.keyframes, i.longer.keyframes);
        pages = omega (arith, on.pages, i.longer.pages);
      };
      more = inr (omega (arith, i.low));
    }
