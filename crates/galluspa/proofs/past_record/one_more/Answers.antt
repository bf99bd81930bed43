use Rattle.std.proofs.lemmas.Result.{IfErr-weaker, err_from_is_err_and}
use Rattle.galluspa.proofs.DraftLemmas.{same-fault}
use Rattle.galluspa.proofs.past_record.one_more.Goals as goal

pub returns-in_err-next-clause-refused : goal.returns-in_err-next-clause-refused
returns-in_err-next-clause-refused c =
    let i = c.loop-draft.invariant in
    let from = err_from_is_err_and c.from_residual.result c.from_residual.ensures.1 in
    rw (from.1, from.2) (record {
      draft = c.loop-draft.draft;
      same = i.same;
      truth = i.truth;
      is_fault = same-fault c.args.past.now c.loop-draft.past c.loop-draft.draft c.args.count _ i.longer.run i.longer.end c.in_err-next.ensures.refused;
    })

pub returns-clause-refused : goal.returns-clause-refused
returns-clause-refused c =
    let i = c.loop-draft.invariant in
    IfErr-weaker c.record-2.result _ _ (λ why is. record {
      draft = c.loop-draft.draft;
      same = i.same;
      truth = i.truth;
      is_fault = same-fault c.args.past.now c.loop-draft.past c.loop-draft.draft c.args.count why i.longer.run i.longer.end is;
    }) c.record-2.ensures.refused
