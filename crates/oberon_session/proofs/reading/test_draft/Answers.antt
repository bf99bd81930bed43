use Rattle.std.proofs.lemmas.Bool.{iff_false}
use Rattle.std.proofs.lemmas.Result.{err_from_is_err_and}
use Rattle.oberon_session.proofs.RuleLemmas.{breaks-inputs, in-order, in-range, numbers-fit, numbers-rise}
use Rattle.oberon_session.proofs.reading.test_draft.Goals as goal

pub returns-then-not-is_in_range-clause-err : goal.returns-then-not-is_in_range-clause-err
returns-then-not-is_in_range-clause-err c =
    λ range. iff_false c.is_in_range.ensures c.if-not-is_in_range.true (numbers-fit c.args.draft.now range)

pub returns-in_err-inputs-clause-err : goal.returns-in_err-inputs-clause-err
returns-in_err-inputs-clause-err c =
    let from = err_from_is_err_and c.from_residual.result c.from_residual.ensures.1 in
    let err = rw c.deref.ensures.value at c.in_err-inputs.ensures.err in
    rw (from.1, from.2)
    (breaks-inputs c.args.draft.now (c.is_in_range.ensures.0 c.if-not-is_in_range.false) _ err)

pub returns-then-not-is_rising-clause-err : goal.returns-then-not-is_rising-clause-err
returns-then-not-is_rising-clause-err c =
    let fit = rw c.deref.ensures.value at c.in_ok-inputs.ensures.fit in (
      in-range c.args.draft.now (c.is_in_range.ensures.0 c.if-not-is_in_range.false) fit,
      λ order. iff_false c.is_rising.ensures c.if-not-is_rising.true (numbers-rise c.args.draft.now order),
    )

pub returns-clause-ok : goal.returns-clause-ok
returns-clause-ok c =
    let fit = rw c.deref.ensures.value at c.in_ok-inputs.ensures.fit in
    let order = rw c.deref.ensures.value at c.in_ok-inputs.ensures.order in
    record {
      range = in-range c.args.draft.now (c.is_in_range.ensures.0 c.if-not-is_in_range.false) fit;
      order = in-order c.args.draft.now (c.is_rising.ensures.0 c.if-not-is_rising.false) order;
      ordered = c.in_ok-inputs.ensures.ordered;
      numbers = rw c.deref.ensures.value at c.in_ok-inputs.ensures.numbers;
    }
