use Rattle.std.proofs.lemmas.Bool.{iff_false}
use Rattle.oberon_session.proofs.PartLemmas.{in-order, in-range, order-rises, parts-lawful, range-fits}
use Rattle.oberon_session.proofs.parts.parts_fault.Goals as goal

pub returns-then-not-are_in_range-clause-some : goal.returns-then-not-are_in_range-clause-some
returns-then-not-are_in_range-clause-some c =
    λ range. iff_false c.are_in_range.ensures c.if-not-are_in_range.true
    (range-fits c.args.cpu.now c.args.rate c.args.phase c.args.pages.now c.args.inputs.now c.args.counts.now range)

pub returns-then-not-are_in_order-clause-some : goal.returns-then-not-are_in_order-clause-some
returns-then-not-are_in_order-clause-some c = (
  in-range c.args.cpu.now c.args.rate c.args.phase c.args.pages.now c.args.inputs.now c.args.counts.now
      (c.are_in_range.ensures.0 c.if-not-are_in_range.false),
  λ order. iff_false c.are_in_order.ensures c.if-not-are_in_order.true
      (order-rises c.args.cpu.now c.args.rate c.args.phase c.args.pages.now c.args.inputs.now c.args.counts.now order),
)

pub returns-clause-none : goal.returns-clause-none
returns-clause-none c =
    parts-lawful c.args.cpu.now c.args.rate c.args.phase c.args.pages.now c.args.inputs.now c.args.counts.now
    (in-range c.args.cpu.now c.args.rate c.args.phase c.args.pages.now c.args.inputs.now c.args.counts.now
    (c.are_in_range.ensures.0 c.if-not-are_in_range.false))
    (in-order c.args.cpu.now c.args.rate c.args.phase c.args.pages.now c.args.inputs.now c.args.counts.now
    (c.are_in_order.ensures.0 c.if-not-are_in_order.false))
    c.events-events.ensures.ordered
