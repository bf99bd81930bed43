use Rattle.std.proofs.Common.{arith}
use Rattle.risc_search.proofs.DueLemmas.{kinds-between, index-order}
use Rattle.risc_search.proofs.due.inputs_at.Goals as goal

pub slice_bounds-result-count : goal.slice_bounds-result-count
slice_bounds-result-count c = index-order c.args.events.now _ _ c.args.at _ c.first_from-first.ensures c.first_from-end.ensures (omega (arith, c.requires.below))

pub returns : goal.returns
returns c = kinds-between c.args.events.now _ _ c.args.at c.first_from-first.ensures c.first_from-end.ensures
