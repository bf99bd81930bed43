use Rattle.std.proofs.Common.{◌≡◌, ◌++◌, map}
use Rattle.std.specs.Prelude.{Ok}
use Rattle.oberon_check.proofs.check.shares_of.Given as goal

abbrev pub invariant-loop-result : goal.invariant-loop-result
invariant-loop-result l = record {
  shares : map Ok l.done.items ≡ l.yielded;
  rest : l.yielded ++ l.result-iterator.rest.items ≡ l.fn.results.items;
}
