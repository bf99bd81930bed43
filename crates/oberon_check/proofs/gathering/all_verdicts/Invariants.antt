use Rattle.std.proofs.Common.{◌≡◌, ◌++◌}
use Rattle.std.specs.Prelude.{All}
use Rattle.oberon_check.specs.Work.{IsDone}
use Rattle.oberon_check.specs.Gathering.{passes_of, all_verdicts}
use Rattle.oberon_check.proofs.gathering.all_verdicts.Given as goal

abbrev pub invariant-loop-share : goal.invariant-loop-share
invariant-loop-share l = record {
  passes : l.passes.items ≡ passes_of l.yielded;
  verdicts : l.verdicts.items ≡ all_verdicts l.yielded;
  done : All IsDone l.yielded;
  rest : l.yielded ++ l.share-iterator.rest.items ≡ l.fn.done.items;
}
