use Rattle.std.proofs.Common.{◌≡◌, ◌++◌, length}
use Rattle.std.specs.Prelude.{All}
use Rattle.oberon_check.specs.Work.{IsShareOf}
use Rattle.check_tests.proofs.tests.passes.work_in_turn.Given as goal

abbrev pub invariant-loop-pass : goal.invariant-loop-pass
invariant-loop-pass l = record {
  shares : All (IsShareOf l.r l.cut l.claims) l.done.items;
  count : length l.done.items ≡ length l.yielded;
  rest : l.yielded ++ l.pass-iterator.rest.items ≡ l.fn.passes.items;
}
