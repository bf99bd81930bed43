use Rattle.std.proofs.Common.{◌≡◌, length}
use Rattle.oberon_answers.specs.inner.Replaying.{AreFirst}
use Rattle.oberon_answers.proofs.checking.first_verdicts.Given as goal

abbrev pub invariant-loop-segment : goal.invariant-loop-segment
invariant-loop-segment l = record {
  first : AreFirst l.r l.verdicts.items;
  next : length l.verdicts.items ≡ l.segment;
}
