use Rattle.std.proofs.Common.{◌∙◌, arith}
use Rattle.std.proofs.lemmas.List.{take_rest}
use Rattle.std.proofs.KnownBytes.{Appends-trans}
use Rattle.std.proofs.Math.Seq.{take-add}
use Rattle.oberon_cli.proofs.sink.write_whole.Goals as goal

pub loop-turn-preserved : goal.loop-turn-preserved
loop-turn-preserved g c = record {
  within = omega (arith, c.in_ok-done.ensures.some.1);
  counted = omega (arith, c.loop-turn.invariant.counted, c.in_ok-done.ensures.some.0);
  gained = rw take-add
      (Appends-trans _ _ _ _ _ c.loop-turn.invariant.gained (rw take_rest at c.in_ok-done.ensures.bytes));
  goes = c.in_ok-done.ensures.goes ∙ c.loop-turn.invariant.goes;
}

pub returns-clause-prefix : goal.returns-clause-prefix
returns-clause-prefix g c = absurd (omega (arith, c.loop-turn.invariant.within, c.loop-turn.invariant.counted, c.loop-turn-test.false))
