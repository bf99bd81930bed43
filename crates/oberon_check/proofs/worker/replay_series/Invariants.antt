use Rattle.std.proofs.Common.{◌≡◌}
use Rattle.oberon_check.proofs.Series.{HeldPiece}
use Rattle.oberon_check.proofs.worker.replay_series.Given as goal

abbrev pub invariant-loop-segment : goal.invariant-loop-segment
invariant-loop-segment l = record {
  pass : l.pass ≡ l.initial.pass;
  held : HeldPiece l.initial.replayer l.from l.segment l.initial.verdicts.items l.verdicts.items;
  kept : l.replayer ≡ l.initial.replayer;
}
