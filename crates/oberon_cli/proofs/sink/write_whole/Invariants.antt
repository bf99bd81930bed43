use Rattle.std.proofs.Common.{◌≤◌, length, take}
use Rattle.std.specs.Io.KnownBytes.{Appends}
use Rattle.oberon_cli.specs.Transfer.{Goes}
use Rattle.oberon_cli.proofs.sink.write_whole.Given as goal

abbrev pub invariant-loop-turn : goal.invariant-loop-turn
invariant-loop-turn g l = record {
  within : l.done ≤ length l.bytes;
  counted : l._turn ≤ l.done;
  gained : Appends (g.W.Sink.known l.initial.output).bytes (g.W.Sink.known l.output).bytes (take l.done l.bytes);
  goes : Goes (g.W.Sink.known l.initial.output) (g.W.Sink.known l.output);
}
