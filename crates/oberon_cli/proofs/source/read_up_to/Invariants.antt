use Rattle.std.proofs.Common.{◌≤◌, length}
use Rattle.std.specs.Io.KnownBytes.{Consumes}
use Rattle.oberon_cli.specs.Transfer.{Goes}
use Rattle.oberon_cli.proofs.source.read_up_to.Given as goal

abbrev pub invariant-loop-turn : goal.invariant-loop-turn
invariant-loop-turn g l = record {
  within : length l.bytes.items ≤ l.limit;
  counted : l._turn ≤ length l.bytes.items;
  taken : Consumes (g.R.Source.known l.initial.input).bytes (g.R.Source.known l.input).bytes l.bytes.items;
  goes : Goes (g.R.Source.known l.initial.input) (g.R.Source.known l.input);
}
