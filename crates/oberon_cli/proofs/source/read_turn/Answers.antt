use Rattle.std.proofs.Common.{refl}
use Rattle.oberon_cli.proofs.TurnLemmas.{turn_gains}
use Rattle.oberon_cli.proofs.source.read_turn.Goals as goal

pub returns-in_ok-extend_from_slice-in-Ok-clause-gained : goal.returns-in_ok-extend_from_slice-in-Ok-clause-gained
returns-in_ok-extend_from_slice-in-Ok-clause-gained g c =
    turn_gains (g.R.Source.known c.args.input.now) (g.R.Source.known c.pull.new.self) _ _ _ _ c.in-Ok.n _
    c.pull.auto.chunk c.in-Ok.n-test.1 c.in-Ok.ensures.bound.0 c.in_ok-extend_from_slice-in-Ok.ensures.items refl c.in-Ok.ensures.bytes.0

pub returns-in-Err-clause-end : goal.returns-in-Err-clause-end
returns-in-Err-clause-end g c = tt

pub returns-in-Err-clause-gained : goal.returns-in-Err-clause-gained
returns-in-Err-clause-gained g c = tt

pub returns-in-Err-clause-goes : goal.returns-in-Err-clause-goes
returns-in-Err-clause-goes g c = tt
