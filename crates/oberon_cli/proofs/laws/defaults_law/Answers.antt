use Rattle.oberon_cli.proofs.Literals.{check, no_arguments}
use Rattle.oberon_cli.proofs.laws.defaults_law.Goals as goal

pub returns : goal.returns
returns c = (no_arguments, check)
