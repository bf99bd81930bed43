use Rattle.std.proofs.Common.{arith}
use Rattle.oberon_cli.proofs.process.run.Goals as goal

pub returns-clause-replies : goal.returns-clause-replies
returns-clause-replies g c = search arith

pub returns-clause-answers : goal.returns-clause-answers
returns-clause-answers g c = rw (← c.after_name.ensures, c.from.ensures) c.serve.ensures.answers

pub returns-clause-three : goal.returns-clause-three
returns-clause-three g c = search arith
