use Rattle.std.proofs.Common.{refl}
use Rattle.risc_machine.proofs.FollowerLemmas.{sees-stepped}
use Rattle.risc_machine.proofs.follower.FollowerObserver.stepped.Goals as goal

pub returns : goal.returns
returns c = λ s step ready. sees-stepped c.args.from c.args.to c.args.runs s c.args.self.now _ refl refl c.of_step-self.ensures step ready
