use Rattle.std.proofs.Common.{refl, ap, ◌∙◌}
use Rattle.risc_model.specs.MachineState.{CpuState, State}
use Rattle.risc_machine.proofs.FollowerLemmas.{sees-settled}
use Rattle.risc_machine.proofs.follower.FollowerObserver.admits.Goals as goal

pub returns-clause-nothing : goal.returns-clause-nothing
returns-clause-nothing c = λ s before.
    sees-settled c.in-Some.hop s c.args.self.now _ refl refl c.in-Some.is refl
    (λ is u hops leads. c.changes.ensures c.if-changes.false is u
    (c.jump.ensures u hops (ap (λ (x : State). x.cpu.r) leads ∙ ap (λ (k : CpuState). k.r) before.cpu) (ap (λ (x : State). x.words) leads ∙ before.same)))
