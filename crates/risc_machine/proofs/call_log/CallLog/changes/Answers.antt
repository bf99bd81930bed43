use Rattle.std.proofs.Common.{ℕ, List, ap, subst, ◌∙◌}
use Rattle.risc_model.specs.declared.call.Call.{Call}
use Rattle.risc_model.specs.MachineState.{State}
use Rattle.risc_model.specs.Turns.{IsStack}
use Rattle.risc_machine.specs.inner.Follows.{IsJump, IsStill}
use Rattle.risc_machine.proofs.call_log.CallLog.changes.Goals as goal

pub returns : goal.returns
returns c = λ none.
    let P : ℕ → List Call → Type 0 = λ m l. IsStack m l → (s : State) → IsJump c.args.jump.now s → IsStill m l s in
    let follower = c.new-follower in
    let calls = ap (λ (b : _). b.now) follower.ensures.calls ∙ c.deref.ensures.value in
    subst (λ (l : List Call). P c.args.self.now.limit l) calls (subst (λ (m : ℕ). P m follower.result.calls.now) follower.ensures.limit (c.changes.ensures none))
