use Rattle.std.proofs.Common.{◌≡◌, ◌∙◌, ◌<◌, ◌≤◌, ◌+◌, ◌-◌, ℕ, ap, arith, length, subst, sym}
use Rattle.std.specs.Prelude.{IfSome}
use Rattle.oberon_format.specs.Recording.{parts_of}
use Rattle.oberon_session.proofs.Runs.{run-on}
use Rattle.oberon_past.proofs.Extending.{last-low, many-parts}
use Rattle.oberon_past.proofs.Warming.{kept-at-end, reached-is}
use Rattle.oberon_past.specs.Past.{PastParts, past_of}
use Rattle.oberon_past.specs.Run.{state_at}
use Rattle.oberon_past.specs.inner.Kept.{IsNextKeyframe}
use Rattle.oberon_past.specs.inner.Warm.{IsAtEnd}
use Rattle.oberon_past.proofs.past.Past.run_from_end.Goals as goal

pub next_keyframe-requires-clause-state : goal.next_keyframe-requires-clause-state
next_keyframe-requires-clause-state c =
    let past = c.self.inside in
    let end : ℕ = past.end in
    let to : ℕ = c.args.to in
    let run = (past_of (parts_of past.stored.pool past.inputs past.keyframes.items) past.spacing.count end).run in
    let machine = c.in_ok-machine.machine in
    let forward = subst (λ (p : PastParts). p.end ≤ to) (sym c.self.view_is) c.requires.forward in
    let state = subst (λ (p : PastParts). machine.state ≡ state_at p.run p.end) (sym c.self.view_is) c.in_ok-machine.ensures.state in
    let ends : c.in_ok-stretch.stretch.end ≡ to = omega (arith, c.if-stretch-to.false, c.in_ok-stretch.ensures.stretch.further.1) in
    let begun : run.start ≤ end = omega (arith, c.self.invariant.ends) in
    let there = c.in_ok-stretch.ensures.state ends ∙ run-on past.inputs run.start end to run.first begun forward machine.state state in
    subst (λ (p : PastParts). c.run_with_room.new.machine.state ≡ state_at p.run to) c.self.view_is there

pub returns-clause-next : goal.returns-clause-next
returns-clause-next c =
    let now = c.args.self.now in
    let ends : c.in_ok-stretch.stretch.end ≡ c.args.to = omega (arith, c.if-stretch-to.false, c.in_ok-stretch.ensures.stretch.further.1) in
    subst (λ (n : ℕ). IfSome c.next_keyframe.result (IsNextKeyframe (record now { end = n }))) (sym ends) c.next_keyframe.ensures

pub returns-clause-warm : goal.returns-clause-warm
returns-clause-warm c =
    let past = c.self.inside in
    let pool = past.stored.pool in
    let keyframes = past.keyframes.items in
    let spacing : ℕ = past.spacing.count in
    let end : ℕ = past.end in
    let to : ℕ = c.args.to in
    let now = c.args.self.now in
    let last = c.index-last.result.now in
    let k : ℕ = c.len.result - 1 in
    let many = many-parts pool past.inputs keyframes spacing end c.self.invariant in
    let some = c.self.invariant.some in
    let inside : k < length keyframes = omega (arith, many, some, c.len.ensures) in
    let whole : k + 1 ≡ length keyframes = omega (arith, many, some, c.len.ensures) in
    let run = (past_of (parts_of pool past.inputs keyframes) spacing end).run in
    let machine = c.in_ok-machine.machine in
    let forward = subst (λ (p : PastParts). p.end ≤ to) (sym c.self.view_is) c.requires.forward in
    let state = subst (λ (p : PastParts). machine.state ≡ state_at p.run p.end) (sym c.self.view_is) c.in_ok-machine.ensures.state in
    let ends : c.in_ok-stretch.stretch.end ≡ to = omega (arith, c.if-stretch-to.false, c.in_ok-stretch.ensures.stretch.further.1) in
    let begun : run.start ≤ end = omega (arith, c.self.invariant.ends) in
    let there = c.in_ok-stretch.ensures.state ends ∙ run-on past.inputs run.start end to run.first begun forward machine.state state in
    let at = subst (λ (p : PastParts). c.run_with_room.new.machine.state ≡ state_at p.run to) c.self.view_is there in
    let from = reached-is pool past.inputs keyframes spacing end c.self.invariant last k inside c.index-last.ensures whole now c.self.view_is in
    let base = c.run_with_room.ensures.base ∙ c.in_ok-machine.ensures.base ∙ ap (λ (n : ℕ). (state_at now.run n).words) from in
    let low = last-low pool past.inputs keyframes spacing end c.self.invariant last k inside c.index-last.ensures whole in
    subst (λ (n : ℕ). IfSome c.kept_warm.result (IsAtEnd now.run n)) (sym ends)
    (kept-at-end now.run to last.count c.run_with_room.new.machine at base (omega (arith, low, forward)) c.kept_warm.result
    c.kept_warm.ensures.machine c.kept_warm.ensures.from)
