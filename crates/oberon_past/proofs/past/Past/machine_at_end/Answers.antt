use Rattle.std.proofs.Common.{◌≡◌, ◌∙◌, ◌<◌, ◌+◌, ◌-◌, ℕ, Option, ap, arith, length, subst, sym}
use Rattle.std.specs.Prelude.{IfSome}
use Rattle.risc_machine.specs.Allocation.{Held}
use Rattle.risc_model.specs.MachineState.{State}
use Rattle.oberon_past.proofs.Extending.{many-parts}
use Rattle.oberon_past.proofs.Keyframes.{if-ok}
use Rattle.oberon_past.proofs.Warming.{last-named, reached-is, run-to-end, warm-words}
use Rattle.oberon_past.specs.Past.{PastParts, reached}
use Rattle.oberon_past.specs.Run.{state_at}
use Rattle.oberon_past.specs.declared.warm.Warm.{Warm}
use Rattle.oberon_past.specs.inner.Warm.{IsAtEnd}
use Rattle.oberon_past.proofs.past.Past.machine_at_end.Goals as goal

pub returns-then-warm-last-clause-base : goal.returns-then-warm-last-clause-base
returns-then-warm-last-clause-base c =
    let past = c.self.inside in
    let pool = past.stored.pool in
    let keyframes = past.keyframes.items in
    let spacing : ℕ = past.spacing.count in
    let end : ℕ = past.end in
    let now = c.args.self.now in
    let last = c.index-last.result.now in
    let k : ℕ = c.len.result - 1 in
    let many = many-parts pool past.inputs keyframes spacing end c.self.invariant in
    let some = c.self.invariant.some in
    let inside : k < length keyframes = omega (arith, many, some, c.len.ensures) in
    let whole : k + 1 ≡ length keyframes = omega (arith, many, some, c.len.ensures) in
    let warm = c.in-Some.warm in
    let w = subst (λ (o : Option Warm). IfSome o (IsAtEnd now.run now.end)) c.in-Some.is c.requires in
    let from = reached-is pool past.inputs keyframes spacing end c.self.invariant last k inside c.index-last.ensures whole now c.self.view_is in
    let base = w.base ∙ ap (λ (n : ℕ). (state_at now.run n).words) (c.if-warm-last.true ∙ sym from) in
    if-ok c.attach.result (λ (machine : Held) same. ap (λ (m : Held). m.base) same ∙ base) c.attach.ensures

pub rebase-requires-clause-named : goal.rebase-requires-clause-named
rebase-requires-clause-named c =
    let past = c.self.inside in
    let keyframes = past.keyframes.items in
    let k : ℕ = c.len.result - 1 in
    let many = many-parts past.stored.pool past.inputs keyframes past.spacing.count past.end c.self.invariant in
    let some = c.self.invariant.some in
    let inside : k < length keyframes = omega (arith, many, some, c.len.ensures) in
    let whole : k + 1 ≡ length keyframes = omega (arith, many, some, c.len.ensures) in
    last-named past.stored.pool past.inputs keyframes past.spacing.count past.end c.self.invariant c.index-last.result.now k inside c.index-last.ensures whole

pub rebase-requires-clause-words : goal.rebase-requires-clause-words
rebase-requires-clause-words c =
    let past = c.self.inside in
    let pool = past.stored.pool in
    let keyframes = past.keyframes.items in
    let spacing : ℕ = past.spacing.count in
    let end : ℕ = past.end in
    let now = c.args.self.now in
    let last = c.index-last.result.now in
    let k : ℕ = c.len.result - 1 in
    let many = many-parts pool past.inputs keyframes spacing end c.self.invariant in
    let some = c.self.invariant.some in
    let inside : k < length keyframes = omega (arith, many, some, c.len.ensures) in
    let whole : k + 1 ≡ length keyframes = omega (arith, many, some, c.len.ensures) in
    let w = subst (λ (o : Option Warm). IfSome o (IsAtEnd now.run now.end)) c.in-Some.is c.requires in
    let ends : now.end ≡ last.count = sym (ap (λ (p : PastParts). p.end) c.self.view_is) ∙ c.if-self-last.true in
    warm-words pool past.inputs keyframes spacing end c.self.invariant last k inside c.index-last.ensures whole now c.self.view_is c.in-Some.warm w ends

pub returns-then-self-last-clause-base : goal.returns-then-self-last-clause-base
returns-then-self-last-clause-base c =
    let past = c.self.inside in
    let pool = past.stored.pool in
    let keyframes = past.keyframes.items in
    let spacing : ℕ = past.spacing.count in
    let end : ℕ = past.end in
    let now = c.args.self.now in
    let last = c.index-last.result.now in
    let k : ℕ = c.len.result - 1 in
    let many = many-parts pool past.inputs keyframes spacing end c.self.invariant in
    let some = c.self.invariant.some in
    let inside : k < length keyframes = omega (arith, many, some, c.len.ensures) in
    let whole : k + 1 ≡ length keyframes = omega (arith, many, some, c.len.ensures) in
    let w = subst (λ (o : Option Warm). IfSome o (IsAtEnd now.run now.end)) c.in-Some.is c.requires in
    let from = reached-is pool past.inputs keyframes spacing end c.self.invariant last k inside c.index-last.ensures whole now c.self.view_is in
    let ends : now.end ≡ reached now = sym (ap (λ (p : PastParts). p.end) c.self.view_is) ∙ c.if-self-last.true ∙ sym from in
    let words = ap (λ (s : State). s.words) w.state ∙ ap (λ (n : ℕ). (state_at now.run n).words) ends in
    if-ok c.rebase.result (λ (machine : Held) base. base ∙ words) c.rebase.ensures.base

pub machine_at-requires-clause-named : goal.machine_at-requires-clause-named
machine_at-requires-clause-named c =
    let past = c.self.inside in
    let keyframes = past.keyframes.items in
    let k : ℕ = c.len.result - 1 in
    let many = many-parts past.stored.pool past.inputs keyframes past.spacing.count past.end c.self.invariant in
    let some = c.self.invariant.some in
    let inside : k < length keyframes = omega (arith, many, some, c.len.ensures) in
    let whole : k + 1 ≡ length keyframes = omega (arith, many, some, c.len.ensures) in
    last-named past.stored.pool past.inputs keyframes past.spacing.count past.end c.self.invariant c.index-last.result.now k inside c.index-last.ensures whole

pub returns-clause-state : goal.returns-clause-state
returns-clause-state c =
    let past = c.self.inside in
    let pool = past.stored.pool in
    let keyframes = past.keyframes.items in
    let spacing : ℕ = past.spacing.count in
    let end : ℕ = past.end in
    let last = c.index-last.result.now in
    let k : ℕ = c.len.result - 1 in
    let many = many-parts pool past.inputs keyframes spacing end c.self.invariant in
    let some = c.self.invariant.some in
    let inside : k < length keyframes = omega (arith, many, some, c.len.ensures) in
    let whole : k + 1 ≡ length keyframes = omega (arith, many, some, c.len.ensures) in
    let run = run-to-end pool past.inputs keyframes spacing end c.self.invariant last k inside c.index-last.ensures whole c.args.self.now c.self.view_is in
    if-ok c.machine_at.result (λ (machine : Held) state. state ∙ run) c.machine_at.ensures.state
