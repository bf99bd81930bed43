use Rattle.std.proofs.Common.{◌≡◌, ◌<◌, ◌≤◌, ◌∙◌, ℕ, ap, arith, length, subst, sym}
use Rattle.risc_machine.specs.Allocation.{Held}
use Rattle.oberon_past.proofs.Extending.{count-is, many-parts, run-is}
use Rattle.oberon_past.proofs.Keyframes.{if-ok, nearest-low}
use Rattle.oberon_past.specs.Past.{PastParts, nearest}
use Rattle.oberon_past.specs.Run.{state_at}
use Rattle.oberon_past.proofs.past.Past.machine.Goals as goal

pub machine_at-requires-clause-forward : goal.machine_at-requires-clause-forward
machine_at-requires-clause-forward c =
    let pool = c.self.inside.stored.pool in
    let inputs = c.self.inside.inputs in
    let keyframes = c.self.inside.keyframes.items in
    let spacing : ℕ = c.self.inside.spacing.count in
    let end : ℕ = c.self.inside.end in
    let k : ℕ = c.nearest.result in
    let count : ℕ = c.args.count in
    let many = many-parts pool inputs keyframes spacing end c.self.invariant in
    let index = subst (λ (p : PastParts). k ≡ nearest p count) (sym c.self.view_is) c.nearest.ensures.index in
    let low = subst (λ (p : PastParts). p.run.start ≤ count) (sym c.self.view_is) c.requires in
    let inside : k < length keyframes = omega (arith, index, many, c.self.invariant.some) in
    let is = count-is pool inputs keyframes spacing end c.self.invariant c.index-keyframe.result.now k inside c.index-keyframe.ensures in
    let near = nearest-low _ spacing count k _ c.self.invariant.spaced low index in
    omega (arith, is, near)

pub returns : goal.returns
returns c =
    let pool = c.self.inside.stored.pool in
    let inputs = c.self.inside.inputs in
    let keyframes = c.self.inside.keyframes.items in
    let spacing : ℕ = c.self.inside.spacing.count in
    let end : ℕ = c.self.inside.end in
    let k : ℕ = c.nearest.result in
    let count : ℕ = c.args.count in
    let many = many-parts pool inputs keyframes spacing end c.self.invariant in
    let index = subst (λ (p : PastParts). k ≡ nearest p count) (sym c.self.view_is) c.nearest.ensures.index in
    let low = subst (λ (p : PastParts). p.run.start ≤ count) (sym c.self.view_is) c.requires in
    let inside : k < length keyframes = omega (arith, index, many, c.self.invariant.some) in
    let keyframe = c.index-keyframe.result.now in
    let is = count-is pool inputs keyframes spacing end c.self.invariant keyframe k inside c.index-keyframe.ensures in
    let near = nearest-low _ spacing count k _ c.self.invariant.spaced low index in
    let on : keyframe.count ≤ count = omega (arith, is, near) in
    let run = run-is pool inputs keyframes spacing end c.self.invariant keyframe k inside c.index-keyframe.ensures count on
    ∙ ap (λ (p : PastParts). state_at p.run count) c.self.view_is in
    if-ok c.machine_at.result (λ (machine : Held) state. state ∙ run) c.machine_at.ensures.state
