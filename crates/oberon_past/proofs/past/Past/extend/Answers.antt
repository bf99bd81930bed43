use Rattle.std.proofs.Common.{ap, ◌≡◌, ◌<◌, ◌≤◌, ◌+◌, ◌-◌, ℕ, arith, length, refl, subst, sym}
use Rattle.risc_model.specs.Replay.{run_of}
use Rattle.oberon_format.specs.CheckpointParts.{checkpoint_parts}
use Rattle.oberon_past.proofs.Extending.{is-next, many-parts, next-count, run-is}
use Rattle.oberon_past.proofs.Warming.{warm-prop}
use Rattle.oberon_format.specs.Recording.{parts_of}
use Rattle.oberon_past.specs.Past.{PastParts, reached}
use Rattle.oberon_past.specs.declared.past.Past.TheInside.{Inside}
use Rattle.oberon_past.specs.inner.Kept.{IsNextKeyframe, state_of}
use Rattle.oberon_past.specs.inner.Warm.{IsWarm}
use Rattle.oberon_past.proofs.past.Past.extend.Goals as goal

pub same-self : goal.same-self
same-self c =
    let past = c.self.inside in
    let kept = parts_of past.stored.pool past.inputs past.keyframes.items in
    let spacing : ℕ = past.spacing.count in
    let end : ℕ = past.end in
    ap
    (λ (w : IsWarm kept spacing end past.warm). let i : Inside = record {
      stored = past.stored;
      inputs = past.inputs;
      keyframes = past.keyframes;
      spacing = past.spacing;
      end = past.end;
      warm = past.warm;
      warm_at_end = w;
    } in i)
    (warm-prop kept spacing end past.warm _ past.warm_at_end)

pub same-self-2 : goal.same-self-2
same-self-2 c =
    let past = c.self.inside in
    let kept = parts_of past.stored.pool past.inputs past.keyframes.items in
    let spacing : ℕ = past.spacing.count in
    let end : ℕ = past.end in
    ap
    (λ (w : IsWarm kept spacing end past.warm). let i : Inside = record {
      stored = past.stored;
      inputs = past.inputs;
      keyframes = past.keyframes;
      spacing = past.spacing;
      end = past.end;
      warm = past.warm;
      warm_at_end = w;
    } in i)
    (warm-prop kept spacing end past.warm _ past.warm_at_end)

pub add-requires : goal.add-requires
add-requires c =
    let past = c.self.inside in
    let pool = past.stored.pool in
    let keyframes = past.keyframes.items in
    let spacing : ℕ = past.spacing.count in
    let end : ℕ = past.end in
    let last = c.index-last.result.now in
    let k : ℕ = c.len.result - 1 in
    let to : ℕ = last.count + spacing in
    let begun = state_of pool (checkpoint_parts last) in
    let many = many-parts pool past.inputs keyframes spacing end c.self.invariant in
    let some = c.self.invariant.some in
    let inside : k < length keyframes = omega (arith, many, some, c.len.ensures) in
    let whole : k + 1 ≡ length keyframes = omega (arith, many, some, c.len.ensures) in
    let asked = subst (λ (p : PastParts). reached p + p.spacing ≤ p.end) (sym c.self.view_is) c.requires in
    let count = next-count pool past.inputs keyframes spacing end c.self.invariant last k inside c.index-last.ensures whole to refl in
    let room : to ≤ end = omega (arith, count, asked) in
    let state = run-is pool past.inputs keyframes spacing end c.self.invariant last k inside c.index-last.ensures to (omega arith) in
    subst (λ (p : PastParts). IsNextKeyframe p c.in_ok-next.next) c.self.view_is
    (is-next pool past.inputs keyframes spacing end c.self.invariant last k inside c.index-last.ensures whole to refl c.in_ok-next.next room
    begun.words (run_of past.inputs last.count (to - last.count) begun) refl state c.in_ok-next.ensures)
