use Rattle.std.proofs.Common.{◌<◌, ◌-◌, ℕ, Bool, not, ◌&&◌, ◌||◌, cond, List, length, get_or, ap, sym, subst, ◌∙◌, arith}
use Rattle.std.proofs.lemmas.List.{get_or_default}
use Rattle.risc_model.specs.declared.call.Call.{Call}
use Rattle.risc_machine.specs.inner.Follows.{ends_by, returns_by}
use Rattle.risc_machine.proofs.FollowLemmas.{IsScanned, scanned-none, scanned-next, scanned-all, lower}
use Rattle.risc_machine.proofs.follow.follow.Goals as goal

pub loop-next-init : goal.loop-next-init
loop-next-init c = scanned-none _ _ c.args.calls.now

pub loop-next-preserved : goal.loop-next-preserved
loop-next-preserved c =
    let p : Call → Bool = λ call. not (ends_by c.args.limit c.args.jump.now call) in
    let q : Call → Bool = returns_by c.args.jump.now in
    let calls : List Call = c.args.calls.now in
    let j : ℕ = c.loop-next.next - 1 in
    let none : Call = record { count = 0; at = 0; to = 0; back = 0; sp = 0 } in
    let call : Call = get_or calls j none in
    let seen = c.loop-next.invariant in
    let inside : j < length calls = omega (arith, seen.inside, c.loop-next-test.true) in
    let next : IsScanned p q j (cond (p call) c.loop-next.seen.stay j) (q call || c.loop-next.seen.returns) calls =
    scanned-next p q c.loop-next.next j c.loop-next.seen.stay c.loop-next.seen.returns calls call (omega arith) (get_or_default calls j call none inside) seen in
    let P : ℕ → Type 0 = λ k. IsScanned p q j k c.see-seen.result.returns calls in
    let Q : Bool → Type 0 = λ b. IsScanned p q j (cond (p call) c.loop-next.seen.stay j) b calls in
    subst P (sym c.see-seen.ensures.stay) (subst Q (sym c.see-seen.ensures.returns) next)

pub returns-then-is_below-clause-stay : goal.returns-then-is_below-clause-stay
returns-then-is_below-clause-stay c = λ is.
    let p : Call → Bool = λ call. not (ends_by c.args.limit c.args.jump.now call) in
    let q : Call → Bool = returns_by c.args.jump.now in
    let calls : List Call = c.args.calls.now in
    let j : ℕ = c.loop-next.next - 1 in
    let none : Call = record { count = 0; at = 0; to = 0; back = 0; sp = 0 } in
    let call : Call = get_or calls j none in
    let seen = c.loop-next.invariant in
    let inside : j < length calls = omega (arith, seen.inside, c.loop-next-test.true) in
    let all = scanned-all p q c.loop-next.next c.loop-next.seen.stay c.loop-next.seen.returns calls seen
    (λ k less d. lower c.args.limit c.args.jump.now calls j call is inside (get_or_default calls j call none inside) (sym c.is_below.ensures ∙ c.if-is_below.true) k (omega arith) d) in
    c.done.ensures.stay ∙ all.0

pub returns-then-is_below-clause-calls : goal.returns-then-is_below-clause-calls
returns-then-is_below-clause-calls c = λ is.
    let p : Call → Bool = λ call. not (ends_by c.args.limit c.args.jump.now call) in
    let q : Call → Bool = returns_by c.args.jump.now in
    let calls : List Call = c.args.calls.now in
    let j : ℕ = c.loop-next.next - 1 in
    let none : Call = record { count = 0; at = 0; to = 0; back = 0; sp = 0 } in
    let call : Call = get_or calls j none in
    let seen = c.loop-next.invariant in
    let inside : j < length calls = omega (arith, seen.inside, c.loop-next-test.true) in
    let all = scanned-all p q c.loop-next.next c.loop-next.seen.stay c.loop-next.seen.returns calls seen
    (λ k less d. lower c.args.limit c.args.jump.now calls j call is inside (get_or_default calls j call none inside) (sym c.is_below.ensures ∙ c.if-is_below.true) k (omega arith) d) in
    c.done.ensures.calls ∙ ap (λ (b : Bool). c.args.jump.now.links && not b) all.1

pub returns-clause-stay : goal.returns-clause-stay
returns-clause-stay c = λ is.
    let all = scanned-all (λ call. not (ends_by c.args.limit c.args.jump.now call)) (returns_by c.args.jump.now) c.loop-next.next c.loop-next.seen.stay c.loop-next.seen.returns c.args.calls.now c.loop-next.invariant
    (λ k less d. absurd (omega (arith, c.loop-next-test.false))) in
    c.done-2.ensures.stay ∙ all.0

pub returns-clause-calls : goal.returns-clause-calls
returns-clause-calls c = λ is.
    let all = scanned-all (λ call. not (ends_by c.args.limit c.args.jump.now call)) (returns_by c.args.jump.now) c.loop-next.next c.loop-next.seen.stay c.loop-next.seen.returns c.args.calls.now c.loop-next.invariant
    (λ k less d. absurd (omega (arith, c.loop-next-test.false))) in
    c.done-2.ensures.calls ∙ ap (λ (b : Bool). c.args.jump.now.links && not b) all.1
