use Rattle.std.proofs.Common.{◌≡◌, ◌<◌, ◌-◌, ℕ, suc, true, false, List, ◌∷◌, length, drop, get_or, drop-cons, refl, ap, sym, subst, ◌∙◌, arith}
use Rattle.std.proofs.lemmas.List.{drop_all}
use Rattle.risc_model.specs.declared.call.Call.{Call}
use Rattle.galluspa.specs.Calls.{AreLeftOpen}
use Rattle.galluspa.proofs.InputLemmas.{untrue}
use Rattle.galluspa.proofs.OpenLemmas.{IsSeen, seen-none, seen-next, open-before, open-drop}
use Rattle.galluspa.proofs.calls.are_open.Goals as goal

-- a call that no list has
abbrev none : Call
none = record { count = 0; at = 0; to = 0; back = 0; sp = 0 }

split : (calls : List Call) (j next : ℕ) → suc j ≡ next → j < length calls → drop j calls ≡ get_or calls j none ∷ drop next calls
split calls j next e inside = drop-cons calls j none inside ∙ ap (λ (k : ℕ). get_or calls j none ∷ drop k calls) e

pub loop-next-init : goal.loop-next-init
loop-next-init c = record {
  inside = omega arith;
  seen = subst (IsSeen c.args.limit c.args.count c.args.count 0) (sym (drop_all (length c.args.calls.now) c.args.calls.now (omega arith))) (seen-none c.args.limit c.args.count);
}

pub loop-next-preserved : goal.loop-next-preserved
loop-next-preserved c =
    let calls : List Call = c.args.calls.now in
    let j : ℕ = c.loop-next.next - 1 in
    let seen = c.loop-next.invariant.seen in
    let inside : j < length calls = omega (arith, c.loop-next.invariant.inside, c.loop-next-test.true) in
    let before = c.comes_before.ensures.0 c.if-not-comes_before.false in
    record {
      inside = omega (arith, inside);
      seen = subst (IsSeen c.args.limit c.args.count (get_or calls j none).count c.higher-highest.result) (sym (split calls j c.loop-next.next (omega (arith, c.loop-next-test.true)) inside))
          (seen-next c.args.limit c.args.count c.loop-next.least c.loop-next.highest c.higher-highest.result (get_or calls j none) (drop c.loop-next.next calls) before c.higher-highest.ensures seen);
    }

pub returns-then-not-comes_before : goal.returns-then-not-comes_before
returns-then-not-comes_before c = untrue (λ are.
    let calls : List Call = c.args.calls.now in
    let j : ℕ = c.loop-next.next - 1 in
    let inside : j < length calls = omega (arith, c.loop-next.invariant.inside, c.loop-next-test.true) in
    let rest = subst (AreLeftOpen c.args.limit c.args.count) (split calls j c.loop-next.next (omega (arith, c.loop-next-test.true)) inside) (open-drop c.args.limit c.args.count j calls are) in
    let before = open-before c.args.limit c.args.count c.loop-next.least c.loop-next.highest (get_or calls j none) (drop c.loop-next.next calls) rest c.loop-next.invariant.seen in
    let comes : c.comes_before.result ≡ true = c.comes_before.ensures.1 before in
    let not : false ≡ true = sym c.if-not-comes_before.true ∙ comes in
    absurd cc)

pub returns : goal.returns
returns c =
    let last : c.loop-next.next ≡ 0 = omega (arith, c.loop-next-test.false) in
    let P : ℕ → Type 0 = λ k. AreLeftOpen c.args.limit c.args.count (drop k c.args.calls.now) in
    (λ _. subst P last c.loop-next.invariant.seen.are_open, λ _. refl)
