use Rattle.std.proofs.Common.{◌≡◌, sym, arith, eq-eqb, ne_eqb}
use Rattle.std.specs.Prelude.{◌==◌, slice_index, false}
use Rattle.oberon_check.specs.declared.part.Part.TheVariants.{R}
use Rattle.oberon_check.proofs.Rules.{each_met, each_unmet}
use Rattle.oberon_check.proofs.difference.register_difference.Goals as goal

pub returns-clause-part : goal.returns-clause-part
returns-clause-part c = sym (each_met (λ k. slice_index c.args.a.now k == slice_index c.args.b.now k) R 16 (λ k lt. eq-eqb _ _ (c.loop-i.invariant k (let test = c.loop-i-test.false in omega arith))))

pub returns-then-a-i-clause-part : goal.returns-then-a-i-clause-part
returns-then-a-i-clause-part c =
    let differs : (slice_index c.args.a.now c.loop-i.i == slice_index c.args.b.now c.loop-i.i) ≡ false = ne_eqb _ _ c.if-a-i.true in
    sym (each_unmet (λ k. slice_index c.args.a.now k == slice_index c.args.b.now k) R 16 c.loop-i.i c.loop-i-test.true (λ k lt. eq-eqb _ _ (c.loop-i.invariant k lt)) differs)
