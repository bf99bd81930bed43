use Rattle.risc_core.proofs.BitLemmas.{bitwise}
use Rattle.std.proofs.Common.{◌≡◌, ℕ, ap, sym, subst, arith}
use Rattle.std.specs.Prelude.{Ok}
use Rattle.risc_core.specs.Arithmetic.{outcome_of, output_of}
use Rattle.risc_core.proofs.arithmetic.simple_value.Goals as goal

pub returns-in_default : goal.returns-in_default
unfolding outcome_of
returns-in_default c =
    let e : c.args.op ≡ 0 = omega arith in
    subst (λ (n : ℕ). outcome_of n c.args.u c.args.imm c.args.v c.args.b c.args.c c.args.h c.args.flags ≡ Ok (output_of c.moved_value.result c.args.h c.args.flags)) (sym e)
    (ap (λ (x : ℕ). Ok (output_of x c.args.h c.args.flags)) (sym c.moved_value.ensures))

pub returns-in-5 : goal.returns-in-5
unfolding outcome_of
returns-in-5 c = grind (arith, bitwise)
