use Rattle.std.proofs.Common.{◌≡◌, ◌∙◌, w32, ap, sym, pos, true, false, to_z, of_z, arith}
use Rattle.std.proofs.lemmas.Int.{to_z-of_z}
use Rattle.std.specs.Prelude.{Ok}
use lib.Signed.{lt_z}
use Rattle.risc_core.proofs.WordLemmas.{divisor_refused, quotient_is}
use Rattle.risc_core.proofs.arithmetic.divide.Goals as goal

pub returns-then-cast_signed-lt1-clause-value : goal.returns-then-cast_signed-lt1-clause-value
returns-then-cast_signed-lt1-clause-value c =
    let divisor : to_z w32 (of_z w32 c.cast_signed.result) ≡ to_z w32 c.args.c = to_z-of_z w32 c.cast_signed.result (search arith) ∙ c.cast_signed.ensures in
    let refused : lt_z (to_z w32 c.args.c) (pos 1) ≡ true = ap (λ z. lt_z z (pos 1)) (sym divisor) ∙ c.if-cast_signed-lt1.true in
    divisor_refused c.args.u c.args.b c.args.c c.args.flags (search arith) refused

pub returns-clause-value : goal.returns-clause-value
returns-clause-value c =
    let divisor : to_z w32 (of_z w32 c.cast_signed.result) ≡ to_z w32 c.args.c = to_z-of_z w32 c.cast_signed.result (search arith) ∙ c.cast_signed.ensures in
    let taken : lt_z (to_z w32 c.args.c) (pos 1) ≡ false = ap (λ z. lt_z z (pos 1)) (sym divisor) ∙ c.if-cast_signed-lt1.false in
    ap Ok c.output.ensures ∙ quotient_is c.args.u c.args.b c.args.c _ _ c.args.flags (search arith) taken c.divide_down-quotient.ensures.quotient c.divide_down-quotient.ensures.remainder
