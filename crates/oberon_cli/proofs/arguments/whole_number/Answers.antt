use Rattle.std.proofs.Common.{◌≤◌, ◌∙◌, ap, arith, sym, option_and_then}
use Rattle.clap.specs.Words.{found_of}
use Rattle.clap.proofs.WalkLemmas.{one_text-rows}
use Rattle.std.specs.Str.Parse.{ExplainsUnsignedError, HasUnsignedDigitsIfOk, ParsesUnsigned}
use Rattle.oberon_cli.specs.Asked.{whole_number}
use Rattle.oberon_cli.proofs.Numbers.{no_text, text_in_range, text_out_of_range}
use Rattle.oberon_cli.proofs.arguments.whole_number.Goals as goal
use Rattle.oberon_cli.proofs.arguments.whole_number.Goals.{else-low-number-via-then-low-number+else-number-high, else-low-number-via-else-low-number}

pub returns-in_err-number-clause-value : goal.returns-in_err-number-clause-value
returns-in_err-number-clause-value c =
    c.from_residual.ensures
    ∙ sym (no_text (λ t r. ParsesUnsigned 32 10 t r × ExplainsUnsignedError 10 t r × HasUnsignedDigitsIfOk t r) (λ t r g. g.0) c.args.low c.args.high c.ranges.high.fits _ c.in_err-number.ensures.value)
    ∙ ap (option_and_then (whole_number c.args.low c.args.high)) (one_text-rows (found_of c.args.matches.now) c.args.id.now)

pub returns-then-number-high-clause-value : goal.returns-then-number-high-clause-value
returns-then-number-high-clause-value c =
    sym (text_in_range (λ t r. ParsesUnsigned 32 10 t r × ExplainsUnsignedError 10 t r × HasUnsignedDigitsIfOk t r) (λ t r g. g.0) c.args.low c.args.high c.ranges.high.fits _ c.in_ok-number.number c.in_ok-number.ensures.none c.in_ok-number.ensures.value
    c.if-low-number.true c.if-number-high.true)
    ∙ ap (option_and_then (whole_number c.args.low c.args.high)) (one_text-rows (found_of c.args.matches.now) c.args.id.now)

pub returns-else-low-number-clause-value : goal.returns-else-low-number-clause-value
returns-else-low-number-clause-value c =
    let out : c.args.low ≤ c.in_ok-number.number → c.in_ok-number.number ≤ c.args.high → ⊥ = λ above below. elim c.else-low-number.branch [
      | else-low-number-via-then-low-number+else-number-high w ↦ omega arith
      | else-low-number-via-else-low-number w ↦ omega arith
    ] in
    sym (text_out_of_range (λ t r. ParsesUnsigned 32 10 t r × ExplainsUnsignedError 10 t r × HasUnsignedDigitsIfOk t r) (λ t r g. g.0) c.args.low c.args.high c.ranges.high.fits _ c.in_ok-number.number c.in_ok-number.ensures.value out)
    ∙ ap (option_and_then (whole_number c.args.low c.args.high)) (one_text-rows (found_of c.args.matches.now) c.args.id.now)
