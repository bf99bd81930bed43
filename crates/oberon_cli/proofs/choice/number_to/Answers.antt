use Rattle.std.proofs.Common.{sym}
use Rattle.std.specs.Str.Parse.{ExplainsUnsignedError, HasUnsignedDigitsIfOk, ParsesUnsigned}
use Rattle.oberon_cli.proofs.Numbers.{in_range, no_number}
use Rattle.oberon_cli.proofs.choice.number_to.Goals as goal

pub returns-in-Err-clause-value : goal.returns-in-Err-clause-value
returns-in-Err-clause-value c =
    sym (no_number (λ t r. ParsesUnsigned 32 10 t r × ExplainsUnsignedError 10 t r × HasUnsignedDigitsIfOk t r) (λ t r g. g.0) 1 c.args.high c.ranges.high.fits c.args.text.now
    (c.in-Err.field-0, c.in-Err.ensures.value))

pub returns-then-number-high-clause-value : goal.returns-then-number-high-clause-value
returns-then-number-high-clause-value c =
    sym (in_range (λ t r. ParsesUnsigned 32 10 t r × ExplainsUnsignedError 10 t r × HasUnsignedDigitsIfOk t r) (λ t r g. g.0) 1 c.args.high c.ranges.high.fits c.args.text.now
    c.in-Ok.number c.in-Ok.ensures.value c.if-number-ge1.true c.if-number-high.true)
