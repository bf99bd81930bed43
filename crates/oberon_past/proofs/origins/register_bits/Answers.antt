use Rattle.std.proofs.Common.{◌<◌, ◌^◌, ◌∙◌, ℕ, ap, arith, sym}
use Rattle.risc_core.proofs.BitLemmas.{and_word-is}
use Rattle.risc_core.specs.Arithmetic.{and_word}
use Rattle.oberon_past.specs.Origins.{register_bits}
use Rattle.oberon_past.proofs.origins.register_bits.Goals as goal

pub returns-in-Flags : goal.returns-in-Flags
returns-in-Flags c =
    let mask : ℕ = c.args.mask in
    let fits : c.flags_written.result < 2 ^ 32 = search arith in
    and_word-is c.flags_written.result mask fits
    ∙ ap (λ (n : ℕ). and_word n mask) c.flags_written.ensures
    ∙ sym (ap (λ register. register_bits register mask c.args.instruction) c.in-Flags.is)
