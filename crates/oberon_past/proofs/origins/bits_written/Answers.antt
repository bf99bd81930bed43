use Rattle.std.proofs.Common.{◌≡◌, ◌<◌, ◌^◌, ◌∙◌, ℕ, ap, arith, sym}
use Rattle.risc_core.proofs.BitLemmas.{and_word-is}
use Rattle.risc_core.specs.Arithmetic.{and_word}
use Rattle.risc_core.specs.Instruction.{instruction_of}
use Rattle.risc_core.specs.declared.instruction.Instr.{Instr}
use Rattle.oberon_past.specs.Origins.{bits_stored, bits_written}
use Rattle.oberon_past.specs.declared.part.Part.{Part}
use Rattle.oberon_past.proofs.origins.bits_written.Goals as goal

pub returns-in-Word : goal.returns-in-Word
returns-in-Word c =
    let mask : ℕ = c.in-Word.mask in
    let registers = c.args.registers.now in
    let fits : c.bits_stored.result < 2 ^ 32 = search arith in
    and_word-is c.bits_stored.result mask fits
    ∙ ap (λ (n : ℕ). and_word n mask) c.bits_stored.ensures
    ∙ ap (λ (i : Instr). and_word (bits_stored i registers) mask) c.decode-in-Word.ensures.value
    ∙ sym (ap (λ (part : Part). bits_written part (instruction_of c.args.word) registers) c.in-Word.is)
