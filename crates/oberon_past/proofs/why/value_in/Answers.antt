use Rattle.std.proofs.Common.{◌≡◌, ◌<◌, ◌^◌, ◌∙◌, ℕ, List, ap, arith, sym}
use Rattle.risc_core.proofs.BitLemmas.{and_word-is}
use Rattle.risc_core.specs.Arithmetic.{and_word}
use Rattle.risc_model.specs.MachineState.{CpuState}
use Rattle.risc_search.specs.Condition.{register_value}
use Rattle.oberon_past.specs.Origins.{value_of, values_of, word_in}
use Rattle.oberon_past.specs.declared.part.Part.{Part}
use Rattle.oberon_past.proofs.why.value_in.Goals as goal

pub returns-in-Register : goal.returns-in-Register
unfolding values_of
returns-in-Register c =
    let mask : ℕ = c.in-Register.mask in
    let fits : c.register_value.result < 2 ^ 32 = search arith in
    and_word-is c.register_value.result mask fits
    ∙ ap (λ (n : ℕ). and_word n mask) c.register_value.ensures
    ∙ ap (λ (cpu : CpuState). and_word (register_value c.in-Register.register cpu) mask) c.cpu.ensures.cpu
    ∙ sym (ap (λ (part : Part). value_of part c.args.machine.now.state) c.in-Register.is)

pub returns-in-Word : goal.returns-in-Word
unfolding values_of
returns-in-Word c =
    let mask : ℕ = c.in-Word.mask in
    let fits : c.word_value.result < 2 ^ 32 = search arith in
    and_word-is c.word_value.result mask fits
    ∙ ap (λ (n : ℕ). and_word n mask) c.word_value.ensures
    ∙ ap (λ (words : List ℕ). and_word (word_in words c.in-Word.number) mask) c.memory.ensures.words
    ∙ sym (ap (λ (part : Part). value_of part c.args.machine.now.state) c.in-Word.is)
