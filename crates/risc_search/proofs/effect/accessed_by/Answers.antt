use Rattle.std.proofs.Common.{◌≡◌, ◌∙◌, ℕ, List, Option, Some, ap, sym}
use Rattle.risc_core.specs.declared.instruction.Instr.{Instr}
use Rattle.risc_core.specs.Instruction.{instruction_of}
use Rattle.risc_model.specs.MachineState.{CpuState, State}
use Rattle.risc_model.specs.Replay.{feed}
use Rattle.risc_search.specs.declared.access.Access.{Access}
use Rattle.risc_search.specs.Access.{accessed}
use Rattle.risc_search.specs.Effects.{accessed_by}
use Rattle.risc_search.proofs.EffectLemmas.{IsNext, access-is, is-next, no-access}
use Rattle.risc_search.proofs.effect.accessed_by.Goals as goal

pub returns-in_err-word : goal.returns-in_err-word
returns-in_err-word c =
    let s = c.args.machine.now.state in
    let t = feed c.args.events.now c.args.at s in
    c.from_residual.ensures ∙ ap (λ (access : Option Access). accessed_by t access) (sym (no-access s.cpu s.words (sym c.requires.word ∙ c.in_err-word.was)))

pub returns-in_err-access : goal.returns-in_err-access
returns-in_err-access c =
    let s = c.args.machine.now.state in
    let t = feed c.args.events.now c.args.at s in
    let word = c.in_ok-word.word in
    let next = is-next s.cpu s.words word (sym c.requires.word ∙ c.in_ok-word.was) in
    let found = c.accessed.ensures
    ∙ ap (λ (i : Instr). accessed i c.cpu.result.now.r) c.decode.ensures.value
    ∙ ap (λ (cpu : CpuState). accessed (instruction_of word) cpu.r) c.cpu.ensures.cpu in
    c.from_residual-in_err-access.ensures ∙ ap (λ (access : Option Access). accessed_by t access) (sym (next.access_is ∙ sym found ∙ c.in_err-access.was))

pub accessed_in-requires-clause-running : goal.accessed_in-requires-clause-running
accessed_in-requires-clause-running c =
    let s = c.args.machine.now.state in
    let next = is-next s.cpu s.words c.in_ok-word.word (sym c.requires.word ∙ c.in_ok-word.was) in
    next.running

pub accessed_in-requires-clause-word : goal.accessed_in-requires-clause-word
accessed_in-requires-clause-word c =
    let s = c.args.machine.now.state in
    let next = is-next s.cpu s.words c.in_ok-word.word (sym c.requires.word ∙ c.in_ok-word.was) in
    next.word_is

pub accessed_in-requires-clause-access : goal.accessed_in-requires-clause-access
accessed_in-requires-clause-access c = access-is c.decode.result c.cpu.result.now.r c.in_ok-access.access (sym c.accessed.ensures ∙ c.in_ok-access.was)

pub returns : goal.returns
returns c =
    let s = c.args.machine.now.state in
    let t = feed c.args.events.now c.args.at s in
    let word = c.in_ok-word.word in
    let next = is-next s.cpu s.words word (sym c.requires.word ∙ c.in_ok-word.was) in
    let found = c.accessed.ensures
    ∙ ap (λ (i : Instr). accessed i c.cpu.result.now.r) c.decode.ensures.value
    ∙ ap (λ (cpu : CpuState). accessed (instruction_of word) cpu.r) c.cpu.ensures.cpu in
    (λ i. Some (c.accessed_in.ensures i)) ∙ ap (λ (access : Option Access). accessed_by t access) (sym (next.access_is ∙ sym found ∙ c.in_ok-access.was))
