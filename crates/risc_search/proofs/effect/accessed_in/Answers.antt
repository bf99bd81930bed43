use Rattle.std.proofs.Common.{Bool, not, ◌≡◌, ◌∙◌, ◌*◌, ◌/◌, ◌%◌, ◌^◌, ℕ, List, ap, arith, slice_index, sym}
use Rattle.risc_core.specs.Word.{field}
use Rattle.risc_model.specs.MachineState.{CpuState}
use Rattle.risc_search.proofs.EffectLemmas.{left-loaded, left-stored}
use Rattle.risc_search.proofs.StepLemmas.{not-not, not-true}
use Rattle.risc_model.specs.Replay.{feed}
use Rattle.risc_search.proofs.effect.accessed_in.Goals as goal

pub returns-then-not-access : goal.returns-then-not-access
returns-then-not-access c =
    let access = c.args.access in
    left-loaded (feed c.args.events.now c.args.at c.args.machine.now.state) access c.low_bytes-old.result (not-true access.stores c.if-not-access.true)
    (c.low_bytes-old.ensures ∙ ap (λ (w : ℕ). w / 2 ^ (8 * (access.first % 4)) % 2 ^ (8 * access.count)) c.word_with-there.ensures)

pub returns : goal.returns
returns c =
    let access = c.args.access in
    let s = c.args.machine.now.state in
    left-stored c.args.events.now c.args.at s access c.low_bytes-old.result c.low_bytes-new.result _ c.requires.running (not-not access.stores c.if-not-access.false)
    (c.low_bytes-old.ensures ∙ ap (λ (w : ℕ). w / 2 ^ (8 * (access.first % 4)) % 2 ^ (8 * access.count)) c.word_with-there.ensures)
    (ap (λ (cpu : CpuState). slice_index cpu.r c.stored_register.result) c.cpu.ensures.cpu
    ∙ ap (λ (n : ℕ). slice_index s.cpu.r n) (c.stored_register.ensures.value ∙ ap (λ (w : ℕ). field w 24 4) c.requires.word))
    c.low_bytes-new.ensures
