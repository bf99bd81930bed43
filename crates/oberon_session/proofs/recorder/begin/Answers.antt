use Rattle.std.proofs.Common.{◌<◌, ◌∙◌, ap, map}
use Rattle.risc_pages.specs.declared.table.Table.{Table}
use Rattle.risc_model.specs.MachineState.{cpu_state}
use Rattle.oberon_format.specs.CheckpointParts.{checkpoint_parts}
use Rattle.oberon_session.proofs.Begun.{one-checkpoint, so-first, timer-phase}
use Rattle.oberon_session.proofs.Mapped.{unmapped}
use Rattle.oberon_session.specs.Digits.{PlacedWords}
use Rattle.oberon_session.specs.Parts.{placed_view}
use Rattle.oberon_session.specs.Stored.{Stored, stored_view}
use Rattle.oberon_session.specs.Recorded.{first_devices, first_stored}
use Rattle.oberon_session.proofs.recorder.begin.Goals as goal

pub store_first-requires-clause-slots : goal.store_first-requires-clause-slots
store_first-requires-clause-slots c =
    unmapped placed_view (λ (page : PlacedWords). page.at < 1024) c.pages.result.now (rw c.pages.ensures.pages c.pages.ensures.lawful.slots)

pub first_devices-requires : goal.first_devices-requires
first_devices-requires c =
    rw (c.rate.ensures.rate, c.phase.ensures.phase) (timer-phase c.args.session.now.rate c.args.session.now.phase c.rate.ensures.lawful.timer)

pub returns-clause-recorded : goal.returns-clause-recorded
returns-clause-recorded c =
    let s = c.args.session.now in
    let stored-so = c.in_ok-stored.ensures ∙ ap first_stored c.pages.ensures.pages in
    let table = ap (λ (t : Table). t.numbers) c.copy.ensures ∙ ap (λ (l : Stored). l.table) stored-so in
    let sent = c.new.ensures.items in
    let devices = c.first_devices.ensures ∙ (λ i. first_devices (c.rate.ensures.rate i) (c.phase.ensures.phase i) (c.disk.ensures.disk i)) in
    let pushed = rw c.in_ok-checkpoints.ensures.items at c.in_ok-push.ensures.items in
    so-first s c.pages.ensures.lawful (stored_view c.in_ok-stored.stored) stored-so (map checkpoint_parts c.push.new.self.items)
    (ap (map checkpoint_parts) pushed
    ∙ one-checkpoint s (cpu_state c.cpu.result) c.first_devices.result c.new.result.items c.copy.result.numbers c.cpu.ensures.cpu devices sent table)
