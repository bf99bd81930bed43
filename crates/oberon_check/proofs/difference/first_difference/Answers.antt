use Rattle.std.proofs.Common.{◌≡◌, ℕ, List, None, true≢false, ap, sym, ◌∙◌, subst}
use Rattle.risc_pages.specs.Tables.{table_words}
use Rattle.risc_pages.specs.Delta.{IsFirstDifferentPage}
use Rattle.risc_devices.specs.DeviceState.{DeviceState}
use Rattle.risc_model.specs.MachineState.{CpuState, cpu_state}
use Rattle.oberon_format.specs.FirstFault.{first_broken}
use Rattle.oberon_check.specs.Difference.{cpu_parts, device_parts}
use Rattle.oberon_check.proofs.Parts.{in_cpu, in_devices, in_sent, in_page, same_devices, same_outcome}
use Rattle.oberon_check.proofs.difference.first_difference.Goals as goal
use Rattle.oberon_check.proofs.difference.first_difference.Goals.{In_default, In_default-device_difference}

no_cpu : (c : In_default) → first_broken (cpu_parts (cpu_state c.args.checkpoint.now.cpu) c.args.machine.now.state.cpu) ≡ None
no_cpu c = ap (λ (s : CpuState). first_broken (cpu_parts (cpu_state c.args.checkpoint.now.cpu) s)) (sym c.cpu.ensures.cpu) ∙ sym c.in_default.ensures.part

no_devices : (c : In_default-device_difference) → first_broken (device_parts c.args.checkpoint.now.devices c.args.machine.now.state.devices) ≡ None
no_devices c = ap (λ (d : DeviceState). first_broken (device_parts c.args.checkpoint.now.devices d)) (sym c.devices.ensures) ∙ sym c.in_default-device_difference.ensures

pub returns-in-Some : goal.returns-in-Some
returns-in-Some c sent same =
    in_cpu _ _ _ (ap (λ (s : CpuState). first_broken (cpu_parts (cpu_state c.args.checkpoint.now.cpu) s)) (sym c.cpu.ensures.cpu) ∙ sym c.in-Some.ensures.part)

pub returns-in-Some-device_difference : goal.returns-in-Some-device_difference
returns-in-Some-device_difference c sent same =
    in_devices _ _ _ (no_cpu c.before.before.before)
    (ap (λ (d : DeviceState). first_broken (device_parts c.args.checkpoint.now.devices d)) (sym c.devices.ensures) ∙ sym c.in-Some-device_difference.ensures)

pub returns-then-not-same : goal.returns-then-not-same
returns-then-not-same c sent same =
    in_sent _ _ (no_cpu c.before.before.before.before) (no_devices c.before) (λ e. true≢false (sym (same.1 (sym e)) ∙ c.if-not-same.true))

pub returns-in-Some-first_difference : goal.returns-in-Some-first_difference
returns-in-Some-first_difference c sent same =
    in_page _ _ _ (no_cpu c.before.before.before.before.before.before.before) (no_devices c.before.before.before.before) (sym (same.0 c.if-not-same.false))
    (subst (λ (words : List ℕ). IsFirstDifferentPage words (table_words c.args.pool.now c.args.checkpoint.now.table.numbers) c.in-Some-first_difference.slot)
    c.memory.ensures.words c.in-Some-first_difference.ensures.some)

pub returns-in-None : goal.returns-in-None
returns-in-None c sent same =
    same_outcome _ _ (c.in_default.ensures.same ∙ c.cpu.ensures.cpu) (same_devices _ _ (no_devices c.before.before.before.before))
    (sym c.in-None.ensures.none ∙ c.memory.ensures.words) (sym (same.0 c.if-not-same.false))
