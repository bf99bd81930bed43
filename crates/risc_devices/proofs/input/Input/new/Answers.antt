use Rattle.std.proofs.Common.{◌≢◌, arith}
use Rattle.risc_devices.specs.InputKind.{is_input}
use Rattle.risc_devices.proofs.InputLemmas.{input_with_disk, input_without_disk}
use Rattle.risc_devices.proofs.input.Input.new.Goals as goal

pub returns-then-kind-eq-DISK-clause-lawful : goal.returns-then-kind-eq-DISK-clause-lawful
unfolding is_input
returns-then-kind-eq-DISK-clause-lawful c = grind arith

pub returns-clause-lawful : goal.returns-clause-lawful
returns-clause-lawful c =
    let other : c.args.kind ≢ 6 = grind arith in
    (λ made. input_without_disk _ _ other (c.new_with_disk.ensures.lawful.0 made), λ lawful. c.new_with_disk.ensures.lawful.1 (input_with_disk _ _ lawful))
