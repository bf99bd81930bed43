use Rattle.std.proofs.Common.{arith}
use Rattle.risc_devices.proofs.InputLemmas.{kind_fits}
use Rattle.galluspa.proofs.advance.event_at.Goals as goal

pub returns-then-kind-gt6-clause-range : goal.returns-then-kind-gt6-clause-range
returns-then-kind-gt6-clause-range c = λ lawful.
    let small = kind_fits c.args.kind c.args.value lawful in
    let large = c.if-kind-gt6.true in
    absurd (omega arith)

pub returns-in-Ok-clause-event : goal.returns-in-Ok-clause-event
returns-in-Ok-clause-event c = search arith

pub returns-in-Err-clause-range : goal.returns-in-Err-clause-range
returns-in-Err-clause-range c = search arith
