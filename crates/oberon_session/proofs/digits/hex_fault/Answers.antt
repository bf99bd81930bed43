use Rattle.std.proofs.Common.{◌≡◌, refl}
use Rattle.oberon_session.specs.declared.fault.SessionFault.TheVariants as fault
use Rattle.oberon_session.proofs.digits.hex_fault.Goals as goal

pub returns-in-OutOfMemory-clause-memory : goal.returns-in-OutOfMemory-clause-memory
returns-in-OutOfMemory-clause-memory c = (λ _. c.in-OutOfMemory.is, λ _. refl)

pub returns-in-OutOfMemory-clause-hex : goal.returns-in-OutOfMemory-clause-hex
returns-in-OutOfMemory-clause-hex c = (λ e _. let no : fault.Memory ≡ fault.Hex = e in cc, λ other. absurd (other c.in-OutOfMemory.is))
