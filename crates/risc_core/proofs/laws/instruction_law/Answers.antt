use Rattle.risc_core.proofs.InstructionLemmas.{instruction_law-holds}
use Rattle.risc_core.proofs.laws.instruction_law.Goals as goal

pub returns : goal.returns
returns c = instruction_law-holds
