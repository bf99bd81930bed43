use Rattle.oberon_format.proofs.Named.{fault_with_disk_named}
use Rattle.oberon_format.proofs.laws.named_fault_with_disk_law.Goals as goal

pub returns : goal.returns
returns c = fault_with_disk_named
