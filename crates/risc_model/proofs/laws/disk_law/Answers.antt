use Rattle.risc_model.proofs.DiskLemmas.{disk_law-holds}
use Rattle.risc_model.proofs.laws.disk_law.Goals as goal

pub returns : goal.returns
returns c = disk_law-holds
