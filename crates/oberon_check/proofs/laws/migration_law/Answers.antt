use Rattle.oberon_check.proofs.InVersions.{either_in, one_in}
use Rattle.oberon_check.proofs.Migrations.{same_line}
use Rattle.oberon_check.proofs.laws.migration_law.Goals as goal

pub returns : goal.returns
returns c = same_line (one_in c.one_recording_with_disk_law.ensures) (either_in c.file_or_fault_law.ensures c.file_or_fault_with_disk_law.ensures)
