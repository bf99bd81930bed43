use Rattle.oberon_check.proofs.Migrations.{refused_without, same_with_disk}
use Rattle.oberon_check.proofs.laws.versions_law.Goals as goal

pub returns-clause-same : goal.returns-clause-same
returns-clause-same c = same_with_disk

pub returns-clause-refused : goal.returns-clause-refused
returns-clause-refused c = refused_without c.file_or_fault_with_disk_law.ensures
