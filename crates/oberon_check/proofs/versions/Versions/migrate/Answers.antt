use Rattle.oberon_check.proofs.versions.Versions.migrate.Goals as goal

pub returns-in-WithoutDisk : goal.returns-in-WithoutDisk
returns-in-WithoutDisk c = rw c.in-WithoutDisk.is c.migrate.ensures

pub returns-in-WithDisk : goal.returns-in-WithDisk
returns-in-WithDisk c = rw c.in-WithDisk.is c.migrate_with_disk.ensures
