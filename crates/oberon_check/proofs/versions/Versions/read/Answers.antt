use Rattle.oberon_check.proofs.versions.Versions.read.Goals as goal

pub returns-in-WithoutDisk : goal.returns-in-WithoutDisk
returns-in-WithoutDisk c = rw c.in-WithoutDisk.is c.read.ensures

pub returns-in-WithDisk : goal.returns-in-WithDisk
returns-in-WithDisk c = rw c.in-WithDisk.is c.read_with_disk.ensures
