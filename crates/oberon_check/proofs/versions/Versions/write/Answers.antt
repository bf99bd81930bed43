use Rattle.oberon_check.proofs.versions.Versions.write.Goals as goal

pub returns-in-WithoutDisk : goal.returns-in-WithoutDisk
returns-in-WithoutDisk c = rw c.in-WithoutDisk.is (c.write.ensures.plain (c.requires c.in-WithoutDisk.is))

pub returns-in-WithDisk : goal.returns-in-WithDisk
returns-in-WithDisk c = rw c.in-WithDisk.is c.write_with_disk.ensures
