use Rattle.oberon_check.proofs.InVersions.{either_in, one_in}
use Rattle.oberon_shards.proofs.Complete.{complete}
use Rattle.oberon_shards.proofs.laws.complete_law.Goals as goal

pub returns : goal.returns
returns c = complete (one_in c.one_recording_with_disk_law.ensures) (either_in c.file_or_fault_law.ensures c.file_or_fault_with_disk_law.ensures)
