use Rattle.oberon_check.proofs.InVersions.{either_in, one_in}
use Rattle.oberon_check.proofs.Lines.{one_line}
use Rattle.oberon_check.proofs.laws.line_law.Goals as goal

pub returns : goal.returns
returns c v bytes = one_line v bytes (one_in c.one_recording_with_disk_law.ensures v) (either_in c.file_or_fault_law.ensures c.file_or_fault_with_disk_law.ensures v)
