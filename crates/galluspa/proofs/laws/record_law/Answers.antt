use Rattle.galluspa.proofs.RecordLemmas.{record_law-holds}
use Rattle.galluspa.proofs.laws.record_law.Goals as goal

pub returns : goal.returns
returns c = record_law-holds
