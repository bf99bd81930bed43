use Rattle.oberon_shards.proofs.OneReading.{one_reading}
use Rattle.oberon_shards.proofs.laws.reading_law.Goals as goal

pub returns : goal.returns
returns c = one_reading
