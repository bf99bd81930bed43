use Rattle.oberon_format.specs.Text.{TextWithDisk}
use Rattle.galluspa.proofs.TextLemmas.{no-fault-memory}
use Rattle.galluspa.proofs.past.galluspa_past_open.Goals as goal

pub returns-in-Err-Memory-clause-memory : goal.returns-in-Err-Memory-clause-memory
returns-in-Err-Memory-clause-memory c = λ _. no-fault-memory c.args.recording.now (TextWithDisk c.args.recording.now) _ c.in-Err-Memory.ensures c.in-Err-Memory.field-0-is
