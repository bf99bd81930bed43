use Rattle.std.proofs.Common.{arith, inr}
use Rattle.oberon_format.specs.Text.{TextWithDisk}
use Rattle.galluspa.proofs.DraftLemmas.{fresh-draft}
use Rattle.galluspa.proofs.TextLemmas.{no-fault-memory}
use Rattle.galluspa.proofs.past_record.first_draft.Goals as goal

pub returns-in-Err-Memory-read_with_disk-clause-refused : goal.returns-in-Err-Memory-read_with_disk-clause-refused
returns-in-Err-Memory-read_with_disk-clause-refused c =
    inr (no-fault-memory c.args.text.now (TextWithDisk c.args.text.now) _ c.in-Err-Memory-read_with_disk.ensures c.in-Err-Memory-read_with_disk.field-0-is)

pub returns-clause-draft : goal.returns-clause-draft
returns-clause-draft c = fresh-draft c.args.past.now.run _ (search arith) c.new.ensures.items
