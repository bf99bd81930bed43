use Rattle.std.proofs.Common.{arith}
use Rattle.oberon_format.specs.Text.{TextWithDisk}
use Rattle.galluspa.proofs.CheckLemmas.{checkable-of, more-of, range-of}
use Rattle.galluspa.proofs.TextLemmas.{no-fault-memory, read-text}
use Rattle.galluspa.proofs.past_check.check_text.Goals as goal

pub returns-in-Ok-clause-more : goal.returns-in-Ok-clause-more
returns-in-Ok-clause-more c =
    let text = c.args.text.now in
    let r = c.in-Ok.recording in
    more-of text c.args.progress.now r (read-text text r c.in-Ok.ensures) c.progress_of.result c.progress_of.ensures c.reply_of.result c.reply_of.ensures.reply

pub returns-in-Ok-clause-checkable : goal.returns-in-Ok-clause-checkable
returns-in-Ok-clause-checkable c =
    let text = c.args.text.now in
    let r = c.in-Ok.recording in
    checkable-of text c.args.progress.now r (read-text text r c.in-Ok.ensures) c.progress_of.result c.progress_of.ensures c.args.past.now c.reply_of.result
    c.reply_of.ensures.checkable

pub returns-in-Ok-clause-range : goal.returns-in-Ok-clause-range
returns-in-Ok-clause-range c =
    let text = c.args.text.now in
    let r = c.in-Ok.recording in
    range-of text c.args.progress.now r (read-text text r c.in-Ok.ensures) c.progress_of.result c.progress_of.ensures c.args.past.now c.args.budget
    c.reply_of.result c.reply_of.ensures.refused

pub returns-in-Err-Memory-clause-memory : goal.returns-in-Err-Memory-clause-memory
returns-in-Err-Memory-clause-memory c = λ _. (
  omega (arith, c.in-Some.budget.some, c.in-Some.ensures.some),
  no-fault-memory c.args.text.now (TextWithDisk c.args.text.now) _ c.in-Err-Memory.ensures c.in-Err-Memory.field-0-is,
)
