use Rattle.recording_texts.proofs.Lists.{no_word_after, one_word_after}
use Rattle.recording_texts.proofs.sketch.push_page.Goals as goal

pub loop-i-init : goal.loop-i-init
loop-i-init c = no_word_after c.args.file.now.items c.args.words.now

pub loop-i-preserved : goal.loop-i-preserved
loop-i-preserved c =
    one_word_after c.args.file.now.items c.args.words.now c.loop-i.file.items _ c.loop-i.i c.word_at.result c.in_ok-push_word.ensures c.loop-i.invariant
    c.word_at.ensures
