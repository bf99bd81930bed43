use Rattle.recording_texts.proofs.Lists.{none_after, one_key_more}
use Rattle.recording_texts.proofs.claim.push_sixteen.Goals as goal

pub loop-i-init : goal.loop-i-init
loop-i-init c = none_after c.args.bytes.now.items c.args.keys.now

pub loop-i-preserved : goal.loop-i-preserved
loop-i-preserved c =
    one_key_more c.args.bytes.now.items c.args.keys.now c.loop-i.bytes.items _ c.loop-i.i c.key_at.result c.in_ok-push.ensures.items c.loop-i.invariant
    c.key_at.ensures
