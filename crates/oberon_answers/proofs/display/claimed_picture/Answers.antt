use Rattle.std.proofs.Common.{◌∙◌, ap, arith, length, refl}
use Rattle.oberon_answers.proofs.DisplayLemmas.{range_length, shows}
use Rattle.oberon_answers.proofs.display.claimed_picture.Goals as goal

pub picture-requires : goal.picture-requires
picture-requires c =
    ap length c.deref.ensures.value
    ∙ range_length c.in_ok-memory.memory.words c.in_ok-words.words.items 237504 24576 c.in_ok-words.ensures (omega (arith, c.in_ok-memory.ensures.memory.words))

pub returns-clause-picture : goal.returns-clause-picture
returns-clause-picture c =
    shows c.args.recording.now c.args.at _ _ _ _ _ _ c.checkpoint-checkpoint.ensures.checkpoint refl
    c.in_ok-memory.ensures.words c.pool.ensures.pool (c.deref.ensures.value ∙ c.in_ok-words.ensures) c.in_ok-bytes.ensures
