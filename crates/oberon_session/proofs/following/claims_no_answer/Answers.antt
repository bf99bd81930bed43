use Rattle.std.proofs.Common.{arith, refl, subst}
use Rattle.std.proofs.lemmas.List.{get_or_default}
use Rattle.oberon_format.specs.CheckpointParts.{no_checkpoint}
use Rattle.oberon_format.specs.Recording.{IsUnanswered}
use Rattle.oberon_session.proofs.following.claims_no_answer.Goals as goal

pub returns : goal.returns
returns c = (
  λ _ k d lt.
      subst IsUnanswered (get_or_default c.args.recording.now.checkpoints k no_checkpoint d lt)
      (c.loop-k.invariant k (omega (arith, lt, c.count-k-end.ensures.count))),
  λ _. refl,
)
