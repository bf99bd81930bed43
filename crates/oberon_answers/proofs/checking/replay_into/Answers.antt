use Rattle.std.proofs.Common.{◌∙◌, List, subst, sym, arith}
use Rattle.std.proofs.lemmas.Grind.{common_steps}
use Rattle.oberon_check.specs.Segment.{SegmentVerdictRecord}
use Rattle.oberon_answers.specs.inner.Replaying.{AreFirst}
use Rattle.oberon_answers.proofs.FirstLemmas.{first_more}
use Rattle.oberon_answers.proofs.checking.replay_into.Goals as goal

pub returns-clause-first : goal.returns-clause-first
returns-clause-first c =
    subst (λ (vs : List SegmentVerdictRecord). AreFirst c.args.r.now vs) (sym c.in_ok-push.ensures.items)
    (first_more c.args.r.now c.args.verdicts.now.items c.in_ok-verdict.verdict c.requires.before c.in_ok-verdict.ensures.recording
    (c.in_ok-verdict.ensures.segment ∙ sym c.requires.next))

pub returns-clause-failed : goal.returns-clause-failed
returns-clause-failed c = grind (arith, common_steps)
