use Rattle.std.proofs.Common.{ltb-true, true≢false, sym}
use Rattle.oberon_check.proofs.Series.{looked, after_shown}
use Rattle.oberon_check.proofs.worker.is_skipped.Goals as goal

pub returns-in-Some-clause-looked : goal.returns-in-Some-clause-looked
returns-in-Some-clause-looked c = looked c.look.result c.args.pass.now c.look.new.pass c.look.ensures.joins c.look.ensures.stays

pub returns-in-Some-clause-shown : goal.returns-in-Some-clause-shown
returns-in-Some-clause-shown c below = after_shown c.in-Some.shown c.args.first _ _ c.in-Some.ensures.joins (ltb-true _ _ below)

pub returns-in-None-clause-looked : goal.returns-in-None-clause-looked
returns-in-None-clause-looked c = looked c.look.result c.args.pass.now c.look.new.pass c.look.ensures.joins c.look.ensures.stays

pub returns-in-None-clause-shown : goal.returns-in-None-clause-shown
returns-in-None-clause-shown c never = absurd (true≢false (sym never))
