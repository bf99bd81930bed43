use Rattle.std.proofs.Common.{◌∙◌, arith, sym}
use Rattle.std.proofs.lemmas.Bool.{true≢false}
use Rattle.oberon_session.proofs.parts.are_in_order.Goals as goal

pub returns-then-slots_rise : goal.returns-then-slots_rise
returns-then-slots_rise c = search arith

pub returns-else-slots_rise : goal.returns-else-slots_rise
returns-else-slots_rise c = (λ yes. absurd (true≢false (sym yes ∙ c.if-slots_rise.false)), λ rise. c.slots_rise.ensures.1 rise.0)
