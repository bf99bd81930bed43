use Rattle.std.proofs.Common.{◌∙◌, sym}
use Rattle.std.proofs.lemmas.Bool.{true≢false}
use Rattle.oberon_session.proofs.range.is_rising.Goals as goal

pub returns-then-slots_rise : goal.returns-then-slots_rise
returns-then-slots_rise c = (
  λ rise. (rw c.deref.ensures.value at (c.slots_rise.ensures.0 c.if-slots_rise.true), rw c.deref-then-slots_rise.ensures.value at (c.rises.ensures.0 rise)),
  λ rise. c.rises.ensures.1 (rw c.deref-then-slots_rise.ensures.value rise.1),
)

pub returns-else-slots_rise : goal.returns-else-slots_rise
returns-else-slots_rise c = (
  λ yes. absurd (true≢false (sym yes ∙ c.if-slots_rise.false)),
  λ rise. c.slots_rise.ensures.1 (rw c.deref.ensures.value rise.0),
)
