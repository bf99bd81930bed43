use Rattle.std.proofs.Common.{◌∙◌, false, sym}
use Rattle.std.proofs.lemmas.Bool.{false≢true}
use Rattle.risc_search.specs.declared.condition.Condition.TheVariants.{Sends}
use Rattle.risc_search.proofs.meeting.is_met_at.Goals as goal

pub returns-else-is_armed : goal.returns-else-is_armed
returns-else-is_armed c =
    (λ is. absurd (false≢true (sym c.if-is_armed.false ∙ is)), λ met. (met (record { condition = Sends; joined = false })).0)
