use Rattle.std.proofs.lemmas.Grind.{common_steps}
use Rattle.std.proofs.Common.{[], sym, ◌∙◌, arith}
use Rattle.std.proofs.lemmas.Bool.{false≢true}
use Rattle.std.proofs.lemmas.List.{append-nil}
use Rattle.risc_machine.proofs.sink.Matching.is_whole.Goals as goal

pub returns-else-self : goal.returns-else-self
returns-else-self c = λ l m.
    (λ t. absurd (false≢true (sym c.if-self.false ∙ t)), λ e. absurd (m.other c.if-self.false [] (append-nil l ∙ e)))

pub returns-then-self : goal.returns-then-self
returns-then-self c = grind (arith, common_steps)
