use Rattle.std.proofs.lemmas.Bool.{true≢false}
use Rattle.oberon_format.proofs.Common.{sym, ◌∙◌}
use Rattle.oberon_format.proofs.writing.write.Goals as goal

pub returns-then-is_plain-clause-plain : goal.returns-then-is_plain-clause-plain
returns-then-is_plain-clause-plain c = λ plain. c.written_in.ensures

pub returns-then-is_plain-clause-others : goal.returns-then-is_plain-clause-others
returns-then-is_plain-clause-others c = λ other. absurd (other (c.is_plain.ensures.0 c.if-is_plain.true))

pub returns-else-is_plain-clause-plain : goal.returns-else-is_plain-clause-plain
returns-else-is_plain-clause-plain c = λ plain. absurd (true≢false (sym (c.is_plain.ensures.1 plain) ∙ c.if-is_plain.false))

pub returns-else-is_plain-clause-others : goal.returns-else-is_plain-clause-others
returns-else-is_plain-clause-others c = λ other. c.written_in-else-is_plain.ensures
