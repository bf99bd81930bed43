use Rattle.oberon_format.proofs.Common.{answer_rules, each, first_broken, None, parts_of, ◌≡◌}
use Rattle.oberon_format.proofs.parts.answers_fault.Given as goal

-- no checkpoint so far has an answer
abbrev pub invariant-loop-k : goal.invariant-loop-k
invariant-loop-k l = first_broken (each l.k (answer_rules l.version (parts_of l.pool l.inputs l.checkpoints))) ≡ None
