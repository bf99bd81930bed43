use Rattle.oberon_format.proofs.Common.{checkpoint_rules, count_before, each, fields_in, first_broken, MAX_OUTPUT, None, parts_of, sent_below, start_in, ◌≡◌, ◌≤◌}
use Rattle.oberon_format.proofs.parts.checkpoints_fault.Given as goal

-- the checkpoints so far meet their rules, and the next one is tested with the parts' own numbers
abbrev pub invariant-loop-k : goal.invariant-loop-k
invariant-loop-k l = record {
  met : first_broken (each l.k (checkpoint_rules (fields_in l.version (parts_of l.pool l.inputs l.checkpoints)))) ≡ None;
  offset_is : l.offset ≡ start_in l.version (parts_of l.pool l.inputs l.checkpoints) l.k;
  before_is : l.before ≡ count_before (fields_in l.version (parts_of l.pool l.inputs l.checkpoints)) l.k;
  sent_is : l.sent ≡ sent_below (fields_in l.version (parts_of l.pool l.inputs l.checkpoints)) l.k;
  small : l.sent ≤ MAX_OUTPUT;
}
