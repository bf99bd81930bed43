use Rattle.oberon_format.proofs.Common.{checkpoint_rules, count_before, each, fields_of, first_broken, HasPageIds, length, MAX_OUTPUT, None, page_id_before, start, version, ◌≡◌, ◌≤◌, ◌==◌, false, FIRST_VERSION}
use Rattle.oberon_format.proofs.RuleLemmas.{output_below}
use Rattle.oberon_format.proofs.rules.checkpoints_end.Given as goal

abbrev pub invariant-loop-k : goal.invariant-loop-k
invariant-loop-k l = record {
  met : first_broken (each l.k (checkpoint_rules (fields_of l.bytes))) ≡ None;
  offset_is : l.offset ≡ start l.bytes l.k;
  room : l.offset ≤ length l.bytes;
  before_is : l.before ≡ count_before (fields_of l.bytes) l.k;
  sent_is : l.sent ≡ output_below l.bytes l.k;
  small : l.sent ≤ MAX_OUTPUT;
  table : (version l.bytes == FIRST_VERSION) ≡ false → HasPageIds l.table.numbers (page_id_before l.bytes l.k);
}
