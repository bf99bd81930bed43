use Rattle.oberon_format.proofs.Common.{checkpoint_parts, checkpoints_at, fields_of, HasPageIds, length, map, output_offset, prior_page_id, start, ◌+◌, ◌≡◌}
use Rattle.oberon_format.proofs.RuleLemmas.{output_below}
use Rattle.oberon_format.proofs.reading.checkpoints_of.Given as goal

abbrev pub invariant-loop-k : goal.invariant-loop-k
invariant-loop-k l = record {
  len : length l.list.items ≡ l.k;
  offset_is : l.offset ≡ start l.bytes l.k;
  table_is : HasPageIds l.table.numbers (prior_page_id (fields_of l.bytes) l.k);
  from_is : l.from ≡ output_offset l.bytes + output_below l.bytes l.k;
  decoded : map checkpoint_parts l.list.items ≡ checkpoints_at l.bytes l.k;
}
