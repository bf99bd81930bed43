use Rattle.oberon_format.proofs.Common.{change_of, HasPageIds, page_id_after, slice_index}
use Rattle.oberon_format.proofs.reading.change_table.Given as goal

abbrev pub invariant-loop-i : goal.invariant-loop-i
invariant-loop-i l = record {
  made : HasPageIds l.table.numbers (page_id_after (change_of l.bytes l.offset) (slice_index l.fn.table.numbers) l.i);
}
