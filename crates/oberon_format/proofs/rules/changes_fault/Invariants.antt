use Rattle.oberon_format.proofs.Common.{change_of, change_rules, each, first_broken, HasPageIds, None, page_id_after, slot_floor, PAGE_SLOTS, slice_index, ℕ, ◌<◌, ◌≡◌, ◌≤◌}
use Rattle.oberon_format.proofs.rules.changes_fault.Given as goal

-- the changes so far are made, and from the floor on the table is as it was
abbrev pub invariant-loop-i : goal.invariant-loop-i
invariant-loop-i l = record {
  met : first_broken (each l.i (change_rules l.pages l.offset (slice_index l.fn.table.numbers) (change_of l.bytes l.offset))) ≡ None;
  floor_is : l.floor ≡ slot_floor (change_of l.bytes l.offset) l.i;
  made : HasPageIds l.table.numbers (page_id_after (change_of l.bytes l.offset) (slice_index l.fn.table.numbers) l.i);
  rest : (p : ℕ) → l.floor ≤ p → p < PAGE_SLOTS → slice_index l.table.numbers p ≡ slice_index l.fn.table.numbers p;
}
