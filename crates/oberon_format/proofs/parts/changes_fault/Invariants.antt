use Rattle.oberon_format.proofs.Common.{change_offset, change_rules, changes_below, each, first_broken, length, None, slice_index, ◌≡◌}
use Rattle.oberon_format.proofs.ChangeLemmas.{change_in}
use Rattle.oberon_format.proofs.parts.changes_fault.Given as goal

-- the changes of the slots so far meet their rules, and the next one would be here
abbrev pub invariant-loop-p : goal.invariant-loop-p
invariant-loop-p l = record {
  met : first_broken (each (length (changes_below l.p l.before.numbers l.table.numbers)) (change_rules l.pages l.offset (slice_index l.before.numbers) (change_in l.before.numbers l.table.numbers))) ≡ None;
  offset_is : l.change_offset ≡ change_offset l.offset (length (changes_below l.p l.before.numbers l.table.numbers));
}
