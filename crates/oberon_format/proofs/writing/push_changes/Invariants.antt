use Rattle.oberon_format.proofs.Common.{change_bytes, changes_below, flat_map, ◌++◌, ◌≡◌}
use Rattle.oberon_format.proofs.writing.push_changes.Given as goal

abbrev pub invariant-loop-p : goal.invariant-loop-p
invariant-loop-p l = l.out.items ≡ l.fn.out.items ++ flat_map change_bytes (changes_below l.p l.before.numbers l.table.numbers)
