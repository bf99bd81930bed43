use Rattle.oberon_format.proofs.Common.{changes_below, length, ◌≡◌}
use Rattle.oberon_format.proofs.change.change_count.Given as goal

-- the slots so far have this many changes
abbrev pub invariant-loop-p : goal.invariant-loop-p
invariant-loop-p l = l.count ≡ length (changes_below l.p l.before.numbers l.table.numbers)
