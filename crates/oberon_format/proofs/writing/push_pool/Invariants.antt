use Rattle.oberon_format.proofs.Common.{flat_map, take, words_bytes, ◌++◌, ◌≡◌}
use Rattle.oberon_format.proofs.writing.push_pool.Given as goal

abbrev pub invariant-loop-p : goal.invariant-loop-p
invariant-loop-p l = l.out.items ≡ l.fn.out.items ++ flat_map words_bytes (take l.p l.pool)
