use Rattle.std.proofs.Common.{◌≡◌, take}
use Rattle.oberon_past.proofs.copying.pool_copy.Given as goal

abbrev pub invariant-loop-page : goal.invariant-loop-page
invariant-loop-page l = l.copy ≡ take l.page l.pool
