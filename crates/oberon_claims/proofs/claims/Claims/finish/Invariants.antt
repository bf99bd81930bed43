use Rattle.std.proofs.Common.{◌≡◌, ◌++◌}
use Rattle.oberon_claims.proofs.Gathers.{gathered}
use Rattle.oberon_claims.proofs.claims.Claims.finish.Given as goal

-- the own seat has joined the seats of the passes so far
abbrev pub invariant-loop-pass : goal.invariant-loop-pass
invariant-loop-pass l =
    (l.own.table_id ≡ l.table.shared.table_id)
    × (l.own.me.0 ≡ gathered l.fn.self l.yielded)
    × (l.yielded ++ l.pass-iterator.rest.items ≡ l.fn.passes.items)
