use Rattle.std.proofs.Common.{◌≡◌, ◌-◌, [], replicate}
use Rattle.oberon_claims.specs.Pass.{fresh_pass}
use Rattle.oberon_claims.specs.inner.Book.{own_view}
use Rattle.oberon_claims.proofs.claims.Claims.new.Given as goal

abbrev pub invariant-loop-worker : goal.invariant-loop-worker
invariant-loop-worker l =
    (l.own.table_id ≡ l.table.shared.table_id)
    × (l.own.me.1 ≡ [])
    × (l.own.me.0 ≡ own_view record { jobs = l.jobs; workers = l.workers } (l.workers - l._worker))
    × (l.passes.items ≡ replicate l._worker (fresh_pass record { table = l.table.shared.table_id; jobs = l.jobs; workers = l.workers }))
