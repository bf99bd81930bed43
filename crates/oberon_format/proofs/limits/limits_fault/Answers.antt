use Rattle.oberon_format.proofs.Common.{arith, le-leb, MAX_CHECKPOINTS, max_events, MAX_PAGES, nat_le, refl, true, ◌≡◌}
use Rattle.oberon_format.proofs.limits.limits_fault.Goals as goal

pub returns-then-checkpoints-lt1-clause-fault : goal.returns-then-checkpoints-lt1-clause-fault
returns-then-checkpoints-lt1-clause-fault c = search arith

pub returns-clause-fault : goal.returns-clause-fault
returns-clause-fault c =
    let pages : nat_le c.args.pages MAX_PAGES ≡ true = le-leb _ _ (omega arith) in
    let events : nat_le c.args.events (max_events c.args.version) ≡ true = le-leb _ _ (omega (arith, c.max_events.ensures.value)) in
    let some : nat_le 1 c.args.checkpoints ≡ true = le-leb _ _ (omega arith) in
    let few : nat_le c.args.checkpoints MAX_CHECKPOINTS ≡ true = le-leb _ _ (omega arith) in
    rw (pages, events, some, few) refl

pub returns-clause-pages : goal.returns-clause-pages
returns-clause-pages c = omega arith

pub returns-clause-events : goal.returns-clause-events
returns-clause-events c = omega (arith, c.max_events.ensures.within)

pub returns-clause-some : goal.returns-clause-some
returns-clause-some c = omega arith
