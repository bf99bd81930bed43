use Rattle.std.proofs.Common.{not}
use Rattle.risc_machine.specs.inner.Follows.{ends_by, returns_by}
use Rattle.risc_machine.proofs.FollowLemmas.{IsScanned}
use Rattle.risc_machine.proofs.follow.follow.Given as goal

abbrev pub invariant-loop-next : goal.invariant-loop-next
invariant-loop-next l =
    IsScanned (λ call. not (ends_by l.limit l.jump call)) (returns_by l.jump) l.next l.seen.stay l.seen.returns l.calls

abbrev pub decreases-loop-next : goal.decreases-loop-next
decreases-loop-next l = l.next
