use Rattle.risc_machine.proofs.FollowerLemmas.{sees-none, sees-joined, sees-onward}
use Rattle.risc_machine.proofs.follower.FollowerObserver.laws.Goals as goal

pub returns : goal.returns
returns c = record {
  unseen = λ n s o none. sees-none n s o none;
  joined = λ k n total s t a b d steps reached before more. sees-joined k n total s t a b d steps reached before more;
  onward = λ s o step ready. sees-onward s o step ready;
}
