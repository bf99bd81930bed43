use Rattle.std.proofs.Common.{[]}
use Rattle.risc_machine.proofs.TallyLemmas.{counted-none, counted-after, counted-onward}
use Rattle.risc_machine.proofs.counters.CountersObserver.laws.Goals as goal

pub returns : goal.returns
returns c = record {
  unseen = λ n s tally none. counted-none [] 0 n s tally none;
  joined = λ k n total s t a b d steps reached before more. counted-after k n total s t a b d steps reached before more;
  onward = λ s tally step ready. counted-onward s tally step;
}
