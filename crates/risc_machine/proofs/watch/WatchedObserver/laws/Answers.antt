use Rattle.std.proofs.Common.{refl, subst, ◌∙◌}
use Rattle.risc_machine.specs.inner.Passes.{ArePassed}
use Rattle.risc_machine.proofs.WatchLemmas.{passed-none, passed-one, passed-after}
use Rattle.risc_machine.proofs.watch.WatchedObserver.laws.Goals as goal

pub returns : goal.returns
returns g c = record {
  unseen = λ n s o none. (refl, passed-none _ n s none);
  joined = λ k n total s t a b d steps reached before more. (more.0 ∙ before.0, passed-after _ k n total s t steps reached before.1 (subst (λ (w : _). ArePassed (g.W.Watch.ignored w.watch.now) n t) before.0 more.1));
  onward = λ s o step ready. (refl, passed-one _ s ready);
}
