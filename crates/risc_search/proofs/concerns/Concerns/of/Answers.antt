use Rattle.std.proofs.Common.{◌≢◌, ℕ, subst, sym, inl, inr, arith}
use Rattle.std.specs.Prelude.{IsTrue}
use Rattle.std.proofs.lemmas.Bool.{cases_eq}
use Rattle.risc_search.specs.Clauses.{begins}
use Rattle.risc_search.specs.inner.Concerns.{CoversFrom}
use Rattle.risc_search.proofs.ConcernLemmas.{covers-more}
use Rattle.risc_search.proofs.concerns.Concerns.of.Goals as goal

pub loop-index-preserved : goal.loop-index-preserved
loop-index-preserved c = λ first inside begun.
    let conditions = c.args.conditions.now in
    let index : ℕ = c.loop-index.index in
    let joined = c.with_joined-concerns.ensures in
    elim (cases_eq first index) [
      | inl same ↦
          let P : ℕ → Type 0 = λ (k : ℕ). CoversFrom c.with_joined-concerns.result conditions k in
          subst P (sym same) (joined.covers (subst (λ (k : ℕ). IsTrue (begins conditions k)) same begun))
      | inr other ↦
          let old = c.loop-index.invariant first (let ne : first ≢ index = other in omega arith) begun in
          record {
            index = old.index;
            clause = old.clause;
            covers = λ d. covers-more c.with_joined-concerns.result c.loop-index.concerns _ joined.includes (old.covers d);
          }
    ]
