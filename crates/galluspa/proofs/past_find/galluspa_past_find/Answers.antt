use Rattle.std.proofs.Common.{◌≡◌, ◌≤◌, ◌<◌, ◌⊎◌, inl, inr, arith, subst}
use Rattle.oberon_past.specs.Past.{PastParts}
use Rattle.galluspa.specs.Searches.{IsSearch}
use Rattle.galluspa.proofs.past_find.galluspa_past_find.Goals as goal

pub returns-in-Err-Range-clause-range : goal.returns-in-Err-Range-clause-range
returns-in-Err-Range-clause-range c = λ _.
    let a = c.args in
    let same : c.deref_mut.result.now ≡ c.in-Some.here.value = search arith in
    let fault : (1 < a.wanted) ⊎ ¬ (IsSearch a.conditions.now a.from a.to a.budget × (c.deref_mut.result.now.run.start ≤ a.from)) = search arith in
    elim fault [
      | inl above ↦ inl above
      | inr not ↦ inr (record {
        past = c.in-Some.here.value;
        holds = c.in-Some.ensures.some;
        is = subst (λ (p : PastParts). ¬ (IsSearch a.conditions.now a.from a.to a.budget × (p.run.start ≤ a.from))) same not;
      })
    ]
