use Rattle.std.proofs.Common.{◌≡◌, arith, length, subst}
use Rattle.oberon_past.specs.declared.found.AllFound.TheVariants as all
use Rattle.galluspa.specs.Searches.{HaveFound}
use Rattle.galluspa.proofs.past_hits.galluspa_past_hits.Goals as goal

pub returns-in-Ok-Done-clause-done : goal.returns-in-Ok-Done-clause-done
returns-in-Ok-Done-clause-done c =
    let same : c.deref_mut.result.now ≡ c.in-Some.here.value = search arith in
    λ _. record {
      past = c.in-Some.here.value;
      holds = c.in-Some.ensures.some;
      is = record {
        hits = c.in-Ok-Done.found;
        have_found = subst (HaveFound c.args.conditions.now c.args.from.now c.args.to (length c.args.hits.now) (all.Done c.in-Ok-Done.found)) same
            (rw c.in-Ok-Done.field-0-is at c.in-Ok-Done.ensures.found);
        list_is = c.write_found.ensures.hits;
        next_is = c.write_found.ensures.next;
      };
    }

pub returns-in-Ok-More-clause-more : goal.returns-in-Ok-More-clause-more
returns-in-Ok-More-clause-more c =
    let same : c.deref_mut.result.now ≡ c.in-Some.here.value = search arith in
    λ _. record {
      past = c.in-Some.here.value;
      holds = c.in-Some.ensures.some;
      is = record {
        hits = c.in-Ok-More.found;
        have_found = subst (HaveFound c.args.conditions.now c.args.from.now c.args.to (length c.args.hits.now) (all.More c.in-Ok-More.found)) same
            (rw c.in-Ok-More.field-0-is at c.in-Ok-More.ensures.found);
        list_is = c.write_found-in-Ok-More.ensures.hits;
        next_is = c.write_found-in-Ok-More.ensures.next;
      };
    }
