-- What a past keeps, with inputs that are added.
use Rattle.std.proofs.Common.{◌≡◌, ◌∙◌, ◌+◌, ◌-◌, ◌*◌, ◌<◌, ◌≤◌, ℕ, List, ◌++◌, ap, arith, length, mul-le-mul_right, subst, sym}
use Rattle.std.specs.List.{All}
use Rattle.risc_model.specs.declared.event.Event.{Event}
use Rattle.oberon_format.specs.Recording.{RecordingParts, checkpoint_at, count_at}
use Rattle.oberon_past.proofs.Inputs.{more-run, more-states}
use Rattle.oberon_past.specs.Live.{AreNext, AreSameUpTo, HasInputs}
use Rattle.oberon_past.specs.Past.{past_of}
use Rattle.oberon_past.specs.inner.Kept.{IsKept, state_of}

module _ (r : RecordingParts) (spacing end : ℕ) (is : IsKept r spacing end) (more inputs : List Event) (next : AreNext (past_of r spacing end) more)
    (added : inputs ≡ r.inputs ++ more) where
  abbrev with : List Event → RecordingParts
  with es = record { pool = r.pool; inputs = es; checkpoints = r.checkpoints }

  at-end : (k : ℕ) → k < length r.checkpoints → count_at r k ≤ end
  at-end k lt =
      let last : k ≤ length r.checkpoints - 1 = omega arith in
      let product = mul-le-mul_right spacing last in
      omega (arith, is.counts k lt, product, is.ends)

  joined-kept : IsKept (with (r.inputs ++ more)) spacing end
  joined-kept = record {
    pool = is.pool;
    some = is.some;
    spaced = is.spaced;
    counts = is.counts;
    ends = is.ends;
    cpus = is.cpus;
    tables = is.tables;
    truth = λ k lt.
        let low = at-end k lt in
        let first = at-end 0 is.some in
        is.truth k lt
        ∙ sym (more-run r.inputs more end (count_at r 0) (count_at r k - count_at r 0) (state_of r.pool (checkpoint_at r 0)) next.after (omega (arith, low, first)));
  }

  pub added-kept : IsKept (with inputs) spacing end
  added-kept = subst (λ (es : List Event). IsKept (with es) spacing end) (sym added) joined-kept

  pub has-inputs : HasInputs (past_of r spacing end) more (past_of (with inputs) spacing end)
  has-inputs = record {
    next = next;
    added = ap (λ (es : List Event). past_of (with es) spacing end) added;
    states =
        subst (λ (es : List Event). AreSameUpTo end (past_of r spacing end).run (past_of (with es) spacing end).run) (sym added)
        (more-states (past_of r spacing end).run more end (at-end 0 is.some) next.after);
  }
