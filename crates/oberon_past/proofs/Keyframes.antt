-- What a past keeps: over a pool that has grown, with one more keyframe, and with the first one alone.
use Rattle.std.proofs.Common.{◌≡◌, ℕ, ◌+◌, ◌-◌, ◌*◌, ◌/◌, ◌<◌, ◌≤◌, inl, inr, List, [], ◌∷◌, ◌++◌, ap, arith, get_or, length, length-append, min, refl, subst, sym, ◌∙◌}
use Rattle.std.specs.Prelude.{Err, IfOk, Ok, Result}
use Rattle.std.proofs.Math.Nat.{le-div_iff_mul-le}
use Rattle.std.proofs.lemmas.Bool.{cases_lt}
use Rattle.std.proofs.lemmas.Grind.{common_steps}
use Rattle.std.proofs.lemmas.List.{get_or_push, length_push}
use Rattle.risc_pages.specs.Pages.{ArePages}
use Rattle.risc_model.specs.declared.event.Event.{Event}
use Rattle.risc_model.specs.MachineState.{State, IsCpuState}
use Rattle.risc_model.specs.Replay.{run_of}
use Rattle.risc_model.proofs.RunLemmas.{run_of-none}
use Rattle.oberon_format.specs.CheckpointParts.{CheckpointParts, no_checkpoint}
use Rattle.oberon_format.specs.Recording.{RecordingParts, checkpoint_at, count_at}
use Rattle.oberon_session.proofs.Contents.{table_words-grown}
use Rattle.oberon_session.proofs.Runs.{run-on}
use Rattle.oberon_session.specs.Laws.{IsTableOf}
use Rattle.oberon_session.specs.Stored.{IsGrown}
use Rattle.oberon_past.specs.Past.{IsLonger, PastParts, past_of}
use Rattle.oberon_past.specs.Run.{Run}
use Rattle.oberon_past.specs.inner.Kept.{IsKept, state_of}

module _ (r : RecordingParts) (spacing end : ℕ) (is : IsKept r spacing end) where
  start-low : (k : ℕ) → k < length r.checkpoints → count_at r 0 ≤ count_at r k
  start-low k lt = omega (arith, is.counts k lt)

  -- a run on from a keyframe is the run from the first one
  pub state-from : (k : ℕ) → k < length r.checkpoints → (to : ℕ) → count_at r k ≤ to
      → run_of r.inputs (count_at r k) (to - count_at r k) (state_of r.pool (checkpoint_at r k))
      ≡ run_of r.inputs (count_at r 0) (to - count_at r 0) (state_of r.pool (checkpoint_at r 0))
  state-from k lt to on =
      run-on r.inputs (count_at r 0) (count_at r k) to (state_of r.pool (checkpoint_at r 0)) (start-low k lt) on
      (state_of r.pool (checkpoint_at r k)) (is.truth k lt)

  -- ---- the end is later
  pub later-kept : (later : ℕ) → end ≤ later → IsKept r spacing later
  later-kept later on = record {
    pool = is.pool;
    some = is.some;
    spaced = is.spaced;
    counts = is.counts;
    ends = omega (arith, is.ends, on);
    cpus = is.cpus;
    tables = is.tables;
    truth = is.truth;
  }

  -- ---- the pool has grown
  module _ (pool : List (List ℕ)) (grown : IsGrown r.pool pool) where
    abbrev pub over : RecordingParts
    over = record { pool = pool; inputs = r.inputs; checkpoints = r.checkpoints }

    pub state-grown : (k : ℕ) → k < length r.checkpoints → state_of pool (checkpoint_at r k) ≡ state_of r.pool (checkpoint_at r k)
    state-grown k lt =
        ap (λ (p : List (List ℕ)). state_of p (checkpoint_at r k)) grown.grown
        ∙ ap (λ (w : List ℕ). record { cpu = (checkpoint_at r k).cpu; devices = (checkpoint_at r k).devices; words = w })
        (table_words-grown r.pool grown.extra (checkpoint_at r k).table (is.tables k lt).named)

    longer : length r.pool ≤ length pool
    longer = omega (arith, ap length grown.grown, length-append r.pool grown.extra)

    pub grown-longer : IsLonger (past_of r spacing end) (past_of over spacing end)
    grown-longer = record {
      run = ap (λ (s : State). record { start = count_at r 0; first = s; inputs = r.inputs }) (state-grown 0 is.some);
      end = refl;
      spacing = refl;
      keyframes = omega arith;
      pages = longer;
    }

    pub grown-kept : ArePages pool → IsKept over spacing end
    grown-kept pages = record {
      pool = pages;
      some = is.some;
      spaced = is.spaced;
      counts = is.counts;
      ends = is.ends;
      cpus = is.cpus;
      tables = λ k lt. record {
        count = (is.tables k lt).count;
        named = λ i d inside. omega (arith, (is.tables k lt).named i d inside, longer);
      };
      truth = λ k lt.
          state-grown k lt ∙ is.truth k lt
          ∙ ap (λ (s : State). run_of r.inputs (count_at r 0) (count_at r k - count_at r 0) s) (sym (state-grown 0 is.some));
    }

  -- ---- one more keyframe
  module _ (c : CheckpointParts) (count : c.count ≡ count_at r 0 + length r.checkpoints * spacing) (cpu : IsCpuState c.cpu)
      (table : IsTableOf (record { pool = r.pool; table = c.table }))
      (true-there : state_of r.pool c ≡ run_of r.inputs (count_at r 0) (c.count - count_at r 0) (state_of r.pool (checkpoint_at r 0)))
      (inside : c.count ≤ end) where
    abbrev pub pushed : RecordingParts
    pushed = record { pool = r.pool; inputs = r.inputs; checkpoints = r.checkpoints ++ c ∷ [] }

    at-before : (j : ℕ) → j < length r.checkpoints → checkpoint_at pushed j ≡ checkpoint_at r j
    at-before j low = grind (arith, common_steps)

    at-last : checkpoint_at pushed (length r.checkpoints) ≡ c
    at-last = get_or_push r.checkpoints c no_checkpoint (length r.checkpoints) refl

    pub many-pushed : length pushed.checkpoints ≡ length r.checkpoints + 1
    many-pushed = length_push r.checkpoints c

    each : (P : ℕ → CheckpointParts → Type 0) → ((j : ℕ) → j < length r.checkpoints → P j (checkpoint_at r j))
        → P (length r.checkpoints) c → (j : ℕ) → j < length pushed.checkpoints → P j (checkpoint_at pushed j)
    each P before last j low = elim (cases_lt j (length r.checkpoints)) [
      | inl early ↦ subst (P j) (sym (at-before j early)) (before j early)
      | inr late ↦
          let this : length r.checkpoints ≡ j = omega (arith, many-pushed) in
          subst (λ (n : ℕ). P n (checkpoint_at pushed n)) this (subst (P (length r.checkpoints)) (sym at-last) last)
    ]

    -- the first keyframe is the same
    pub first-pushed : checkpoint_at pushed 0 ≡ checkpoint_at r 0
    first-pushed = at-before 0 is.some

    abbrev run-of : CheckpointParts → Run
    run-of z = record { start = z.count; first = state_of r.pool z; inputs = r.inputs }

    pub pushed-longer : IsLonger (past_of r spacing end) (past_of pushed spacing end)
    pushed-longer = record {
      run = ap run-of first-pushed;
      end = refl;
      spacing = refl;
      keyframes = omega (arith, many-pushed);
      pages = omega arith;
    }

    counts-pushed : (j : ℕ) → j < length pushed.checkpoints → (checkpoint_at pushed j).count ≡ count_at r 0 + j * spacing
    counts-pushed = each (λ (j : ℕ) (z : CheckpointParts). z.count ≡ count_at r 0 + j * spacing) is.counts count

    truth-pushed : (j : ℕ) → j < length pushed.checkpoints
        → state_of r.pool (checkpoint_at pushed j) ≡ run_of r.inputs (count_at r 0) (count_at pushed j - count_at r 0) (state_of r.pool (checkpoint_at r 0))
    truth-pushed =
        each (λ (j : ℕ) (z : CheckpointParts). state_of r.pool z ≡ run_of r.inputs (count_at r 0) (z.count - count_at r 0) (state_of r.pool (checkpoint_at r 0)))
        is.truth true-there

    pub pushed-kept : IsKept pushed spacing end
    pushed-kept = record {
      pool = is.pool;
      some = omega (arith, many-pushed);
      spaced = is.spaced;
      counts = λ j low. counts-pushed j low ∙ ap (λ (z : CheckpointParts). z.count + j * spacing) (sym first-pushed);
      ends =
          let last : length pushed.checkpoints - 1 ≡ length r.checkpoints = omega (arith, many-pushed) in
          subst (λ (z : CheckpointParts). z.count + (length pushed.checkpoints - 1) * spacing ≤ end) (sym first-pushed)
          (subst (λ (n : ℕ). count_at r 0 + n * spacing ≤ end) (sym last) (subst (λ (n : ℕ). n ≤ end) count inside));
      cpus = each (λ (j : ℕ) (z : CheckpointParts). IsCpuState z.cpu) is.cpus cpu;
      tables = each (λ (j : ℕ) (z : CheckpointParts). IsTableOf (record { pool = r.pool; table = z.table })) is.tables table;
      truth = λ j low.
          subst
          (λ (z : CheckpointParts). state_of r.pool (checkpoint_at pushed j) ≡ run_of r.inputs z.count (count_at pushed j - z.count) (state_of r.pool z))
          (sym first-pushed) (truth-pushed j low);
    }

pub longer-same : (p : PastParts) → IsLonger p p
longer-same p = record { run = refl; end = refl; spacing = refl; keyframes = omega arith; pages = omega arith }

-- a past that is longer than a longer one is longer
pub longer-on : (a b c : PastParts) → IsLonger a b → IsLonger b c → IsLonger a c
longer-on a b c first second = record {
  run = second.run ∙ first.run;
  end = second.end ∙ first.end;
  spacing = second.spacing ∙ first.spacing;
  keyframes = omega (arith, first.keyframes, second.keyframes);
  pages = omega (arith, first.pages, second.pages);
}

-- ---- the first keyframe alone

module _ (pool : List (List ℕ)) (inputs : List Event) (c : CheckpointParts) (spacing end : ℕ) where
  abbrev pub alone : RecordingParts
  alone = record { pool = pool; inputs = inputs; checkpoints = c ∷ [] }

  only : (P : ℕ → CheckpointParts → Type 0) → P 0 c → (k : ℕ) → k < 1 → P k (get_or (c ∷ []) k no_checkpoint)
  only P holds k lt =
      let this : 0 ≡ k = omega arith in
      subst (λ (j : ℕ). P j (get_or (c ∷ []) j no_checkpoint)) this holds

  pub alone-kept : ArePages pool → 0 < spacing → c.count ≤ end → IsCpuState c.cpu → IsTableOf (record { pool = pool; table = c.table }) → IsKept alone spacing end
  alone-kept pages spaced inside cpu table = record {
    pool = pages;
    some = omega arith;
    spaced = spaced;
    counts = only (λ (k : ℕ) (z : CheckpointParts). z.count ≡ c.count + k * spacing) (omega arith);
    ends = omega arith;
    cpus = only (λ (k : ℕ) (z : CheckpointParts). IsCpuState z.cpu) cpu;
    tables = only (λ (k : ℕ) (z : CheckpointParts). IsTableOf (record { pool = pool; table = z.table })) table;
    truth =
        only (λ (k : ℕ) (z : CheckpointParts). state_of pool z ≡ run_of inputs c.count (z.count - c.count) (state_of pool c))
        (sym (run_of-none inputs c.count (c.count - c.count) (state_of pool c) (omega arith)));
  }

-- ---- the nearest keyframe

-- it is at or before the count
pub nearest-low : (start spacing n k last : ℕ) → 0 < spacing → start ≤ n → k ≡ min ((n - start) / spacing) last → start + k * spacing ≤ n
nearest-low start spacing n k last spaced on is =
    let few : k ≤ (n - start) / spacing = omega (arith, is) in
    let product = (le-div_iff_mul-le {k = spacing} {x = k} {y = n - start} spaced).0 few in
    omega (arith, product)

-- what holds of a value, if there is one
pub if-ok : {T E : Type 0} {P Q : T → Type 0} (r : Result T E) → ((x : T) → P x → Q x) → IfOk r P → IfOk r Q
if-ok (Ok x) on holds = on x holds
if-ok (Err e) on holds = tt
