-- What a past keeps up to a count: the keyframes at or before it, and the inputs before it.
use Rattle.std.proofs.Common.{◌≡◌, ◌∙◌, ◌+◌, ◌-◌, ◌*◌, ◌/◌, ◌<◌, ◌≤◌, ℕ, List, ap, arith, length, length-take, map, min, mul-le-mul_right, refl, subst, sym, take}
use Rattle.std.proofs.lemmas.List.{get_or-take}
use Rattle.risc_model.specs.declared.event.Event.{Event}
use Rattle.risc_model.specs.Replay.{run_of}
use Rattle.oberon_format.specs.CheckpointParts.{CheckpointParts, checkpoint_parts, no_checkpoint}
use Rattle.oberon_format.specs.Recording.{RecordingParts, checkpoint_at, count_at, parts_of}
use Rattle.oberon_format.specs.declared.checkpoint.Checkpoint.{Checkpoint}
use Rattle.oberon_session.specs.Laws.{IsTableOf}
use Rattle.risc_model.specs.MachineState.{IsCpuState}
use Rattle.oberon_past.proofs.Inputs.{before-run, before-states}
use Rattle.oberon_past.proofs.Keyframes.{nearest-low}
use Rattle.oberon_past.specs.Live.{IsUpTo, inputs_before}
use Rattle.oberon_past.specs.Past.{past_of}
use Rattle.oberon_past.specs.Run.{Run, state_at}
use Rattle.oberon_past.specs.inner.Kept.{IsKept, state_of}

module _ (r : RecordingParts) (spacing end : ℕ) (is : IsKept r spacing end) (n k : ℕ) (begun : count_at r 0 ≤ n) (inside : n ≤ end)
    (near : k ≡ min ((n - count_at r 0) / spacing) (length r.checkpoints - 1)) where
  abbrev cut : RecordingParts
  cut = record { pool = r.pool; inputs = inputs_before n r.inputs; checkpoints = take (k + 1) r.checkpoints }

  low : count_at r 0 + k * spacing ≤ n
  low = nearest-low (count_at r 0) spacing n k (length r.checkpoints - 1) is.spaced begun near

  few : k + 1 ≤ length r.checkpoints
  few = omega (arith, near, is.some)

  many : length cut.checkpoints ≡ k + 1
  many = omega (arith, length-take (k + 1) r.checkpoints, few)

  at-same : (j : ℕ) → j < k + 1 → checkpoint_at cut j ≡ checkpoint_at r j
  at-same j lt = get_or-take (k + 1) r.checkpoints j no_checkpoint lt

  first : checkpoint_at cut 0 ≡ checkpoint_at r 0
  first = at-same 0 (omega arith)

  each : (P : ℕ → CheckpointParts → Type 0) → ((j : ℕ) → j < length r.checkpoints → j ≤ k → P j (checkpoint_at r j))
      → (j : ℕ) → j < length cut.checkpoints → P j (checkpoint_at cut j)
  each P all j lt =
      let early : j < k + 1 = omega (arith, lt, many) in
      subst (P j) (sym (at-same j early)) (all j (omega (arith, early, few)) (omega arith))

  truth-at : (j : ℕ) → j < length r.checkpoints → j ≤ k
      → state_of r.pool (checkpoint_at r j) ≡ run_of cut.inputs (count_at r 0) (count_at r j - count_at r 0) (state_of r.pool (checkpoint_at r 0))
  truth-at j lt early =
      let product = mul-le-mul_right spacing early in
      let count = is.counts j lt in
      is.truth j lt
      ∙ sym (before-run r.inputs n (count_at r 0) (count_at r j - count_at r 0) (state_of r.pool (checkpoint_at r 0)) (omega (arith, low, product, count)))

  cut-kept : IsKept cut spacing n
  cut-kept = record {
    pool = is.pool;
    some = omega (arith, many);
    spaced = is.spaced;
    counts =
        subst (λ (z : CheckpointParts). (j : ℕ) → j < length cut.checkpoints → count_at cut j ≡ z.count + j * spacing) (sym first)
        (each (λ (j : ℕ) (z : CheckpointParts). z.count ≡ count_at r 0 + j * spacing) (λ j lt early. is.counts j lt));
    ends =
        let last : length cut.checkpoints - 1 ≡ k = omega (arith, many) in
        subst (λ (z : CheckpointParts). z.count + (length cut.checkpoints - 1) * spacing ≤ n) (sym first)
        (subst (λ (m : ℕ). count_at r 0 + m * spacing ≤ n) (sym last) low);
    cpus = each (λ (j : ℕ) (z : CheckpointParts). IsCpuState z.cpu) (λ j lt early. is.cpus j lt);
    tables = each (λ (j : ℕ) (z : CheckpointParts). IsTableOf (record { pool = r.pool; table = z.table })) (λ j lt early. is.tables j lt);
    truth =
        subst
        (λ (z : CheckpointParts). (j : ℕ) → j < length cut.checkpoints
        → state_of r.pool (checkpoint_at cut j) ≡ run_of cut.inputs z.count (count_at cut j - z.count) (state_of r.pool z))
        (sym first)
        (each
        (λ (j : ℕ) (z : CheckpointParts). state_of r.pool z ≡ run_of cut.inputs (count_at r 0) (z.count - count_at r 0) (state_of r.pool (checkpoint_at r 0)))
        truth-at);
  }

  abbrev run-of : CheckpointParts → Run
  run-of z = record { start = z.count; first = state_of r.pool z; inputs = inputs_before n r.inputs }

  cut-up_to : IsUpTo n (past_of r spacing end) (past_of cut spacing n)
  cut-up_to = record {
    inside = (begun, inside);
    run = ap run-of first;
    states = λ m early. ap (λ (z : CheckpointParts). state_at (run-of z) m) first ∙ before-states (past_of r spacing end).run n begun m early;
    end = refl;
    spacing = refl;
    keyframes = many ∙ ap (λ (m : ℕ). m + 1) near;
    pages = refl;
  }

  -- as Rust has it
  module _ (pool : List (List ℕ)) (inputs : List Event) (keyframes : List Checkpoint) (pool-is : pool ≡ r.pool)
      (inputs-are : inputs ≡ inputs_before n r.inputs) (keyframes-are : map checkpoint_parts keyframes ≡ take (k + 1) r.checkpoints) where
    parts-are : parts_of pool inputs keyframes ≡ cut
    parts-are = λ i. record { pool = pool-is i; inputs = inputs-are i; checkpoints = keyframes-are i }

    pub up_to-kept : IsKept (parts_of pool inputs keyframes) spacing n
    up_to-kept = subst (λ (q : RecordingParts). IsKept q spacing n) (sym parts-are) cut-kept

    pub is-up_to : IsUpTo n (past_of r spacing end) (past_of (parts_of pool inputs keyframes) spacing n)
    is-up_to = subst (λ (q : RecordingParts). IsUpTo n (past_of r spacing end) (past_of q spacing n)) (sym parts-are) cut-up_to
