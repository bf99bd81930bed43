-- A session all of whose checkpoints are recorded.
use Rattle.std.proofs.Common.{◌≡◌, ℕ, ◌-◌, ◌<◌, ◌≤◌, List, None, ap, arith, length, refl, subst, sym, ◌∙◌}
use Rattle.risc_model.specs.declared.event.Event.{Event}
use Rattle.risc_model.specs.MachineState.{State}
use Rattle.risc_model.specs.OneRun.{sent_between, state_from}
use Rattle.oberon_format.specs.CheckpointParts.{CheckpointParts}
use Rattle.oberon_format.specs.Defined.{IsTrueAt, claim_of, claimed, output_between as format_output, state_at as format_state}
use Rattle.oberon_format.specs.Recording.{RecordingParts, checkpoint_at, count_at}
use Rattle.oberon_session.proofs.Begun.{state-first}
use Rattle.oberon_session.proofs.Next.{Recorded, recorded-so, checkpoint-there, count-of, length-checkpoints, recorded_to}
use Rattle.oberon_session.proofs.Reaching.{claimed-is}
use Rattle.oberon_session.specs.Recorded.{checkpoint_of, count_of, first_state, last_of, output_between, record_fault_of, recording_of, state_at, state_of}
use Rattle.oberon_session.specs.SessionParts.{SessionParts}
use Rattle.oberon_session.specs.Stored.{Stored}
use Rattle.oberon_session.specs.inner.Progress.{IsRecorded}

module _ (s : SessionParts) where
  -- it is the recording
  pub recording-is : recorded_to s (last_of s) ≡ recording_of s
  unfolding recording_of
  recording-is = refl

  pub nothing-refused : Recorded s (last_of s) → record_fault_of s ≡ None
  unfolding record_fault_of
  nothing-refused so = so.no_fault

  sent-is : (k : ℕ) → (checkpoint_of s k).sent ≡ output_between s (count_of s (k - 1)) (count_of s k)
  unfolding checkpoint_of
  sent-is k = refl

  module _ (K : ℕ) (so : Recorded s K) where
    there : (k : ℕ) → k ≤ K → checkpoint_at (recorded_to s K) k ≡ checkpoint_of s k
    there k low = checkpoint-there s K k low

    count-there : (k : ℕ) → k ≤ K → count_at (recorded_to s K) k ≡ count_of s k
    count-there k low = ap (λ (c : CheckpointParts). c.count) (there k low) ∙ count-of s k

    claimed-there : (k : ℕ) → k ≤ K → (claimed (recorded_to s K) k).state ≡ state_of s k
    claimed-there k low =
        ap (λ (c : CheckpointParts). (claim_of (recorded_to s K).pool c).state) (there k low)
        ∙ claimed-is s k (recorded_to s K).pool (so.content k low)

    first-there : (claimed (recorded_to s K) 0).state ≡ first_state s
    first-there = claimed-there 0 (omega arith) ∙ state-first s

    state-there : (n : ℕ) → format_state (recorded_to s K) n ≡ state_at s n
    state-there n = ap (λ (t : State). state_from s.inputs t n) first-there

    output-there : (from to : ℕ) → format_output (recorded_to s K) from to ≡ output_between s from to
    output-there from to = ap (λ (t : State). sent_between s.inputs t from to) first-there

    -- each checkpoint is true
    pub truth-there : (k : ℕ) → k < length (recorded_to s K).checkpoints → IsTrueAt (recorded_to s K) k
    truth-there k lt =
        let low : k ≤ K = omega (arith, length-checkpoints s K) in
        let before : k - 1 ≤ K = omega arith in
        let state = claimed-there k low ∙ sym (state-there (count_of s k)) ∙ ap (λ (n : ℕ). format_state (recorded_to s K) n) (sym (count-there k low)) in
        let sent = ap (λ (c : CheckpointParts). c.sent) (there k low) ∙ sent-is k ∙ sym (output-there (count_of s (k - 1)) (count_of s k))
        ∙ ap (λ (n : ℕ). format_output (recorded_to s K) n (count_of s k)) (sym (count-there (k - 1) before))
        ∙ ap (λ (n : ℕ). format_output (recorded_to s K) (count_at (recorded_to s K) (k - 1)) n) (sym (count-there k low)) in
        λ i. record { state = state i; sent = sent i }

-- what was recorded up to the last checkpoint
module _ (s : SessionParts) (stored : Stored) (cs : List CheckpointParts) (sent k : ℕ) (all : k ≡ last_of s) (so : IsRecorded s k stored cs sent) where
  last-so : IsRecorded s (last_of s) stored cs sent
  last-so = subst (λ (n : ℕ). IsRecorded s n stored cs sent) all so

  pub made : record_fault_of s ≡ None
  made = nothing-refused s (recorded-so s stored cs sent (last_of s) last-so)

  whole-is : record { pool = stored.pool; inputs = s.inputs; checkpoints = cs } ≡ recorded_to s (last_of s)
  whole-is = λ i. record { pool = (last-so.stored_is i).pool; inputs = s.inputs; checkpoints = last-so.recorded i }

  pub recording-of : (es : List Event) → es ≡ s.inputs → record { pool = stored.pool; inputs = es; checkpoints = cs } ≡ recording_of s
  recording-of es same = ap (λ (l : List Event). record { pool = stored.pool; inputs = l; checkpoints = cs }) same ∙ whole-is ∙ recording-is s

  -- all checkpoints of the recording are true
  pub truth-of : (r : RecordingParts) → r ≡ recording_of s → (j : ℕ) → j < length r.checkpoints → IsTrueAt r j
  truth-of r is =
      subst (λ (x : RecordingParts). (j : ℕ) → j < length x.checkpoints → IsTrueAt x j) (recording-is s ∙ sym is)
      (truth-there s (last_of s) (recorded-so s stored cs sent (last_of s) last-so))
