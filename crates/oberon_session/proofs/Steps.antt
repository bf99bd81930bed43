-- The one run of a session, from checkpoint to checkpoint.
use Rattle.std.proofs.Common.{◌≡◌, ℕ, zero, suc, ◌+◌, ◌-◌, ◌<◌, ◌≤◌, List, ◌++◌, Option, Some, None, true, false, ap, arith, length, length-append, refl, subst, sym, ◌∙◌}
use Rattle.std.proofs.lemmas.Bool.{le-ltb, lt-ltb}
use Rattle.std.specs.Option.{option_or}
use Rattle.std.specs.Prelude.{nat_lt, slice_index}
use Rattle.risc_model.specs.MachineState.{State}
use Rattle.risc_model.specs.Replay.{run_of, sent_of}
use Rattle.risc_model.specs.declared.inputs.TheConstants.{MAX_COUNT}
use Rattle.oberon_session.proofs.Runs.{run-on, sent-on}
use Rattle.oberon_session.specs.Stored.{store}
use Rattle.oberon_session.specs.Recorded.{count_of, fault_at, first_fault, first_stored, first_state, stored_of, output_between, output_up_to, record_fault_of, state_at, state_of}
use Rattle.oberon_session.specs.SessionParts.{CountFits, SessionParts, IsLawfulWithDisk}
use Rattle.oberon_session.specs.declared.record_fault.RecordFault.{RecordFault}
use Rattle.oberon_session.specs.declared.record_fault.RecordFault.TheVariants as fault
use Rattle.recording_limits.specs.declared.limits.TheConstants.{MAX_OUTPUT, MAX_PAGES}

module _ (s : SessionParts) where
  -- ---- the run

  pub state_at-zero : state_at s 0 ≡ first_state s
  unfolding run_of
  state_at-zero = refl

  state-is : (n : ℕ) → state_at s n ≡ run_of s.inputs 0 (n - 0) (first_state s)
  state-is n = ap (λ (k : ℕ). run_of s.inputs 0 k (first_state s)) (omega arith)

  up_to-is : (n : ℕ) → output_up_to s n ≡ sent_of s.inputs 0 (n - 0) (first_state s)
  up_to-is n = ap (λ (t : State). sent_of s.inputs 0 (n - 0) t) state_at-zero

  pub state-on : (n m : ℕ) → n ≤ m → run_of s.inputs n (m - n) (state_at s n) ≡ state_at s m
  state-on n m on = run-on s.inputs 0 n m (first_state s) (omega arith) on (state_at s n) (state-is n) ∙ sym (state-is m)

  pub output-on : (n m : ℕ) → n ≤ m → output_up_to s m ≡ output_up_to s n ++ output_between s n m
  output-on n m on =
      up_to-is m ∙ sym (sent-on s.inputs 0 n m (first_state s) (omega arith) on (state_at s n) (state-is n))
      ∙ ap (λ (l : List ℕ). l ++ sent_of s.inputs n (m - n) (state_at s n)) (sym (up_to-is n))

  pub output_up_to-zero : length (output_up_to s 0) ≡ 0
  unfolding sent_of
  output_up_to-zero = refl

  pub between-none : (n : ℕ) → length (output_between s n n) ≡ 0
  between-none n =
      let on = ap length (output-on n n (omega arith)) in
      omega (arith, on, length-append (output_up_to s n) (output_between s n n))

  -- ---- counts

  pub count_of-zero : count_of s 0 ≡ 0
  unfolding count_of
  count_of-zero = refl

  count_of-suc : (k : ℕ) → count_of s (suc k) ≡ slice_index s.counts k
  unfolding count_of
  count_of-suc k = refl

  pub count_of-next : (k : ℕ) → count_of s (k + 1) ≡ slice_index s.counts k
  count_of-next k =
      let next : k + 1 ≡ suc k = omega arith in
      ap (λ (n : ℕ). count_of s n) next ∙ count_of-suc k

  -- ---- what is stored

  pub stored_of-zero : stored_of s 0 ≡ first_stored s.pages
  unfolding stored_of
  stored_of-zero = refl

  stored_of-suc : (k : ℕ) → stored_of s (suc k) ≡ store (state_of s k).words (state_of s (suc k)).words (stored_of s k)
  unfolding stored_of
  stored_of-suc k = refl

  pub stored_of-next : (k : ℕ) → stored_of s (k + 1) ≡ store (state_of s k).words (state_of s (k + 1)).words (stored_of s k)
  stored_of-next k =
      let next : k + 1 ≡ suc k = omega arith in
      rw next (stored_of-suc k)

  -- ---- faults

  pub first_fault-zero : first_fault s 0 ≡ None
  unfolding first_fault
  first_fault-zero = refl

  first_fault-suc : (k : ℕ) → first_fault s (suc k) ≡ option_or (first_fault s k) (fault_at s (suc k))
  unfolding first_fault
  first_fault-suc k = refl

  first_fault-next : (k : ℕ) → first_fault s k ≡ None → first_fault s (k + 1) ≡ fault_at s (k + 1)
  first_fault-next k before =
      let next : k + 1 ≡ suc k = omega arith in
      rw next (first_fault-suc k ∙ ap (λ (o : Option RecordFault). option_or o (fault_at s (suc k))) before)

  first_fault-stays : (k more : ℕ) (f : RecordFault) → first_fault s k ≡ Some f → first_fault s (k + more) ≡ Some f
  first_fault-stays k zero f found =
      let same : k + 0 ≡ k = omega arith in
      rw same found
  first_fault-stays k (suc more) f found =
      let next : k + suc more ≡ suc (k + more) = omega arith in
      rw next (first_fault-suc (k + more)
      ∙ ap (λ (o : Option RecordFault). option_or o (fault_at s (suc (k + more)))) (first_fault-stays k more f found))

  refused-at : (k : ℕ) (f : RecordFault) → k < length s.counts → first_fault s k ≡ None → fault_at s (k + 1) ≡ Some f → record_fault_of s ≡ Some f
  unfolding record_fault_of
  refused-at k f inside before found =
      let all : k + 1 + (length s.counts - (k + 1)) ≡ length s.counts = omega arith in
      sym (ap (λ (n : ℕ). first_fault s n) all) ∙ first_fault-stays (k + 1) (length s.counts - (k + 1)) f (first_fault-next k before ∙ found)

  -- too many bytes are sent up to the next checkpoint
  pub too-much-output : (k : ℕ) → k < length s.counts → first_fault s k ≡ None → MAX_OUTPUT < length (output_up_to s (count_of s (k + 1)))
      → record_fault_of s ≡ Some fault.Output
  unfolding fault_at
  too-much-output k inside before many =
      let test : nat_lt MAX_OUTPUT (length (output_up_to s (count_of s (k + 1)))) ≡ true = lt-ltb _ _ many in
      refused-at k fault.Output inside before (rw test refl)

  -- too many pages are stored up to the next checkpoint
  pub too-many-pages : (k : ℕ) → k < length s.counts → first_fault s k ≡ None → length (output_up_to s (count_of s (k + 1))) ≤ MAX_OUTPUT
      → MAX_PAGES < length (stored_of s (k + 1)).pool → record_fault_of s ≡ Some fault.Pages
  unfolding fault_at
  too-many-pages k inside before few many =
      let test : nat_lt MAX_OUTPUT (length (output_up_to s (count_of s (k + 1)))) ≡ false = le-ltb _ _ few in
      let pages : nat_lt MAX_PAGES (length (stored_of s (k + 1)).pool) ≡ true = lt-ltb _ _ many in
      refused-at k fault.Pages inside before (rw (test, pages) refl)

  -- no limit is exceeded up to the next checkpoint
  pub nothing-too-much : (k : ℕ) → first_fault s k ≡ None → length (output_up_to s (count_of s (k + 1))) ≤ MAX_OUTPUT
      → length (stored_of s (k + 1)).pool ≤ MAX_PAGES → first_fault s (k + 1) ≡ None
  unfolding fault_at
  nothing-too-much k before few pages =
      let test : nat_lt MAX_OUTPUT (length (output_up_to s (count_of s (k + 1)))) ≡ false = le-ltb _ _ few in
      let room : nat_lt MAX_PAGES (length (stored_of s (k + 1)).pool) ≡ false = le-ltb _ _ pages in
      first_fault-next k before ∙ rw (test, room) refl

-- ---- counts of a lawful session

module _ (s : SessionParts) (lawful : IsLawfulWithDisk s) where
  fits : (k : ℕ) → k < length s.counts → CountFits (slice_index s.counts k)
  fits k inside = lawful.counts.1 k 0 inside

  pub count-fits : (k : ℕ) → k < length s.counts → count_of s (k + 1) ≤ MAX_COUNT
  count-fits k inside = subst (λ (n : ℕ). n ≤ MAX_COUNT) (sym (count_of-next s k)) (fits k inside).1

  pub count-rises : (k : ℕ) → k < length s.counts → count_of s k < count_of s (k + 1)
  count-rises zero inside = omega (arith, (fits 0 inside).0, count_of-next s 0, count_of-zero s)
  count-rises (suc k) inside =
      let next : suc k ≡ k + 1 = omega arith in
      let rises : slice_index s.counts k < slice_index s.counts (k + 1) = lawful.rises k (omega arith) in
      let at : slice_index s.counts (suc k) ≡ slice_index s.counts (k + 1) = ap (λ (n : ℕ). slice_index s.counts n) next in
      omega (arith, rises, at, count_of-next s (suc k), count_of-suc s k)
