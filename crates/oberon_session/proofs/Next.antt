-- What is recorded up to a checkpoint, and up to the next one.
use Rattle.std.proofs.Common.{◌≡◌, ℕ, ◌+◌, ◌-◌, ◌^◌, ◌<◌, ◌≤◌, inl, inr, List, [], ◌∷◌, ◌++◌, ap, arith, get_or, length, length-append, refl, subst, sym, ◌∙◌}
use Rattle.std.proofs.lemmas.Bool.{cases_lt}
use Rattle.std.proofs.lemmas.List.FromFn.{get_or-map-range_with_len, length-map-range_with_len, map-range_with_len_more}
use Rattle.std.specs.List.{All}
use Rattle.risc_devices.specs.DeviceState.{IsDeviceState}
use Rattle.risc_pages.specs.Tables.{IsNamed, table_words}
use Rattle.risc_pages.specs.Pages.{ArePages}
use Rattle.risc_model.specs.MachineState.{IsCpuState}
use Rattle.recording_limits.specs.declared.limits.TheConstants.{MAX_OUTPUT, MAX_PAGES}
use Rattle.oberon_format.proofs.Output.{output_of_push}
use Rattle.oberon_format.specs.CheckpointParts.{CheckpointParts, no_checkpoint}
use Rattle.oberon_format.specs.Recording.{IsFit, IsLawfulWithDisk, RecordingParts, count_at, output_of}
use Rattle.oberon_session.proofs.Contents.{Leads, memory-stored, table_words-grown}
use Rattle.oberon_session.proofs.LawfulMore.{lawful-more}
use Rattle.oberon_session.proofs.Steps.{count-fits, count-rises, stored_of-next, nothing-too-much, output-on}
use Rattle.oberon_session.specs.Stored.{Stored}
use Rattle.oberon_session.specs.Laws.{IsTableOf}
use Rattle.oberon_session.specs.Recorded.{checkpoint_of, count_of, stored_of, output_between, output_up_to, state_of}
use Rattle.oberon_session.specs.SessionParts.{SessionParts, IsLawfulWithDisk as IsLawfulSession}
use Rattle.oberon_session.specs.inner.Progress.{IsContentOf, IsRecorded, checkpoints_to}

module _ (s : SessionParts) where
  -- what is recorded up to checkpoint k, as functions of the session
  abbrev pub recorded_to : ℕ → RecordingParts
  recorded_to k = record { pool = (stored_of s k).pool; inputs = s.inputs; checkpoints = checkpoints_to s k }

  abbrev pub Recorded : ℕ → Type 0
  Recorded k = IsRecorded s k (stored_of s k) (checkpoints_to s k) (length (output_up_to s (count_of s k)))

  module _ (stored : Stored) (cs : List CheckpointParts) (sent k : ℕ) where
    pub recorded-so : IsRecorded s k stored cs sent → Recorded k
    recorded-so so =
        subst (λ (n : ℕ). IsRecorded s k (stored_of s k) (checkpoints_to s k) n) so.sent_is
        (subst (λ (l : List CheckpointParts). IsRecorded s k (stored_of s k) l sent) so.recorded
        (subst (λ (l : Stored). IsRecorded s k l cs sent) so.stored_is so))

    pub so-recorded : stored ≡ stored_of s k → cs ≡ checkpoints_to s k → sent ≡ length (output_up_to s (count_of s k)) → Recorded k → IsRecorded s k stored cs sent
    so-recorded stored-so cs-so long so =
        subst (λ (l : Stored). IsRecorded s k l cs sent) (sym stored-so)
        (subst (λ (l : List CheckpointParts). IsRecorded s k (stored_of s k) l sent) (sym cs-so)
        (subst (λ (n : ℕ). IsRecorded s k (stored_of s k) (checkpoints_to s k) n) (sym long) so))

  pub length-checkpoints : (k : ℕ) → length (checkpoints_to s k) ≡ k + 1
  length-checkpoints k = length-map-range_with_len (checkpoint_of s) 0 (k + 1)

  pub checkpoint-there : (k j : ℕ) → j ≤ k → get_or (checkpoints_to s k) j no_checkpoint ≡ checkpoint_of s j
  checkpoint-there k j lt = get_or-map-range_with_len (checkpoint_of s) 0 (k + 1) j j no_checkpoint (omega arith) (omega arith)

  pub checkpoints-more : (k : ℕ) → checkpoints_to s (k + 1) ≡ checkpoints_to s k ++ checkpoint_of s (k + 1) ∷ []
  checkpoints-more k = map-range_with_len_more (checkpoint_of s) 0 (k + 1) (k + 1) (omega arith)

  pub fit-there : (k j : ℕ) → Recorded k → j ≤ k → IsFit (stored_of s k).pool (checkpoint_of s j)
  fit-there k j so lt = subst (IsFit (stored_of s k).pool) (checkpoint-there k j lt) (so.lawful.fit j (omega (arith, length-checkpoints k)))

  -- the parts of a checkpoint
  pub count-of : (k : ℕ) → (checkpoint_of s k).count ≡ count_of s k
  unfolding checkpoint_of
  count-of k = refl

  table-of : (k : ℕ) → (checkpoint_of s k).table ≡ (stored_of s k).table
  unfolding checkpoint_of
  table-of k = refl

  pub sent-of : (k : ℕ) → (checkpoint_of s (k + 1)).sent ≡ output_between s (count_of s k) (count_of s (k + 1))
  unfolding checkpoint_of
  sent-of k =
      let before : k + 1 - 1 ≡ k = omega arith in
      ap (λ (j : ℕ). output_between s (count_of s j) (count_of s (k + 1))) before

  pub table-good : (k : ℕ) → Recorded k → IsTableOf (stored_of s k)
  table-good k so =
      let fit = fit-there k k so (omega arith) in
      record {
        count = ap length (sym (table-of k)) ∙ fit.table.count;
        named = subst (IsNamed (stored_of s k).pool) (table-of k) fit.named;
      }

  -- what is known of the next state and its pages
  pub record IsGoodNext (k : ℕ) : Type 0 where
    pub cpu : IsCpuState (state_of s (k + 1)).cpu
    pub devices : IsDeviceState (state_of s (k + 1)).devices
    pub whole : length (state_of s (k + 1)).words ≡ 262144
    pub bytes : All (λ byte. byte < 2 ^ 8) (output_between s (count_of s k) (count_of s (k + 1)))
    pub output : length (output_up_to s (count_of s (k + 1))) ≤ MAX_OUTPUT
    pub pages : length (stored_of s (k + 1)).pool ≤ MAX_PAGES
    pub pool : ArePages (stored_of s (k + 1)).pool

  module _ (lawful : IsLawfulSession s) (k : ℕ) (inside : k < length s.counts) (so : Recorded k) (good : IsGoodNext k) where
    abbrev Stores : Stored → Type 0
    Stores stored = Leads (state_of s (k + 1)).words (stored_of s k) stored × (table_words stored.pool stored.table ≡ (state_of s (k + 1)).words)

    stores : Stores (stored_of s (k + 1))
    stores =
        subst Stores (sym (stored_of-next s k))
        (memory-stored (state_of s k).words (state_of s (k + 1)).words (stored_of s k) (table-good k so) so.lawful.pool (so.content k (omega arith)) good.whole)

    next-fits : IsFit (stored_of s (k + 1)).pool (checkpoint_of s (k + 1))
    unfolding checkpoint_of
    next-fits = record {
      bounded = count-fits s lawful k inside;
      cpu = good.cpu;
      devices = good.devices;
      table = record { count = stores.0.table.count; fit = λ j d lt. omega (arith, stores.0.table.named j d lt, good.pages) };
      named = stores.0.table.named;
      bytes =
          let before : k ≡ k + 1 - 1 = omega arith in
          subst (λ (j : ℕ). All (λ byte. byte < 2 ^ 8) (output_between s (count_of s j) (count_of s (k + 1)))) before good.bytes;
    }

    on : count_of s k ≤ count_of s (k + 1)
    on = omega (arith, count-rises s lawful k inside)

    output-more : output_of (checkpoints_to s (k + 1)) ≡ output_up_to s (count_of s (k + 1))
    output-more =
        ap output_of (checkpoints-more k) ∙ output_of_push (checkpoints_to s k) (checkpoint_of s (k + 1))
        ∙ ap (λ (l : List ℕ). l ++ (checkpoint_of s (k + 1)).sent) so.output
        ∙ ap (λ (l : List ℕ). output_up_to s (count_of s k) ++ l) (sent-of k)
        ∙ sym (output-on s (count_of s k) (count_of s (k + 1)) on)

    last-count : count_at (recorded_to k) (length (checkpoints_to s k) - 1) ≡ count_of s k
    last-count =
        let last : length (checkpoints_to s k) - 1 ≡ k = omega (arith, length-checkpoints k) in
        ap (λ (j : ℕ). count_at (recorded_to k) j) last ∙ ap (λ (c : CheckpointParts). c.count) (checkpoint-there k k (omega arith)) ∙ count-of k

    lawful-next : IsLawfulWithDisk (recorded_to (k + 1))
    lawful-next =
        let grown = stores.0.grown in
        let whole-output = ap length output-more in
        let sums = ap length (ap output_of (checkpoints-more k) ∙ output_of_push (checkpoints_to s k) (checkpoint_of s (k + 1))) in
        let parts = length-append (output_of (checkpoints_to s k)) (checkpoint_of s (k + 1)).sent in
        let more = lawful-more (recorded_to k) stores.0.extra (checkpoint_of s (k + 1)) so.lawful
        (subst (λ (p : List (List ℕ)). length p ≤ MAX_PAGES) grown good.pages)
        (subst ArePages grown good.pool)
        (omega (arith, length-checkpoints k, lawful.counts.0))
        (omega (arith, last-count, count-of (k + 1), count-rises s lawful k inside))
        (subst (λ (p : List (List ℕ)). IsFit p (checkpoint_of s (k + 1))) grown next-fits)
        (omega (arith, whole-output, sums, parts, good.output)) in
        subst (λ (p : List (List ℕ)). IsLawfulWithDisk (record { pool = p; inputs = s.inputs; checkpoints = checkpoints_to s (k + 1) })) (sym grown)
        (subst (λ (cs : List CheckpointParts). IsLawfulWithDisk (record { pool = (stored_of s k).pool ++ stores.0.extra; inputs = s.inputs; checkpoints = cs })) (sym (checkpoints-more k)) more)

    content-next : (j : ℕ) → j ≤ k + 1 → IsContentOf s (stored_of s (k + 1)).pool j
    content-next j low = elim (cases_lt j (k + 1)) [
      | inl before ↦
          let named : IsNamed (stored_of s k).pool (stored_of s j).table = subst (IsNamed (stored_of s k).pool) (table-of j) (fit-there k j so (omega arith)).named in
          ap (λ (p : List (List ℕ)). table_words p (stored_of s j).table) stores.0.grown
          ∙ table_words-grown (stored_of s k).pool stores.0.extra (stored_of s j).table named ∙ so.content j (omega arith)
      | inr last ↦
          let this : k + 1 ≡ j = omega arith in
          subst (λ (n : ℕ). IsContentOf s (stored_of s (k + 1)).pool n) this stores.1
    ]

    pub recorded-next : Recorded (k + 1)
    recorded-next = record {
      stored_is = refl;
      recorded = refl;
      output = output-more;
      sent_is = refl;
      lawful = lawful-next;
      content = content-next;
      no_fault = nothing-too-much s k so.no_fault good.output good.pages;
    }
