-- A machine that was started at a recorded checkpoint and runs up to the next one.
use Rattle.std.proofs.Common.{◌≡◌, ℕ, ◌+◌, ◌-◌, ◌^◌, ◌<◌, ◌≤◌, List, [], ◌∷◌, ◌++◌, Some, ap, arith, get_or, length, length-append, map, refl, subst, sym, ◌∙◌}
use Rattle.std.proofs.lemmas.List.{length-map, map-append}
use Rattle.std.specs.List.{All}
use Rattle.risc_devices.specs.DeviceState.{DeviceState, IsDeviceState}
use Rattle.risc_pages.specs.Pages.{ArePages}
use Rattle.risc_model.specs.declared.event.Event.{Event}
use Rattle.risc_pages.specs.Tables.{table_words}
use Rattle.risc_model.specs.MachineState.{CpuState, State, IsCpuState, cpu_state}
use Rattle.risc_model.specs.Replay.{run_of, sent_of}
use Rattle.oberon_format.proofs.CheckpointLemmas.{checkpoint_at-is}
use Rattle.oberon_format.specs.declared.checkpoint.Checkpoint.{Checkpoint}
use Rattle.recording_limits.specs.declared.limits.TheConstants.{MAX_OUTPUT, MAX_PAGES}
use Rattle.oberon_format.specs.CheckpointParts.{CheckpointParts, checkpoint_parts, no_checkpoint}
use Rattle.oberon_format.specs.Defined.{claim_of}
use Rattle.oberon_format.specs.Recording.{IsFit}
use Rattle.oberon_session.proofs.Next.{IsGoodNext, Recorded, checkpoint-there, checkpoints-more, count-of, fit-there, length-checkpoints, recorded-next, recorded-so, so-recorded}
use Rattle.oberon_session.proofs.Steps.{count-rises, count_of-next, stored_of-next, output-on, state-on, too-many-pages, too-much-output}
use Rattle.oberon_session.specs.Stored.{Stored, changed_pages, store, store_pages, changed_page_view}
use Rattle.oberon_session.specs.Recorded.{checkpoint_of, count_of, stored_of, output_between, output_up_to, record_fault_of, state_of}
use Rattle.oberon_session.specs.SessionParts.{SessionParts, IsLawfulWithDisk}
use Rattle.oberon_session.specs.inner.Progress.{IsReached, IsRecorded, checkpoints_to}
use Rattle.oberon_session.specs.declared.running.Reached.{Reached}
use Rattle.oberon_session.specs.declared.record_fault.RecordFault.TheVariants as fault

-- checkpoint k claims the state at its count, if its table has that memory as its content
pub claimed-is : (s : SessionParts) (k : ℕ) (pool : List (List ℕ)) → table_words pool (stored_of s k).table ≡ (state_of s k).words → (claim_of pool (checkpoint_of s k)).state ≡ state_of s k
unfolding checkpoint_of
claimed-is s k pool content = ap (λ (words : List ℕ). record { cpu = (state_of s k).cpu; devices = (state_of s k).devices; words = words }) content

-- the parts of checkpoint k + 1
checkpoint-is : (s : SessionParts) (k count : ℕ) (cpu : CpuState) (devices : DeviceState) (sent table : List ℕ) → count ≡ count_of s (k + 1)
    → cpu ≡ (state_of s (k + 1)).cpu → devices ≡ (state_of s (k + 1)).devices → sent ≡ output_between s (count_of s k) (count_of s (k + 1))
    → table ≡ (stored_of s (k + 1)).table → record { count = count; cpu = cpu; devices = devices; sent = sent; table = table } ≡ checkpoint_of s (k + 1)
unfolding checkpoint_of
checkpoint-is s k count cpu devices sent table counts cpus states sents tables =
    let before : k ≡ k + 1 - 1 = omega arith in
    let sents-so = sents ∙ ap (λ (j : ℕ). output_between s (count_of s j) (count_of s (k + 1))) before in
    λ i. record { count = counts i; cpu = cpus i; devices = states i; sent = sents-so i; table = tables i }

-- the state of a machine that is started at a checkpoint
abbrev first : Stored → Checkpoint → State
first stored last = (claim_of stored.pool (checkpoint_parts last)).state

-- and its state at a count
abbrev end : Stored → Checkpoint → List Event → ℕ → State
end stored last es count = run_of es last.count (count - last.count) (first stored last)

-- what it sends until then
abbrev sends : Stored → Checkpoint → List Event → ℕ → List ℕ
sends stored last es count = sent_of es last.count (count - last.count) (first stored last)

-- the count to which it runs
pub next-count : (s : SessionParts) {counts : List ℕ} (k : ℕ) → counts ≡ s.counts → get_or counts k 0 ≡ count_of s (k + 1)
next-count s k same = ap (λ (l : List ℕ). get_or l k 0) same ∙ sym (count_of-next s k)

module _ {s : SessionParts} {k : ℕ} {stored : Stored} (checkpoints : List Checkpoint) {sent : ℕ} (so : IsRecorded s k stored (map checkpoint_parts checkpoints) sent) where
  many : length (map checkpoint_parts checkpoints) ≡ k + 1
  many = ap length so.recorded ∙ length-checkpoints s k

  pub inside-of : k < length checkpoints
  inside-of = omega (arith, many, length-map checkpoints checkpoint_parts)

  pub few-sent : sent ≤ MAX_OUTPUT
  few-sent = omega (arith, so.sent_is, ap length so.output, so.lawful.output)

  module _ {last : Checkpoint} (at : last ≡ get_or checkpoints k last) where
    last-is : checkpoint_parts last ≡ checkpoint_of s k
    last-is =
        sym (checkpoint_at-is checkpoints k last inside-of at)
        ∙ ap (λ (cs : List CheckpointParts). get_or cs k no_checkpoint) so.recorded ∙ checkpoint-there s k k (omega arith)

    pub last-count : last.count ≡ count_of s k
    last-count = ap (λ (c : CheckpointParts). c.count) last-is ∙ count-of s k

    pub last-fit : IsFit stored.pool (checkpoint_parts last)
    last-fit =
        subst (λ (c : CheckpointParts). IsFit stored.pool c) (sym last-is)
        (subst (λ (l : Stored). IsFit l.pool (checkpoint_of s k)) (sym so.stored_is)
        (fit-there s k k (recorded-so s stored (map checkpoint_parts checkpoints) sent k so) (omega arith)))

    pub begun : (claim_of stored.pool (checkpoint_parts last)).state ≡ state_of s k
    begun =
        ap (λ (c : CheckpointParts). (claim_of stored.pool c).state) last-is
        ∙ claimed-is s k stored.pool (so.content k (omega arith))

    module _ (lawful : IsLawfulWithDisk s) (within : k < length s.counts) {es : List Event} (same : es ≡ s.inputs) {count : ℕ} (next : count ≡ count_of s (k + 1)) where
      on : count_of s k ≤ count_of s (k + 1)
      on = omega (arith, count-rises s lawful k within)

      from-to : {X : Type 0} (f : List Event → ℕ → ℕ → State → X)
          → f es last.count (count - last.count) (first stored last) ≡ f s.inputs (count_of s k) (count_of s (k + 1) - count_of s k) (state_of s k)
      from-to f =
          ap (λ (t : State). f es last.count (count - last.count) t) begun
          ∙ ap (λ (l : List Event). f l last.count (count - last.count) (state_of s k)) same
          ∙ ap (λ (n : ℕ). f s.inputs n (count - n) (state_of s k)) last-count
          ∙ ap (λ (m : ℕ). f s.inputs (count_of s k) (m - count_of s k) (state_of s k)) next

      state-reached : end stored last es count ≡ state_of s (k + 1)
      state-reached = from-to run_of ∙ state-on s (count_of s k) (count_of s (k + 1)) on

      output-reached : sends stored last es count ≡ output_between s (count_of s k) (count_of s (k + 1))
      output-reached = from-to sent_of

      whole-output : length (output_up_to s (count_of s (k + 1))) ≡ sent + length (sends stored last es count)
      whole-output =
          let parts = ap length (output-on s (count_of s k) (count_of s (k + 1)) on) in
          let here = ap length output-reached in
          omega (arith, parts, here, so.sent_is, length-append (output_up_to s (count_of s k)) (output_between s (count_of s k) (count_of s (k + 1))))

      -- it sends too much
      pub refused-output : MAX_OUTPUT - sent < length (sends stored last es count) → record_fault_of s ≡ Some fault.Output
      refused-output many = too-much-output s k within so.no_fault (omega (arith, whole-output))

      module _ {r : Reached} (reached : IsReached (first stored last).words (end stored last es count) (sends stored last es count) r) {stored' : Stored} (stored-so : stored' ≡ store_pages stored (map changed_page_view r.changed.items)) where
        store-is : store (first stored last).words (end stored last es count).words stored ≡ store_pages stored (changed_pages (first stored last).words (end stored last es count).words)
        unfolding store
        store-is = refl

        stored-next : stored' ≡ stored_of s (k + 1)
        stored-next =
            stored-so ∙ ap (λ (pages : List (ℕ × List ℕ)). store_pages stored pages) reached.changed ∙ sym store-is
            ∙ ap (λ (l : List ℕ). store l (end stored last es count).words stored) (ap (λ (t : State). t.words) begun)
            ∙ ap (λ (l : List ℕ). store (state_of s k).words l stored) (ap (λ (t : State). t.words) state-reached)
            ∙ ap (λ (l : Stored). store (state_of s k).words (state_of s (k + 1)).words l) so.stored_is
            ∙ sym (stored_of-next s k)

        -- the output is within its limit
        module _ (room : length r.sent.items ≤ MAX_OUTPUT - sent) where
          few-bytes : length (output_up_to s (count_of s (k + 1))) ≤ MAX_OUTPUT
          few-bytes = omega (arith, few-sent, whole-output, ap length reached.output)

          -- too many pages were stored
          pub refused-pages : MAX_PAGES < length stored'.pool → record_fault_of s ≡ Some fault.Pages
          refused-pages many =
              too-many-pages s k within so.no_fault few-bytes (subst (λ (l : Stored). MAX_PAGES < length l.pool) stored-next many)

          -- the next checkpoint is recorded
          module _ (pages : length stored'.pool ≤ MAX_PAGES) (pool : ArePages stored'.pool)
              (devices : IsDeviceState r.devices) (bytes : All (λ byte. byte < 2 ^ 8) r.sent.items) where
            good : IsGoodNext s k
            good =
                let sent-so = reached.output ∙ output-reached in
                record {
                  cpu = subst (λ (t : State). IsCpuState t.cpu) state-reached reached.range;
                  devices = subst IsDeviceState (reached.devices ∙ ap (λ (t : State). t.devices) state-reached) devices;
                  whole = ap (λ (t : State). length t.words) (sym state-reached) ∙ reached.whole;
                  bytes = subst (All (λ byte. byte < 2 ^ 8)) sent-so bytes;
                  output = few-bytes;
                  pages = subst (λ (l : Stored). length l.pool ≤ MAX_PAGES) stored-next pages;
                  pool = subst (λ (l : Stored). ArePages l.pool) stored-next pool;
                }

            pub recorded-more : (items : List Checkpoint) (new : Checkpoint) → items ≡ checkpoints ++ new ∷ []
                → checkpoint_parts new ≡ record { count = count; cpu = cpu_state r.cpu; devices = r.devices; sent = r.sent.items; table = stored'.table }
                → (long : ℕ) → long ≡ sent + length r.sent.items → IsRecorded s (k + 1) stored' (map checkpoint_parts items) long
            recorded-more items new pushed new-so long long-so =
                let after : Recorded s (k + 1) = recorded-next s lawful k within (recorded-so s stored (map checkpoint_parts checkpoints) sent k so) good in
                let cpu = reached.cpu ∙ ap (λ (t : State). t.cpu) state-reached in
                let devices-so = reached.devices ∙ ap (λ (t : State). t.devices) state-reached in
                let is : checkpoint_parts new ≡ checkpoint_of s (k + 1) =
                new-so ∙ checkpoint-is s k count (cpu_state r.cpu) r.devices r.sent.items stored'.table next cpu devices-so (reached.output ∙ output-reached) (ap (λ (l : Stored). l.table) stored-next) in
                let all = ap (map checkpoint_parts) pushed ∙ map-append checkpoint_parts checkpoints (new ∷ [])
                ∙ ap (λ (l : List CheckpointParts). l ++ checkpoint_parts new ∷ []) so.recorded
                ∙ ap (λ (c : CheckpointParts). checkpoints_to s k ++ c ∷ []) is ∙ sym (checkpoints-more s k) in
                so-recorded s stored' (map checkpoint_parts items) long (k + 1) stored-next all
                (omega (arith, long-so, whole-output, ap length reached.output)) after
