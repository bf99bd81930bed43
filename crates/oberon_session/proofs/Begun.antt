-- Checkpoint 0 of a session is recorded.
use Rattle.std.proofs.Common.{◌≡◌, ◌<◌, ◌^◌, ℕ, true, zero, suc, ◌≤◌, List, [], ◌∷◌, ap, arith, get_or, length, length-set, refl, subst, sym, ◌∙◌}
use Rattle.std.proofs.lemmas.List.{length-map, length-replicate, nil_from_length}
use Rattle.std.proofs.lemmas.List.Elements.{All-map, All-replicate, All-set}
use Rattle.std.specs.List.{All}
use Rattle.std.proofs.lemmas.Bool.{and_parts, ltb-true}
use Rattle.std.specs.Prelude.{nat_lt, slice_index}
use Rattle.risc_model.specs.MachineState.{CpuState, State}
use Rattle.risc_devices.specs.DeviceState.{DeviceState, IsDeviceState, IsPhase, is_phase}
use Rattle.risc_devices.proofs.DeviceLemmas.{timer_fit}
use Rattle.risc_pages.specs.Tables.{table_words, zero_numbers}
use Rattle.risc_pages.specs.Pages.{ArePages, IsPage}
use Rattle.oberon_format.specs.CheckpointParts.{CheckpointParts, no_checkpoint}
use Rattle.oberon_format.specs.Recording.{IsFit, IsLawfulWithDisk, output_of}
use Rattle.oberon_session.proofs.Next.{Recorded, so-recorded}
use Rattle.oberon_session.proofs.Steps.{between-none, count_of-zero, first_fault-zero, stored_of-zero, output_up_to-zero, state_at-zero}
use Rattle.oberon_session.specs.Digits.{PlacedWords}
use Rattle.oberon_session.specs.Stored.{Stored}
use Rattle.oberon_session.specs.Laws.{IsTableOf}
use Rattle.oberon_session.specs.Ranges.{timer_fits}
use Rattle.oberon_session.specs.Recorded.{checkpoint_of, count_of, first_devices, first_stored, first_state, stored_of, numbered, output_between, output_up_to, state_at, state_of}
use Rattle.oberon_session.specs.SessionParts.{SessionParts, slots_in, IsLawfulWithDisk as IsLawfulSession}
use Rattle.oberon_session.specs.inner.Progress.{IsContentOf, IsRecorded, checkpoints_to}

-- ---- the first table

pub length-numbered : (pages : List PlacedWords) (n : ℕ) → length (numbered pages n) ≡ 1024
unfolding numbered zero_numbers
length-numbered pages zero = length-replicate {A = ℕ} 1024 0
length-numbered pages (suc n) = length-set (numbered pages n) (slice_index (slots_in pages) n) (suc n) ∙ length-numbered pages n

numbered-names : (pages : List PlacedWords) (n : ℕ) → All (λ number. number ≤ n) (numbered pages n)
unfolding numbered zero_numbers
numbered-names pages zero = All-replicate (λ number. number ≤ 0) 1024 0 (omega arith)
numbered-names pages (suc n) =
    All-set (λ number. number ≤ suc n) (numbered pages n) (slice_index (slots_in pages) n) (suc n) (omega arith)
    (λ k d lt. omega (arith, numbered-names pages n k d lt))

pub first-table : (pages : List PlacedWords) → IsTableOf (first_stored pages)
unfolding first_stored
first-table pages = record {
  count = length-numbered pages (length pages);
  named = λ k d lt. omega (arith, numbered-names pages (length pages) k d lt, length-map pages (λ (page : PlacedWords). page.words));
}

first-pages : (pages : List PlacedWords) → All (λ (page : PlacedWords). IsPage page.words) pages → ArePages (first_stored pages).pool
unfolding first_stored
first-pages pages contents = All-map IsPage (λ (page : PlacedWords). page.words) pages contents

first-few : (pages : List PlacedWords) → length (first_stored pages).pool ≡ length pages
unfolding first_stored
first-few pages = length-map pages (λ (page : PlacedWords). page.words)

-- ---- checkpoint 0

module _ (rate phase : ℕ) (fits : timer_fits rate phase ≡ true) where
  timer-rate : rate < 2 ^ 32
  timer-rate = ltb-true rate (2 ^ 32) (and_parts _ (nat_lt phase (2 ^ 32)) (and_parts _ (is_phase rate phase) fits).0).0

  pub timer-phase : IsPhase rate phase
  timer-phase = (and_parts _ (is_phase rate phase) fits).1

-- a rate, a phase and an answer that fit are those of devices
fitting-devices : (rate phase disk : ℕ) → timer_fits rate phase ≡ true → disk < 2 ^ 32 → IsDeviceState (first_devices rate phase disk)
fitting-devices rate phase disk fits small =
    let fit = timer_fit 0 rate phase (omega arith) (timer-rate rate phase fits) (timer-phase rate phase fits) in
    record {
      timer = fit.timer;
      rate = fit.rate;
      phase = fit.phase;
      switches = fit.switches;
      leds = fit.leds;
      mouse = fit.mouse;
      serial = fit.serial;
      keys = fit.keys;
      codes = fit.codes;
      disk = small;
    }

module _ (s : SessionParts) where
  -- the parts of the checkpoint
  abbrev pub first-checkpoint : CheckpointParts
  first-checkpoint = record { count = 0; cpu = s.cpu; devices = first_devices s.rate s.phase s.disk; sent = []; table = (first_stored s.pages).table }

  pub state-first : state_of s 0 ≡ first_state s
  state-first = ap (λ (n : ℕ). state_at s n) (count_of-zero s) ∙ state_at-zero s

  first-cpu : (first_state s).cpu ≡ s.cpu
  unfolding first_state
  first-cpu = refl

  first-devices : (first_state s).devices ≡ first_devices s.rate s.phase s.disk
  unfolding first_state
  first-devices = refl

  first-words : (first_state s).words ≡ table_words (first_stored s.pages).pool (first_stored s.pages).table
  unfolding first_state
  first-words = refl

  checkpoint-first : checkpoint_of s 0 ≡ first-checkpoint
  unfolding checkpoint_of
  checkpoint-first =
      let count = count_of-zero s in
      let cpu = ap (λ (t : State). t.cpu) state-first ∙ first-cpu in
      let devices = ap (λ (t : State). t.devices) state-first ∙ first-devices in
      let sent = nil_from_length (output_between s (count_of s 0) (count_of s 0)) (between-none s (count_of s 0)) in
      let table = ap (λ (l : Stored). l.table) (stored_of-zero s) in
      λ i. record { count = count i; cpu = cpu i; devices = devices i; sent = sent i; table = table i }

  checkpoints-first : checkpoints_to s 0 ≡ first-checkpoint ∷ []
  checkpoints-first = ap (λ (c : CheckpointParts). c ∷ []) checkpoint-first

  module _ (lawful : IsLawfulSession s) where
    lawful-first : IsLawfulWithDisk (record { pool = (first_stored s.pages).pool; inputs = s.inputs; checkpoints = first-checkpoint ∷ [] })
    lawful-first =
        let table = first-table s.pages in
        let few = first-few s.pages in
        record {
          pages = omega (arith, few, lawful.few);
          pool = first-pages s.pages lawful.contents;
          events = lawful.events;
          ordered = lawful.ordered;
          some = omega arith;
          few = omega arith;
          begins = refl;
          rises = λ k lt. absurd (omega arith);
          silent = refl;
          output = omega arith;
          fit = λ k lt.
              let this : 0 ≡ k = omega arith in
              subst (λ (j : ℕ). IsFit (first_stored s.pages).pool (get_or (first-checkpoint ∷ []) j no_checkpoint)) this (record {
                bounded = omega arith;
                cpu = lawful.cpu;
                devices = fitting-devices s.rate s.phase s.disk lawful.timer lawful.disk;
                table = record { count = table.count; fit = λ j d within. omega (arith, table.named j d within, few, lawful.few) };
                named = table.named;
                bytes = λ j d within. absurd (omega arith);
              });
        }

    pub recorded-first : Recorded s 0
    recorded-first =
        let none = nil_from_length (output_up_to s (count_of s 0)) (ap (λ (n : ℕ). length (output_up_to s n)) (count_of-zero s) ∙ output_up_to-zero s) in
        record {
          stored_is = refl;
          recorded = refl;
          output = ap output_of checkpoints-first ∙ sym none;
          sent_is = refl;
          lawful =
              subst (λ (l : Stored). IsLawfulWithDisk (record { pool = l.pool; inputs = s.inputs; checkpoints = checkpoints_to s 0 })) (sym (stored_of-zero s))
              (subst (λ (cs : List CheckpointParts). IsLawfulWithDisk (record { pool = (first_stored s.pages).pool; inputs = s.inputs; checkpoints = cs })) (sym checkpoints-first) lawful-first);
          content = λ j low.
              let this : 0 ≡ j = omega arith in
              subst (λ (n : ℕ). IsContentOf s (stored_of s 0).pool n) this
              (ap (λ (l : Stored). table_words l.pool l.table) (stored_of-zero s) ∙ sym first-words ∙ sym (ap (λ (t : State). t.words) state-first));
          no_fault = first_fault-zero s;
        }

    pub so-first : (stored : Stored) → stored ≡ first_stored s.pages → (cs : List CheckpointParts) → cs ≡ first-checkpoint ∷ [] → IsRecorded s 0 stored cs 0
    so-first stored stored-so cs cs-so =
        so-recorded s stored cs 0 0 (stored-so ∙ sym (stored_of-zero s)) (cs-so ∙ sym checkpoints-first)
        (sym (ap (λ (n : ℕ). length (output_up_to s n)) (count_of-zero s) ∙ output_up_to-zero s)) recorded-first

  pub one-checkpoint : (cpu : CpuState) (devices : DeviceState) (sent table : List ℕ) → cpu ≡ s.cpu → devices ≡ first_devices s.rate s.phase s.disk → sent ≡ []
      → table ≡ (first_stored s.pages).table → record { count = 0; cpu = cpu; devices = devices; sent = sent; table = table } ∷ [] ≡ first-checkpoint ∷ []
  one-checkpoint cpu devices sent table cpus states sents tables =
      λ i. record { count = 0; cpu = cpus i; devices = states i; sent = sents i; table = tables i } ∷ []
