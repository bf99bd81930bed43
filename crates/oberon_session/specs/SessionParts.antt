-- What a session is, and which sessions are lawful. All limits are this project's own choice.
use Rattle.std.specs.Prelude.{ℕ, ◌≡◌, ◌<◌, ◌≤◌, ◌^◌, IsTrue, List, length, map}
use Rattle.std.specs.List.{All}
use Rattle.std.specs.List.Sorted.{IsStrictlyIncreasing}
use Rattle.risc_devices.specs.declared.disk.TheConstants.{UNANSWERED}
use Rattle.risc_pages.specs.Pages.{IsPage}
use Rattle.risc_model.specs.declared.event.Event.{Event}
use Rattle.risc_model.specs.DiskInputs.{IsOfDisk}
use Rattle.risc_model.specs.InputOrder.{AreOrdered}
use Rattle.risc_model.specs.MachineState.{CpuState, IsCpuState}
use Rattle.risc_model.specs.declared.inputs.TheConstants.{MAX_COUNT}
use Rattle.oberon_session.specs.Digits.{PlacedWords}
use Rattle.oberon_session.specs.Ranges.{timer_fits}
use Rattle.recording_limits.specs.declared.limits.TheConstants.{LAST_CHECKPOINT, MAX_EVENTS, MAX_EVENTS_WITH_DISK}

-- the processor of the initial state, its timer's rate and phase, what its disk answered last, the pages of its memory, whose other
-- slots are zeros, the inputs with their counts, and the counts of checkpoints 1 to K. Everything else in the devices of the initial
-- state is zero
pub record SessionParts : Type 0 where
  pub cpu : CpuState
  pub rate : ℕ
  pub phase : ℕ
  pub disk : ℕ
  pub pages : List PlacedWords
  pub inputs : List Event
  pub counts : List ℕ

-- the slots of the pages
abbrev pub slots_in : List PlacedWords → List ℕ
slots_in pages = map (λ page. page.at) pages

-- a count that a recording may have after checkpoint 0
abbrev pub CountFits : ℕ → Type 0
CountFits count = (1 ≤ count) × (count ≤ MAX_COUNT)

-- not too many checkpoints, each at such a count
abbrev pub CountsFit : List ℕ → Type 0
CountsFit counts = (length counts ≤ LAST_CHECKPOINT) × All CountFits counts

-- not too many pages, whose slots rise; not too many inputs, in order; not too many checkpoints, whose counts rise from 1 on; a
-- processor that runs; a rate and a phase that a timer can have; and an answer that a disk can have
pub record IsLawfulWithDisk (s : SessionParts) : Type 0 where
  pub cpu : IsCpuState s.cpu
  pub running : s.cpu.stop ≡ 0
  pub timer : IsTrue (timer_fits s.rate s.phase)
  pub disk : s.disk < 2 ^ 32
  pub few : length s.pages ≤ 1024
  pub slots : All (λ page. page.at < 1024) s.pages
  pub rising : IsStrictlyIncreasing (slots_in s.pages)
  pub contents : All (λ page. IsPage page.words) s.pages
  pub events : length s.inputs ≤ MAX_EVENTS_WITH_DISK
  pub ordered : AreOrdered s.inputs
  pub counts : CountsFit s.counts
  pub rises : IsStrictlyIncreasing s.counts

-- a session of a machine without a disk: the disk has not answered, no input is an answer, and there are not too many for a file
-- without a disk
pub record IsPlain (s : SessionParts) : Type 0 where
  pub begins : s.disk ≡ UNANSWERED
  pub unanswered : All (λ e. ¬ (IsOfDisk e)) s.inputs
  pub few_inputs : length s.inputs ≤ MAX_EVENTS

-- a lawful session of such a machine
pub record IsLawful (s : SessionParts) : Type 0 where
  pub within : IsLawfulWithDisk s
  pub plain : IsPlain s
