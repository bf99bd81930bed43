-- A session that is made of its parts, and the rules for these. All limits are this project's own choice, except the end of program
-- counters.
use Rattle.std.specs.Prelude.{ℕ, ◌≡◌, ◌<◌, ◌≤◌, IsTrue, List, length, map}
use Rattle.std.specs.List.{All}
use Rattle.std.specs.List.Sorted.{IsStrictlyIncreasing}
use Rattle.risc_core.specs.declared.branch.TheConstants.{COUNTER_END}
use Rattle.risc_model.specs.declared.cpu.Cpu.{Cpu}
use Rattle.risc_model.specs.declared.event.Event.{Event}
use Rattle.risc_model.specs.DiskInputs.{IsOfDisk}
use Rattle.risc_model.specs.MachineState.{cpu_state}
use Rattle.oberon_session.specs.Digits.{PlacedWords}
use Rattle.oberon_session.specs.Ranges.{timer_fits}
use Rattle.oberon_session.specs.SessionParts.{CountsFit, SessionParts, slots_in}
use Rattle.oberon_session.specs.declared.digits.PlacedPage.{PlacedPage}
use Rattle.oberon_session.specs.declared.fault.SessionFault.{SessionFault}
use Rattle.oberon_session.specs.declared.fault.SessionFault.TheVariants as fault
use Rattle.recording_limits.specs.declared.limits.TheConstants.{MAX_EVENTS}

-- ---- the parts, as Rust has them

-- a page and its slot
abbrev pub placed_view : PlacedPage → PlacedWords
placed_view p = record { at = p.at; words = p.page.words }

-- the session of these parts
abbrev pub session_of_parts : Cpu → ℕ → ℕ → ℕ → List PlacedPage → List Event → List ℕ → SessionParts
session_of_parts cpu rate phase disk pages inputs counts = record {
  cpu = cpu_state cpu;
  rate = rate;
  phase = phase;
  disk = disk;
  pages = map placed_view pages;
  inputs = inputs;
  counts = counts;
}

-- ---- the rules

-- The rules leave out what the types of the parts ensure: registers, H and the words of pages are words, and inputs are in their
-- ranges and in the order of their counts.

-- numbers are in their ranges, no list is too long, no input is of a disk, and the processor runs
pub record AreInRange (s : SessionParts) : Type 0 where
  pub counter : s.cpu.pc < COUNTER_END
  pub running : s.cpu.stop ≡ 0
  pub timer : IsTrue (timer_fits s.rate s.phase)
  pub few : length s.pages ≤ 1024
  pub slots : All (λ page. page.at < 1024) s.pages
  pub events : length s.inputs ≤ MAX_EVENTS
  pub unanswered : All (λ e. ¬ (IsOfDisk e)) s.inputs
  pub counts : CountsFit s.counts

-- slots of pages and counts of checkpoints rise
pub record AreInOrder (s : SessionParts) : Type 0 where
  pub slots : IsStrictlyIncreasing (slots_in s.pages)
  pub counts : IsStrictlyIncreasing s.counts

-- this is the fault of the first rule that the parts break: first the ranges, then the order
abbrev pub BreaksParts : SessionParts → SessionFault → Type 0
BreaksParts s fault.Range = ¬ (AreInRange s)
BreaksParts s fault.Order = AreInRange s × ¬ (AreInOrder s)
BreaksParts s _ = ⊥
