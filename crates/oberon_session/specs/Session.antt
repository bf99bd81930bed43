-- Which bytes encode which session, and which fault others have.
use Rattle.std.specs.Prelude.{◌≡◌, ◌≤◌, ℕ, List, length, map, Some, None}
use Rattle.risc_core.specs.Flags.{flags_of}
use Rattle.risc_devices.specs.Input.{kind_of, value_of}
use Rattle.risc_model.specs.declared.event.Event.{Event}
use Rattle.risc_model.specs.MachineState.{CpuState}
use Rattle.oberon_session.specs.Digits.{all_placed_of}
use Rattle.oberon_session.specs.Draft.{Draft, InputNumbers, Start}
use Rattle.oberon_session.specs.Rules.{draft_in, first_fault_up_to}
use Rattle.oberon_session.specs.SessionParts.{SessionParts}
use Rattle.oberon_session.specs.declared.fault.SessionFault.{SessionFault}
use Rattle.oberon_session.specs.declared.fault.SessionFault.TheVariants as fault
use Rattle.recording_limits.specs.declared.limits.TheConstants.{LONGEST_SESSION}

-- ---- the session of a draft

-- the processor of the initial state, which runs
abbrev pub cpu_of : Start → CpuState
cpu_of start = record { r = start.registers; h = start.h; pc = start.pc; flags = flags_of start.flags; stop = 0 }

-- the numbers of an input
abbrev pub numbers_of_event : Event → InputNumbers
numbers_of_event e = record { count = e.count; kind = kind_of e.input; value = value_of e.input }

-- the draft describes this session
pub record Describes (draft : Draft) (session : SessionParts) : Type 0 where
  pub cpu : session.cpu ≡ cpu_of draft.start
  pub rate : session.rate ≡ draft.start.rate
  pub phase : session.phase ≡ draft.start.phase
  pub disk : session.disk ≡ draft.start.disk
  pub pages : all_placed_of draft.pages ≡ Some session.pages
  pub inputs : map numbers_of_event session.inputs ≡ draft.inputs
  pub counts : session.counts ≡ draft.checkpoints

-- ---- session files

-- there are not too many bytes
abbrev pub Fits : List ℕ → Type 0
Fits bytes = length bytes ≤ LONGEST_SESSION

-- the bytes break no rule of the versions up to the newest one, and encode this session
abbrev pub IsSessionUpTo : ℕ → List ℕ → SessionParts → Type 0
IsSessionUpTo newest bytes session =
    (first_fault_up_to newest bytes ≡ None) × (draft : Draft) × (draft_in newest bytes ≡ Some draft) × Describes draft session

-- this is the fault of the first of these rules that the bytes break. Running out of memory is not a fault of a file, and happens
-- only if there are not too many bytes
abbrev pub BreaksUpTo : ℕ → List ℕ → SessionFault → Type 0
BreaksUpTo newest bytes fault.Memory = Fits bytes
BreaksUpTo newest bytes own = first_fault_up_to newest bytes ≡ Some own

-- ---- of a machine without a disk: versions 1 and 2

abbrev pub IsSession : List ℕ → SessionParts → Type 0
IsSession = IsSessionUpTo 2

abbrev pub Breaks : List ℕ → SessionFault → Type 0
Breaks = BreaksUpTo 2

-- ---- of a machine with a disk: version 3, too

abbrev pub IsSessionWithDisk : List ℕ → SessionParts → Type 0
IsSessionWithDisk = IsSessionUpTo 3

abbrev pub BreaksWithDisk : List ℕ → SessionFault → Type 0
BreaksWithDisk = BreaksUpTo 3
