-- A recording that a caller makes while a machine runs: the beginning, and the next checkpoint.
use Rattle.std.specs.Prelude.{ℕ, ◌≡◌, ◌⊎◌, List}
use Rattle.oberon_format.specs.Defined.{Outcome}
use Rattle.oberon_format.specs.Recording.{RecordingParts}
use Rattle.oberon_format.specs.Text.{IsEncoding, IsPlain, TextWithDisk}
use Rattle.oberon_format.specs.declared.layout.TheConstants.{VERSION, VERSION_WITH_DISK}
use Rattle.oberon_session.specs.Extended.{HasRoom, HasTakenAll, IsBegun, IsExtendFault, IsExtended, IsNext}
use Rattle.oberon_session.specs.declared.extend_fault.ExtendFault.{ExtendFault}
use Rattle.risc_model.specs.declared.event.Event.{Event}
use Rattle.galluspa.specs.declared.raw.RawState.{RawState}
use Rattle.galluspa.specs.declared.raw.RawInput.{RawInput}
use Rattle.galluspa.specs.Raw.{AreEvents, AreNoEvents, IsWhole, state_of}

-- the bytes are the file of a recording: in version 2 if that holds it, as it holds each that has no answer of a disk and at most
-- 1,000,000 inputs, and else in version 3
pub record IsFile (text : List ℕ) (r : RecordingParts) : Type 0 where
  pub plain : IsPlain r → IsEncoding VERSION text r
  pub others : ¬ (IsPlain r) → IsEncoding VERSION_WITH_DISK text r

-- ---- the beginning

-- a recording can begin with the state: it is at count 0
pub record CanBegin (state : RawState) (words : List ℕ) : Type 0 where
  pub is_whole : IsWhole state words
  pub begins : state.count ≡ 0

-- the bytes are the file of the recording that begins with a state at count 0
pub record IsBeginning (state : RawState) (words text : List ℕ) : Type 0 where
  pub begins : state.count ≡ 0
  pub recording : RecordingParts
  pub begun : IsBegun (state_of state words) recording
  pub text_is : IsFile text recording

-- ---- the next checkpoint

-- what the checkpoint claims: a state, and the bytes sent since the previous checkpoint
abbrev pub claim_of : RawState → List ℕ → List ℕ → Outcome
claim_of state words sent = record { state = state_of state words; sent = sent }

-- the bytes are a recording, and the inputs and the state come next: the state is at a later count than its last checkpoint, and
-- the inputs come between the two
pub record CanFollow (text : List ℕ) (inputs : List RawInput) (state : RawState) (words : List ℕ) : Type 0 where
  pub is_whole : IsWhole state words
  pub recording : RecordingParts
  pub is_text : TextWithDisk text recording
  pub events : List Event
  pub are_events : AreEvents inputs events
  pub next : IsNext recording events state.count

-- the bytes are a recording that has taken its inputs, and the new inputs are in order, but they and the state do not come next
pub record IsOutOfPlace (text : List ℕ) (inputs : List RawInput) (state : RawState) : Type 0 where
  pub recording : RecordingParts
  pub is_text : TextWithDisk text recording
  pub taken : HasTakenAll recording
  pub events : List Event
  pub are_events : AreEvents inputs events
  pub misplaced : ¬ (IsNext recording events state.count)

-- why a checkpoint does not follow: the state or the words are out of their ranges, the inputs are, or all of it does not come next
abbrev pub DoesNotFollow : List ℕ → List RawInput → RawState → List ℕ → Type 0
DoesNotFollow text inputs state words = ¬ (IsWhole state words) ⊎ (AreNoEvents inputs ⊎ IsOutOfPlace text inputs state)

-- the second bytes are the file of the recording of the first, with these inputs and one more checkpoint, which claims this
pub record IsExtension (text : List ℕ) (inputs : List RawInput) (state : RawState) (words sent new_text : List ℕ) : Type 0 where
  pub old : RecordingParts
  pub is_text : TextWithDisk text old
  pub events : List Event
  pub are_events : AreEvents inputs events
  pub room : HasRoom old events state.count (claim_of state words sent)
  pub new : RecordingParts
  pub extended : IsExtended old events state.count (claim_of state words sent) new
  pub text_is : IsFile new_text new

-- the bytes are a recording, and this is why it is not extended by what follows
pub record HasExtendFault (text : List ℕ) (inputs : List RawInput) (state : RawState) (words sent : List ℕ) (fault : ExtendFault)
    : Type 0 where
  pub recording : RecordingParts
  pub is_text : TextWithDisk text recording
  pub events : List Event
  pub are_events : AreEvents inputs events
  pub is_fault : IsExtendFault recording events state.count (claim_of state words sent) fault
