-- A recording while its next checkpoint is added.
use Rattle.std.specs.Prelude.{ℕ, ◌≡◌, List, None}
use Rattle.risc_model.specs.declared.event.Event.{Event}
use Rattle.oberon_format.specs.Recording.{IsLawfulWithDisk, RecordingParts}
use Rattle.oberon_format.specs.Text.{TextWithDisk}
use Rattle.oberon_format.specs.ByteFields.{first_fault_with_disk}
use Rattle.oberon_session.specs.Extended.{HasRoom, IsExtendFault, IsExtended, outcome_of}
use Rattle.oberon_session.specs.declared.claim.Claim.{Claim}
use Rattle.oberon_session.specs.declared.extend_fault.ExtendFault.{ExtendFault}
use Rattle.oberon_session.specs.declared.extend_fault.ExtendFault.TheVariants as fault
use Rattle.galluspa.specs.declared.extend.Unrecorded.{Unrecorded}
use Rattle.galluspa.specs.declared.extend.Unrecorded.TheVariants as refusal
use Rattle.galluspa.specs.declared.refusal.TheConstants.{NO_RECORDING, OUT_OF_MEMORY, OUT_OF_RANGE, PENDING_INPUTS}
use Rattle.galluspa.specs.declared.refusal.TheConstants.{TOO_MANY_CHECKPOINTS, TOO_MANY_INPUTS, TOO_MANY_PAGES, TOO_MUCH_OUTPUT}
use Rattle.galluspa.specs.declared.raw.RawState.{RawState}
use Rattle.galluspa.specs.declared.raw.RawInput.{RawInput}
use Rattle.galluspa.specs.Claim.{IsNoRecording}
use Rattle.galluspa.specs.Extend.{CanFollow, HasExtendFault}
use Rattle.galluspa.specs.Raw.{AreEvents}

-- the recording of the bytes, extended by a claim
pub record IsMore (text : List ℕ) (inputs : List RawInput) (claim : Claim) (new : RecordingParts) : Type 0 where
  pub no_fault : first_fault_with_disk text ≡ None
  pub old : RecordingParts
  pub is_text : TextWithDisk text old
  pub events : List Event
  pub are_events : AreEvents inputs events
  pub room : HasRoom old events claim.count (outcome_of claim)
  pub extended : IsExtended old events claim.count (outcome_of claim) new
  pub lawful : IsLawfulWithDisk new

-- the bytes are a recording that is not extended, for this fault
pub record HasFault (text : List ℕ) (inputs : List RawInput) (claim : Claim) (fault : ExtendFault) : Type 0 where
  pub recording : RecordingParts
  pub is_text : TextWithDisk text recording
  pub events : List Event
  pub are_events : AreEvents inputs events
  pub is_fault : IsExtendFault recording events claim.count (outcome_of claim) fault

-- the refusal for a fault of the extension
abbrev pub unextended : ExtendFault → Unrecorded
unextended fault.Pending = refusal.Pending
unextended fault.Order = refusal.Range
unextended fault.Inputs = refusal.Inputs
unextended fault.Checkpoints = refusal.Checkpoints
unextended fault.Output = refusal.Output
unextended fault.Pages = refusal.Pages
unextended fault.Memory = refusal.Memory

-- why it is not extended
abbrev pub IsNoMore : List ℕ → List RawInput → Claim → Unrecorded → Type 0
IsNoMore text inputs claim refusal.Range = HasFault text inputs claim ExtendFault.Order
IsNoMore text inputs claim refusal.NoRecording = IsNoRecording text
IsNoMore text inputs claim refusal.Pending = HasFault text inputs claim ExtendFault.Pending
IsNoMore text inputs claim refusal.Inputs = HasFault text inputs claim ExtendFault.Inputs
IsNoMore text inputs claim refusal.Checkpoints = HasFault text inputs claim ExtendFault.Checkpoints
IsNoMore text inputs claim refusal.Output = HasFault text inputs claim ExtendFault.Output
IsNoMore text inputs claim refusal.Pages = HasFault text inputs claim ExtendFault.Pages
IsNoMore text inputs claim refusal.Memory = first_fault_with_disk text ≡ None

-- the same in terms of the caller's numbers
abbrev pub IsUnextended : List ℕ → List RawInput → RawState → List ℕ → List ℕ → Unrecorded → Type 0
IsUnextended text inputs state words sent refusal.Range = ¬ (CanFollow text inputs state words)
IsUnextended text inputs state words sent refusal.NoRecording = IsNoRecording text
IsUnextended text inputs state words sent refusal.Pending = HasExtendFault text inputs state words sent ExtendFault.Pending
IsUnextended text inputs state words sent refusal.Inputs = HasExtendFault text inputs state words sent ExtendFault.Inputs
IsUnextended text inputs state words sent refusal.Checkpoints = HasExtendFault text inputs state words sent ExtendFault.Checkpoints
IsUnextended text inputs state words sent refusal.Output = HasExtendFault text inputs state words sent ExtendFault.Output
IsUnextended text inputs state words sent refusal.Pages = HasExtendFault text inputs state words sent ExtendFault.Pages
IsUnextended text inputs state words sent refusal.Memory = first_fault_with_disk text ≡ None

-- the number that a caller in C gets
abbrev pub code_of : Unrecorded → ℕ
code_of refusal.Range = OUT_OF_RANGE
code_of refusal.NoRecording = NO_RECORDING
code_of refusal.Pending = PENDING_INPUTS
code_of refusal.Inputs = TOO_MANY_INPUTS
code_of refusal.Checkpoints = TOO_MANY_CHECKPOINTS
code_of refusal.Output = TOO_MUCH_OUTPUT
code_of refusal.Pages = TOO_MANY_PAGES
code_of refusal.Memory = OUT_OF_MEMORY
