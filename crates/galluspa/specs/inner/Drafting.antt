-- A recording of a past, while it is made.
use Rattle.std.specs.Prelude.{ℕ, ◌≡◌, ◌⊎◌, ◌+◌, ◌<◌, ◌≤◌, List, None, length, slice_index_or, ⊤}
use Rattle.oberon_format.specs.ByteFields.{first_fault_with_disk}
use Rattle.oberon_format.specs.Defined.{claimed}
use Rattle.oberon_format.specs.Recording.{RecordingParts, count_at}
use Rattle.oberon_past.specs.Draft.{IsDraftFault, IsDraftOf}
use Rattle.oberon_past.specs.Past.{PastParts}
use Rattle.oberon_past.specs.declared.draft.Draft.{Draft}
use Rattle.oberon_past.specs.declared.draft.Drafted.{Drafted}
use Rattle.oberon_past.specs.declared.draft.Drafted.TheVariants as drafted
use Rattle.oberon_past.specs.declared.draft_fault.DraftFault.{DraftFault}
use Rattle.oberon_past.specs.declared.draft_fault.DraftFault.TheVariants as fault
use Rattle.galluspa.specs.declared.past_record.Undrafted.{Undrafted}
use Rattle.galluspa.specs.declared.past_record.Undrafted.TheVariants as refusal
use Rattle.galluspa.specs.declared.refusal.TheConstants.{LATER, NO_RECORDING, OUT_OF_MEMORY, OUT_OF_RANGE}
use Rattle.galluspa.specs.declared.refusal.TheConstants.{TOO_MANY_CHECKPOINTS, TOO_MANY_INPUTS, TOO_MANY_PAGES, TOO_MUCH_OUTPUT}
use Rattle.galluspa.specs.Claim.{IsNoRecording}
use Rattle.galluspa.specs.Drafts.{AreInside, HasCheckpoints, HasDraftFault, IsRecordQuestion}

-- ---- a checkpoint more

-- a recording with one checkpoint more, at this count; what it had stays
pub record HasCheckpoint (old : RecordingParts) (count : ℕ) (new : RecordingParts) : Type 0 where
  pub more : length new.checkpoints ≡ length old.checkpoints + 1
  pub counts : (k : ℕ) → k < length old.checkpoints → count_at new k ≡ count_at old k
  pub claims : (k : ℕ) → k < length old.checkpoints → claimed new k ≡ claimed old k
  pub last_counts : count_at new (length old.checkpoints) ≡ count

-- a draft with it, or one of the same recording
abbrev pub IsOneMore : RecordingParts → ℕ → Drafted → Type 0
IsOneMore r n (drafted.Done new) = HasCheckpoint r n new.recording
IsOneMore r n (drafted.More new) = new.recording ≡ r

-- if it has none, a keyframe was added
abbrev pub LeavesKeyframe : PastParts → PastParts → Drafted → Type 0
LeavesKeyframe old new (drafted.Done next) = ⊤
LeavesKeyframe old new (drafted.More next) = old.keyframes < new.keyframes

-- a draft of the same recording gets no checkpoint at a count, for this fault
pub record HasFault (p : PastParts) (d : Draft) (n : ℕ) (fault : DraftFault) : Type 0 where
  pub draft : Draft
  pub same : draft.recording ≡ d.recording
  pub truth : IsDraftOf p.run d → IsDraftOf p.run draft
  pub is_fault : IsDraftFault p draft n fault

-- of the counts of a caller, from the one with an index on, a draft gets checkpoints at some, and none at the next, for this fault
pub record IsMisdrafted (p : PastParts) (d : Draft) (counts : List ℕ) (from : ℕ) (fault : DraftFault) : Type 0 where
  pub to : ℕ
  pub inside : (from ≤ to) × (to < length counts)
  pub draft : Draft
  pub checkpoints : HasCheckpoints d.recording counts from to draft.recording
  pub truth : IsDraftOf p.run d → IsDraftOf p.run draft
  pub is_fault : IsDraftFault p draft (slice_index_or counts to 0) fault

-- ---- refusals

-- the refusal for a fault of a draft
abbrev pub refusal_of : DraftFault → Undrafted
refusal_of fault.Start = refusal.Range
refusal_of fault.Later = refusal.Later
refusal_of fault.Order = refusal.Range
refusal_of fault.Inputs = refusal.Inputs
refusal_of fault.Checkpoints = refusal.Checkpoints
refusal_of fault.Output = refusal.Output
refusal_of fault.Pages = refusal.Pages
refusal_of fault.Memory = refusal.Memory

-- what is asked is out of its range, or a count is after the end
abbrev pub IsUnasked : PastParts → List ℕ → ℕ → ℕ → Undrafted → Type 0
IsUnasked p counts recorded budget refusal.Range = ¬ (IsRecordQuestion (length counts) recorded budget p)
IsUnasked p counts recorded budget refusal.Later = IsRecordQuestion (length counts) recorded budget p × ¬ (AreInside counts p)
IsUnasked p counts recorded budget _ = ⊥

-- no recording is begun or read
abbrev pub IsUnread : List ℕ → Undrafted → Type 0
IsUnread text refusal.NoRecording = IsNoRecording text
IsUnread text refusal.Memory = (length text ≡ 0) ⊎ (first_fault_with_disk text ≡ None)
IsUnread text _ = ⊥

-- all that a caller asks is in its range
abbrev pub IsAsked : PastParts → List ℕ → ℕ → ℕ → Type 0
IsAsked p counts recorded budget = IsRecordQuestion (length counts) recorded budget p × AreInside counts p

-- why a past is not recorded
abbrev pub IsUndrafted : PastParts → List ℕ → List ℕ → ℕ → ℕ → Undrafted → Type 0
IsUndrafted p text counts recorded budget refusal.Range =
    ¬ (IsRecordQuestion (length counts) recorded budget p) ⊎ HasDraftFault p text counts recorded fault.Order
IsUndrafted p text counts recorded budget refusal.Later = IsRecordQuestion (length counts) recorded budget p × ¬ (AreInside counts p)
IsUndrafted p text counts recorded budget refusal.NoRecording = IsAsked p counts recorded budget × IsNoRecording text
IsUndrafted p text counts recorded budget refusal.Inputs = IsAsked p counts recorded budget × HasDraftFault p text counts recorded fault.Inputs
IsUndrafted p text counts recorded budget refusal.Checkpoints =
    IsAsked p counts recorded budget × HasDraftFault p text counts recorded fault.Checkpoints
IsUndrafted p text counts recorded budget refusal.Output = IsAsked p counts recorded budget × HasDraftFault p text counts recorded fault.Output
IsUndrafted p text counts recorded budget refusal.Pages = IsAsked p counts recorded budget × HasDraftFault p text counts recorded fault.Pages
IsUndrafted p text counts recorded budget refusal.Memory =
    IsAsked p counts recorded budget × ((length text ≡ 0) ⊎ (first_fault_with_disk text ≡ None))

-- the number that a caller in C gets
abbrev pub code_of : Undrafted → ℕ
code_of refusal.Range = OUT_OF_RANGE
code_of refusal.Later = LATER
code_of refusal.NoRecording = NO_RECORDING
code_of refusal.Inputs = TOO_MANY_INPUTS
code_of refusal.Checkpoints = TOO_MANY_CHECKPOINTS
code_of refusal.Output = TOO_MUCH_OUTPUT
code_of refusal.Pages = TOO_MANY_PAGES
code_of refusal.Memory = OUT_OF_MEMORY
