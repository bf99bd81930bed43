-- Recordings that are made of a past, checkpoint by checkpoint, and of which each checkpoint is true. What a recording may have is defined
-- in `oberon_format` and `oberon_session`. That a recording is made in steps is this project's own choice.
use Rattle.std.specs.Prelude.{ℕ, ◌≡◌, ◌≢◌, ◌⊎◌, ◌+◌, ◌<◌, ◌≤◌, List, [], ◌++◌, drop, length, ⊤}
use Rattle.risc_model.specs.declared.event.Event.{Event}
use Rattle.recording_limits.specs.declared.limits.TheConstants.{MAX_PAGES}
use Rattle.oberon_format.specs.Defined.{IsTrueAt, Outcome, claimed}
use Rattle.oberon_format.specs.Recording.{RecordingParts, last_of}
use Rattle.oberon_session.specs.Extended.{FitInputs, FitsCheckpoint, FitsOutput, HasTakenAll, IsExtended, IsNext, last_count}
use Rattle.oberon_session.specs.Stored.{new_pages}
use Rattle.oberon_past.specs.Run.{Run, sent_between, state_at}
use Rattle.oberon_past.specs.Past.{PastParts}
use Rattle.oberon_past.specs.Live.{inputs_before}
use Rattle.oberon_past.specs.declared.draft.Draft.{Draft}
use Rattle.oberon_past.specs.declared.draft.Drafted.{Drafted}
use Rattle.oberon_past.specs.declared.draft.Drafted.TheVariants as drafted
use Rattle.oberon_past.specs.declared.draft_fault.DraftFault.{DraftFault}
use Rattle.oberon_past.specs.declared.draft_fault.DraftFault.TheVariants as fault

-- ---- drafts

-- a recording of a run: it begins with the run's first state, at count 0; it has the run's inputs before its last checkpoint; and each
-- checkpoint is true, so that a check accepts it
pub record IsRecordingOf (run : Run) (r : RecordingParts) : Type 0 where
  pub starts : run.start ≡ 0
  pub first : (claimed r 0).state ≡ run.first
  pub inputs : r.inputs ≡ inputs_before (last_count r) run.inputs
  pub truth : (k : ℕ) → k < length r.checkpoints → IsTrueAt r k

-- a draft of a run: its recording is one of the run, and it has the bytes that the run sends from the last checkpoint up to the draft's
-- count
pub record IsDraftOf (run : Run) (d : Draft) : Type 0 where
  pub recording : IsRecordingOf run d.recording
  pub later : last_count d.recording ≤ d.at
  pub sent : d.sent.items ≡ sent_between run (last_count d.recording) d.at

-- ---- one more checkpoint

-- the inputs of a run before a count, without as many of the first ones as the recording has
abbrev pub next_inputs : Run → RecordingParts → ℕ → List Event
next_inputs run r n = drop (length r.inputs) (inputs_before n run.inputs)

-- the bytes that a draft has, and those that the run sends from the draft's count up to this one
abbrev pub sent_up_to : Run → Draft → ℕ → List ℕ
sent_up_to run d n = d.sent.items ++ sent_between run d.at n

-- what the checkpoint at a count says: the run's state there, and the bytes sent since the last checkpoint
abbrev pub next_outcome : Run → Draft → ℕ → Outcome
next_outcome run d n = record { state = state_at run n; sent = sent_up_to run d n }

-- a draft with a checkpoint more, at this count; or one of the same recording, with more of the bytes that come before it
abbrev pub IsDrafted : Run → Draft → ℕ → Drafted → Type 0
IsDrafted run d n (drafted.Done new) =
    IsExtended d.recording (next_inputs run d.recording n) n (next_outcome run d n) new.recording × (new.at ≡ n) × (new.sent.items ≡ [])
IsDrafted run d n (drafted.More new) =
    (new.recording ≡ d.recording) × (d.at ≤ new.at) × (new.at ≤ n) × (new.sent.items ≡ sent_up_to run d new.at)

-- the draft of an answer
abbrev pub draft_in : Drafted → Draft
draft_in (drafted.Done new) = new
draft_in (drafted.More new) = new

-- what a call leaves that is to be gone on with: at least one keyframe more, or a draft of a later count
abbrev pub LeavesDraft : PastParts → PastParts → Draft → Drafted → Type 0
LeavesDraft old new d (drafted.Done next) = ⊤
LeavesDraft old new d (drafted.More next) = (old.keyframes < new.keyframes) ⊎ (d.at < next.at)

-- ---- refusals

-- why a draft is not begun: the past begins after count 0; or memory ran out
abbrev pub IsBeginFault : PastParts → DraftFault → Type 0
IsBeginFault p fault.Start = p.run.start ≢ 0
IsBeginFault p fault.Memory = p.run.start ≡ 0
IsBeginFault p _ = ⊥

-- a checkpoint at this count can follow those of a draft: the draft's count is one of the past, and no later; the draft's recording has
-- taken its inputs; and the checkpoint and the run's inputs before it come next
pub record Follows (run : Run) (d : Draft) (n : ℕ) : Type 0 where
  pub begun : run.start ≤ d.at
  pub on : d.at ≤ n
  pub taken : HasTakenAll d.recording
  pub next : IsNext d.recording (next_inputs run d.recording n) n

-- why a draft gets no checkpoint at a count: a rule that is broken, or that memory ran out
abbrev pub IsDraftFault : PastParts → Draft → ℕ → DraftFault → Type 0
IsDraftFault p d n fault.Start = ⊥
IsDraftFault p d n fault.Later = p.end < n
IsDraftFault p d n fault.Order = ¬ (Follows p.run d n)
IsDraftFault p d n fault.Inputs = ¬ (FitInputs d.recording (next_inputs p.run d.recording n) (next_outcome p.run d n))
IsDraftFault p d n fault.Checkpoints = ¬ (FitsCheckpoint d.recording)
IsDraftFault p d n fault.Output = ¬ (FitsOutput d.recording (next_outcome p.run d n))
IsDraftFault p d n fault.Pages =
    MAX_PAGES < length d.recording.pool + length (new_pages (claimed d.recording (last_of d.recording)).state.words (state_at p.run n).words)
IsDraftFault p d n fault.Memory = n ≤ p.end
