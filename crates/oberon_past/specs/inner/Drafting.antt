-- Why a recording gets no checkpoint: the faults of `oberon_session` as faults of a draft.
use Rattle.std.specs.Prelude.{ℕ, ◌+◌, ◌<◌, List, length, ⊤}
use Rattle.risc_model.specs.declared.event.Event.{Event}
use Rattle.recording_limits.specs.declared.limits.TheConstants.{MAX_PAGES}
use Rattle.oberon_format.specs.Defined.{Outcome, claimed}
use Rattle.oberon_format.specs.Recording.{RecordingParts, last_of}
use Rattle.oberon_session.specs.Extended.{FitInputs, FitsCheckpoint, FitsOutput, HasTakenAll, IsNext}
use Rattle.oberon_session.specs.Stored.{new_pages}
use Rattle.oberon_session.specs.declared.extend_fault.ExtendFault.{ExtendFault}
use Rattle.oberon_session.specs.declared.extend_fault.ExtendFault.TheVariants as extend
use Rattle.oberon_past.specs.declared.draft_fault.DraftFault.{DraftFault}
use Rattle.oberon_past.specs.declared.draft_fault.DraftFault.TheVariants as fault

-- a recording that has not taken its inputs is not one of a draft
abbrev pub draft_fault : ExtendFault → DraftFault
draft_fault extend.Pending = fault.Order
draft_fault extend.Order = fault.Order
draft_fault extend.Inputs = fault.Inputs
draft_fault extend.Checkpoints = fault.Checkpoints
draft_fault extend.Output = fault.Output
draft_fault extend.Pages = fault.Pages
draft_fault extend.Memory = fault.Memory

-- why a recording gets no checkpoint with these inputs, this count and this claim: a rule that is broken, or that memory ran out
abbrev pub IsCheckpointFault : RecordingParts → List Event → ℕ → Outcome → DraftFault → Type 0
IsCheckpointFault r inputs n claim fault.Start = ⊥
IsCheckpointFault r inputs n claim fault.Later = ⊥
IsCheckpointFault r inputs n claim fault.Order = ¬ (HasTakenAll r × IsNext r inputs n)
IsCheckpointFault r inputs n claim fault.Inputs = ¬ (FitInputs r inputs claim)
IsCheckpointFault r inputs n claim fault.Checkpoints = ¬ (FitsCheckpoint r)
IsCheckpointFault r inputs n claim fault.Output = ¬ (FitsOutput r claim)
IsCheckpointFault r inputs n claim fault.Pages =
    MAX_PAGES < length r.pool + length (new_pages (claimed r (last_of r)).state.words claim.state.words)
IsCheckpointFault r inputs n claim fault.Memory = ⊤
