-- The comparison of a machine's state with a claim, if it is known whether the bytes sent agree.
use Rattle.std.specs.Prelude.{◌≡◌, ◌↔◌, ℕ, List, Bool, Option, IsTrue}
use Rattle.risc_model.specs.MachineState.{State}
use Rattle.oberon_format.specs.Defined.{Outcome}
use Rattle.oberon_check.specs.declared.part.Part.{Part}
use Rattle.oberon_check.specs.Difference.{IsDifference}

-- this is the first part in which the state differs from the claim. `same` says whether the bytes sent are the claim's
abbrev pub IsDifferenceBy : Bool → Outcome → State → Option Part → Type 0
IsDifferenceBy same claim state found =
    (sent : List ℕ) → (IsTrue same ↔ (sent ≡ claim.sent)) → IsDifference claim (record { state = state; sent = sent }) found
