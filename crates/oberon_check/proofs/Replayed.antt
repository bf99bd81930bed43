-- What the comparison with a replay of one segment says of the segment.
use Rattle.std.proofs.Common.{◌≡◌, ◌∙◌, ◌+◌, ◌-◌, ◌↔◌, ℕ, IsTrue, List, Bool, Option, None, Some, ap, sym, subst}
use Rattle.std.specs.Prelude.{IfNone}
use Rattle.risc_pages.specs.Tables.{table_words}
use Rattle.risc_devices.specs.DeviceState.{DeviceState}
use Rattle.risc_model.specs.declared.event.Event.{Event}
use Rattle.risc_model.specs.MachineState.{State}
use Rattle.risc_model.specs.Replay.{run_of, sent_of}
use Rattle.oberon_format.specs.CheckpointParts.{CheckpointParts}
use Rattle.oberon_format.specs.Defined.{Outcome, claim_of, claimed}
use Rattle.oberon_format.specs.Recording.{RecordingParts, checkpoint_at}
use Rattle.oberon_check.specs.Difference.{IsDifference}
use Rattle.oberon_check.specs.Segment.{IsSegmentPart}
use Rattle.oberon_check.specs.declared.part.Part.{Part}
use Rattle.oberon_check.specs.inner.Comparing.{IsDifferenceBy}

-- what IsSegmentPart says, of two checkpoints
abbrev PartBy : List (List ℕ) → List Event → Option Part → CheckpointParts → CheckpointParts → Type 0
PartBy pool inputs part from to =
    IsDifference (claim_of pool to) (record {
      state = run_of inputs from.count (to.count - from.count) (claim_of pool from).state;
      sent = sent_of inputs from.count (to.count - from.count) (claim_of pool from).state;
    }) part

-- a run between the counts of two checkpoints
part_between : (pool : List (List ℕ)) (inputs : List Event) (from to : CheckpointParts) (begin end : ℕ) (old new : State) (expected : List ℕ) (same : Bool)
    (part : Option Part) → old ≡ (claim_of pool from).state → new ≡ run_of inputs begin (end - begin) old
    → (IsTrue same ↔ (sent_of inputs begin (end - begin) old ≡ expected)) → begin ≡ from.count → end ≡ to.count → expected ≡ to.sent
    → IsDifferenceBy same (claim_of pool to) new part → PartBy pool inputs part from to
part_between pool inputs from to begin end old new expected same part start new_is sent begins ends sends is =
    let said = subst (λ (s : State). IsDifference (claim_of pool to) (record { state = s; sent = sent_of inputs begin (end - begin) old }) part) new_is
    (is (sent_of inputs begin (end - begin) old) (subst (λ (bs : List ℕ). IsTrue same ↔ (sent_of inputs begin (end - begin) old ≡ bs)) sends sent)) in
    let family : State → ℕ → ℕ → Type 0 =
    λ s b e. IsDifference (claim_of pool to) (record { state = run_of inputs b (e - b) s; sent = sent_of inputs b (e - b) s }) part in
    subst (λ (s : State). family s from.count to.count) start (subst (λ (b : ℕ). family old b to.count) begins (subst (family old begin) ends said))

-- the machine runs from what checkpoint i claims, up to the count of the next
pub part_of_run : (r : RecordingParts) (i : ℕ) (pool : List (List ℕ)) (inputs : List Event) (from to : CheckpointParts) (begin end : ℕ) (old new : State)
    (expected : List ℕ) (same : Bool) (part : Option Part)
    → pool ≡ r.pool → inputs ≡ r.inputs → from ≡ checkpoint_at r i → to ≡ checkpoint_at r (i + 1) → old ≡ (claimed r i).state
    → new ≡ run_of inputs begin (end - begin) old → (IsTrue same ↔ (sent_of inputs begin (end - begin) old ≡ expected))
    → begin ≡ from.count → end ≡ to.count → expected ≡ to.sent → IsDifferenceBy same (claim_of pool to) new part → IsSegmentPart r i part
part_of_run r i pool inputs from to begin end old new expected same part pool_is inputs_are from_is to_is old_is new_is sent begins ends sends is =
    let start : old ≡ (claim_of r.pool from).state = old_is ∙ ap (λ (c : CheckpointParts). (claim_of r.pool c).state) (sym from_is) in
    let said = subst (λ (p : List (List ℕ)). IsDifferenceBy same (claim_of p to) new part) pool_is is in
    let between = part_between r.pool inputs from to begin end old new expected same part start new_is sent begins ends sends said in
    let whole = subst (λ (es : List Event). PartBy r.pool es part from to) inputs_are between in
    subst (λ (to : CheckpointParts). PartBy r.pool r.inputs part (checkpoint_at r i) to) to_is
    (subst (λ (from : CheckpointParts). PartBy r.pool r.inputs part from to) from_is whole)

-- where no part differs, the state is what the claim says
state_of_claim : (claim : Outcome) (state : State) (same : Bool) (sent : List ℕ) (part : Option Part)
    → (IsTrue same ↔ (sent ≡ claim.sent)) → IsDifferenceBy same claim state part → IfNone part (state ≡ claim.state)
state_of_claim claim state same sent None agrees is = sym (ap (λ (o : Outcome). o.state) (is sent agrees))
state_of_claim claim state same sent (Some part) agrees is = tt

-- if the segment holds, the machine's state is what the next checkpoint claims
pub state_of_run : (r : RecordingParts) (i : ℕ) (pool : List (List ℕ)) (to : CheckpointParts) (new : State) (sent expected : List ℕ) (same : Bool)
    (part : Option Part) → pool ≡ r.pool → to ≡ checkpoint_at r (i + 1) → (IsTrue same ↔ (sent ≡ expected)) → expected ≡ to.sent
    → IsDifferenceBy same (claim_of pool to) new part → IfNone part (new ≡ (claimed r (i + 1)).state)
state_of_run r i pool to new sent expected same part pool_is to_is agrees sends is =
    let here = state_of_claim (claim_of pool to) new same sent part (subst (λ (bs : List ℕ). IsTrue same ↔ (sent ≡ bs)) sends agrees) is in
    subst (λ (c : CheckpointParts). IfNone part (new ≡ (claim_of r.pool c).state)) to_is
    (subst (λ (p : List (List ℕ)). IfNone part (new ≡ (claim_of p to).state)) pool_is here)

-- a machine that starts with the parts of checkpoint i
pub state_of_start : (r : RecordingParts) (i : ℕ) (pool : List (List ℕ)) (from : CheckpointParts) (devices : DeviceState) (state : State)
    → pool ≡ r.pool → from ≡ checkpoint_at r i → devices ≡ from.devices
    → state ≡ record { cpu = from.cpu; devices = devices; words = table_words pool from.table } → state ≡ (claimed r i).state
state_of_start r i pool from devices state pool_is from_is devices_are is =
    is ∙ ap (λ (d : DeviceState). record { cpu = from.cpu; devices = d; words = table_words pool from.table }) devices_are
    ∙ ap (λ (p : List (List ℕ)). (claim_of p from).state) pool_is ∙ ap (λ (c : CheckpointParts). (claim_of r.pool c).state) from_is
