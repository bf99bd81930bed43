-- If the segments below i hold, checkpoint i claims the state of the one run. This is the induction of docs/theorem.md.
use Rattle.std.proofs.Common.{◌≡◌, ℕ, zero, suc, ◌+◌, ◌-◌, ◌<◌, ◌≤◌, List, refl, ap, sym, ◌∙◌, arith}
use Rattle.risc_model.specs.declared.event.Event.{Event}
use Rattle.risc_model.specs.MachineState.{State}
use Rattle.risc_model.specs.Replay.{run_of, sent_of}
use Rattle.risc_model.proofs.LawLemmas.{run_of-on}
use Rattle.risc_model.proofs.RunLemmas.{run_of-none}
use Rattle.oberon_format.specs.Recording.{RecordingParts, IsLawfulWithDisk, count_at, last_of}
use Rattle.oberon_format.specs.Defined.{Outcome, claimed, state_at, defined}
use Rattle.oberon_check.specs.Segment.{replayed}

-- a run is a run up to some count, followed by a run from the state there
run_of-to : (es : List Event) (from to : ℕ) (s : State) → from ≤ to → run_of es from (to - from) (run_of es 0 from s) ≡ run_of es 0 to s
run_of-to es from to s h =
    let begin : 0 + from ≡ from = omega arith in
    let end : from + (to - from) ≡ to = omega arith in
    ap (λ (k : ℕ). run_of es k (to - from) (run_of es 0 from s)) (sym begin)
    ∙ sym (run_of-on es 0 from (to - from) s)
    ∙ ap (λ (k : ℕ). run_of es 0 k s) end

-- the segments below i hold
abbrev pub HoldBelow : RecordingParts → ℕ → Type 0
HoldBelow r i = (j : ℕ) → j < i → claimed r (j + 1) ≡ replayed r j

-- then the state that checkpoint i claims is the defined one
pub claimed-defined : (r : RecordingParts) → IsLawfulWithDisk r → (i : ℕ) → i ≤ last_of r → HoldBelow r i → (claimed r i).state ≡ state_at r (count_at r i)
claimed-defined r lawful zero inside hold =
    sym (run_of-none r.inputs 0 0 (claimed r 0).state refl) ∙ ap (λ (n : ℕ). state_at r n) (sym lawful.begins)
claimed-defined r lawful (suc i) inside hold =
    let n : i + 1 ≡ suc i = omega arith in
    let rises = lawful.rises i (omega arith) in
    let before = claimed-defined r lawful i (omega arith) (λ j h. hold j (omega arith)) in
    ap (λ (k : ℕ). (claimed r k).state) (sym n)
    ∙ ap (λ (x : Outcome). x.state) (hold i (omega arith))
    ∙ ap (λ (s : State). run_of r.inputs (count_at r i) (count_at r (i + 1) - count_at r i) s) before
    ∙ run_of-to r.inputs (count_at r i) (count_at r (i + 1)) (claimed r 0).state (omega arith)
    ∙ ap (λ (k : ℕ). state_at r (count_at r k)) n

-- and the replay of segment i gives the defined outcome at checkpoint i + 1
pub replayed-defined : (r : RecordingParts) → IsLawfulWithDisk r → (i : ℕ) → i < last_of r → HoldBelow r i → replayed r i ≡ defined r (i + 1)
replayed-defined r lawful i inside hold =
    let n : i ≡ i + 1 - 1 = omega arith in
    let from : ℕ = count_at r i in
    let to : ℕ = count_at r (i + 1) in
    let rises : from < to = lawful.rises i (omega arith) in
    let before = claimed-defined r lawful i (omega arith) hold in
    ap (λ (s : State). record { state = run_of r.inputs from (to - from) s; sent = sent_of r.inputs from (to - from) s }) before
    ∙ ap (λ (s : State). record { state = s; sent = sent_of r.inputs from (to - from) (state_at r from) }) (run_of-to r.inputs from to (claimed r 0).state (omega arith))
    ∙ ap (λ (k : ℕ). record { state = state_at r to; sent = sent_of r.inputs (count_at r k) (to - count_at r k) (state_at r (count_at r k)) }) n
