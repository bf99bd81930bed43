-- Runs of a caller's machine: why one is refused, and a run that goes on by one step.
use Rattle.std.proofs.Common.{◌≡◌, ◌≤◌, ◌+◌, ◌-◌, ◌++◌, ◌∙◌, ℕ, suc, List, Option, ap, arith, sym}
use Rattle.std.specs.Option.{option_to_list}
use Rattle.risc_model.specs.Exec.{exec}
use Rattle.risc_model.specs.MachineState.{State}
use Rattle.risc_model.specs.Replay.{begun_at, feed, run_of, sent_of}
use Rattle.risc_model.specs.declared.event.Event.{Event}
use Rattle.risc_model.proofs.RunLemmas.{run_of-suc, sent_of-suc}
use Rattle.galluspa.specs.declared.raw.RawInput.{RawInput}
use Rattle.galluspa.specs.declared.raw.RawState.{RawState}
use Rattle.galluspa.specs.declared.refusal.Refusal.{Refusal}
use Rattle.galluspa.specs.declared.refusal.Refusal.TheVariants.{Memory, Range, Room}
use Rattle.galluspa.specs.Advance.{IsInRange}
use Rattle.galluspa.specs.Raw.{AreEvents}
use Rattle.galluspa.specs.inner.Running.{IsAdvanceRefusal, IsRunRefusal}

-- a machine whose run with inputs in order was refused
pub no-run : (inputs : List RawInput) (events : List Event) (to : ℕ) (old : RawState) (words : List ℕ) (room : ℕ) (refusal : Refusal)
    → IsInRange inputs to old words → AreEvents inputs events → IsRunRefusal events to old words room refusal
    → IsAdvanceRefusal inputs to old words room refusal
no-run inputs events to old words room Range given are none = absurd none
no-run inputs events to old words room Room given are more = (
  given,
  record { events = events; are_events = are; forward = given.forward; more = more },
)
no-run inputs events to old words room Memory given are none = given

-- ---- a run that goes on by one step

-- a run up to a count, and then the instruction of that count: the state, and the bytes that are sent
module _ (es : List Event) (from at : ℕ) (s t : State) (sent : Option ℕ) (on : from ≤ at) (did : exec (begun_at es from at s) ≡ (t, sent)) where
  same : at + 1 - from ≡ suc (at - from)
  same = omega (arith, on)

  here : from + (at - from) ≡ at
  here = omega (arith, on)

  pub run-step : t ≡ run_of es from (at + 1 - from) s
  run-step =
      sym (ap (λ (r : State × Option ℕ). r.0) did)
      ∙ ap (λ (n : ℕ). (exec (feed es n (run_of es from (at - from) s))).0) (sym here)
      ∙ sym (run_of-suc es from (at - from) s)
      ∙ ap (λ (n : ℕ). run_of es from n s) (sym same)

  pub sent-step : sent_of es from (at - from) s ++ option_to_list sent ≡ sent_of es from (at + 1 - from) s
  sent-step =
      ap (λ (r : State × Option ℕ). sent_of es from (at - from) s ++ option_to_list r.1) (sym did)
      ∙ ap (λ (n : ℕ). sent_of es from (at - from) s ++ option_to_list (exec (feed es n (run_of es from (at - from) s))).1) (sym here)
      ∙ sym (sent_of-suc es from (at - from) s)
      ∙ ap (λ (n : ℕ). sent_of es from n s) (sym same)
