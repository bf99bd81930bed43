-- Runs that continue runs.
use Rattle.std.proofs.Common.{◌≡◌, ℕ, ◌+◌, ◌-◌, ◌≤◌, List, ◌++◌, ap, arith, length, length-append, refl, sym, ◌∙◌}
use Rattle.risc_model.specs.declared.event.Event.{Event}
use Rattle.risc_model.specs.MachineState.{State}
use Rattle.risc_model.specs.Replay.{run_of, sent_of}
use Rattle.risc_model.proofs.LawLemmas.{run_of-on, sent_of-on}

module _ (es : List Event) (from at end : ℕ) (s : State) (begun : from ≤ at) (on : at ≤ end) where
  split : end - from ≡ (at - from) + (end - at)
  split = omega arith

  here : from + (at - from) ≡ at
  here = omega arith

  -- the state after a run that continues another
  pub run-on : (t : State) → t ≡ run_of es from (at - from) s → run_of es at (end - at) t ≡ run_of es from (end - from) s
  run-on t reached =
      ap (λ (x : State). run_of es at (end - at) x) reached
      ∙ ap (λ (n : ℕ). run_of es n (end - at) (run_of es from (at - from) s)) (sym here)
      ∙ sym (run_of-on es from (at - from) (end - at) s)
      ∙ ap (λ (n : ℕ). run_of es from n s) (sym split)

  -- what both send
  pub sent-on : (t : State) → t ≡ run_of es from (at - from) s
      → sent_of es from (at - from) s ++ sent_of es at (end - at) t ≡ sent_of es from (end - from) s
  sent-on t reached =
      ap (λ (x : State). sent_of es from (at - from) s ++ sent_of es at (end - at) x) reached
      ∙ ap (λ (n : ℕ). sent_of es from (at - from) s ++ sent_of es n (end - at) (run_of es from (at - from) s)) (sym here)
      ∙ sym (sent_of-on es from (at - from) (end - at) s)
      ∙ ap (λ (n : ℕ). sent_of es from n s) (sym split)

  -- a run sends no less if it is longer
  pub sent-grows : length (sent_of es from (at - from) s) ≤ length (sent_of es from (end - from) s)
  sent-grows =
      let t : State = run_of es from (at - from) s in
      let whole : length (sent_of es from (at - from) s ++ sent_of es at (end - at) t) ≡ length (sent_of es from (end - from) s) = ap length (sent-on t refl) in
      omega (arith, length-append (sent_of es from (at - from) s) (sent_of es at (end - at) t))
