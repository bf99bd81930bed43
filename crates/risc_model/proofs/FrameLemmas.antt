-- Runs that take the same inputs are the same.
use Rattle.std.proofs.Common.{◌≡◌, ◌∙◌, ◌<◌, ◌+◌, ℕ, zero, suc, List, [], ◌∷◌, ◌++◌, ap, refl, arith}
use Rattle.std.specs.Prelude.{◌==◌, if◌then◌else◌}
use Rattle.std.specs.Option.{option_to_list}
use Rattle.risc_devices.specs.DeviceState.{DeviceState}
use Rattle.risc_devices.specs.Input.{taken_input}
use Rattle.risc_model.specs.declared.event.Event.{Event}
use Rattle.risc_model.specs.MachineState.{State}
use Rattle.risc_model.specs.Exec.{exec}
use Rattle.risc_model.specs.Replay.{fed, feed, run_of, sent_of}

-- inputs and others after them
pub fed-append : (xs ys : List Event) (n : ℕ) (d : DeviceState) → fed (xs ++ ys) n d ≡ fed ys n (fed xs n d)
fed-append [] ys n d = refl
fed-append (e ∷ xs) ys n d = fed-append xs ys n (if e.count == n then taken_input e.input d else d)

agree-feed : (es fs : List Event) (n : ℕ) (s : State) → fed es n s.devices ≡ fed fs n s.devices → feed es n s ≡ feed fs n s
unfolding feed
agree-feed es fs n s same = ap (λ (d : DeviceState). if s.cpu.stop == 0 then record s { devices = d } else s) same

-- inputs that act in the same way at each count of a run
pub agree-run : (es fs : List Event) (from n : ℕ) (s : State) → ((k : ℕ) (d : DeviceState) → k < n → fed es (from + k) d ≡ fed fs (from + k) d) → run_of es from n s ≡ run_of fs from n s
unfolding run_of
agree-run es fs from zero s same = refl
agree-run es fs from (suc n) s same =
    let before = agree-run es fs from n s (λ k d h. same k d (omega arith)) in
    let last : n < suc n = omega arith in
    let t : State = run_of fs from n s in
    ap (λ (x : State). (exec (feed es (from + n) x)).0) before ∙ ap (λ (x : State). (exec x).0) (agree-feed es fs (from + n) t (same n t.devices last))

pub agree-sent : (es fs : List Event) (from n : ℕ) (s : State) → ((k : ℕ) (d : DeviceState) → k < n → fed es (from + k) d ≡ fed fs (from + k) d) → sent_of es from n s ≡ sent_of fs from n s
unfolding sent_of
agree-sent es fs from zero s same = refl
agree-sent es fs from (suc n) s same =
    let before = agree-sent es fs from n s (λ k d h. same k d (omega arith)) in
    let run = agree-run es fs from n s (λ k d h. same k d (omega arith)) in
    let last : n < suc n = omega arith in
    let t : State = run_of fs from n s in
    ap (λ (l : List ℕ). l ++ option_to_list (exec (feed es (from + n) (run_of es from n s))).1) before
    ∙ ap (λ (x : State). sent_of fs from n s ++ option_to_list (exec (feed es (from + n) x)).1) run
    ∙ ap (λ (x : State). sent_of fs from n s ++ option_to_list (exec x).1) (agree-feed es fs (from + n) t (same n t.devices last))
