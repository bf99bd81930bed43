-- Numbers of visits and departures, which are at most the number of steps.
use Rattle.std.proofs.Common.{◌≡◌, ℕ, zero, suc, ◌+◌, ◌%◌, ◌<◌, ◌≤◌, ◌^◌, Bool, true, false, List, refl, arith}
use Rattle.risc_model.specs.declared.event.Event.{Event}
use Rattle.risc_model.specs.MachineState.{State}
use Rattle.risc_model.specs.Replay.{feed, run_of}
use Rattle.risc_model.specs.Visits.{one_if, sum_over}
use Rattle.risc_model.proofs.VisitLemmas.{over-none, over-suc}

pub at_most-one : (b : Bool) → one_if b ≤ 1
at_most-one true = omega arith
at_most-one false = omega arith

-- a sum of n numbers that are 0 or 1
pub over-most : (f : State → ℕ) (es : List Event) (from n : ℕ) (s : State) → ((t : State) → f t ≤ 1) → sum_over f es from n s ≤ n
over-most f es from zero s small =
    let none = over-none f es from 0 s refl in
    omega arith
over-most f es from (suc n) s small =
    let rest = over-most f es from n s small in
    let next = over-suc f es from n s in
    let here = small (feed es (from + n) (run_of es from n s)) in
    omega arith

-- numbers below 2^64
pub exact : (a b most : ℕ) → a % 2 ^ 64 ≡ b % 2 ^ 64 → a < 2 ^ 64 → b ≤ most → most < 2 ^ 64 → a ≡ b
exact a b most alike small few less = omega arith
