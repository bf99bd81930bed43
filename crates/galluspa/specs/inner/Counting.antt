-- Numbers of departures, at 2^64 from 0 again, as counters have them.
use Rattle.std.specs.Prelude.{ℕ, ◌≡◌, ◌%◌, ◌<◌, ◌^◌, List, slice_index}
use Rattle.risc_model.specs.declared.event.Event.{Event}
use Rattle.risc_model.specs.MachineState.{State}
use Rattle.risc_model.specs.Visits.{departures}

abbrev pub AreDepartures : List Event → ℕ → ℕ → State → List ℕ → Type 0
AreDepartures es from n s numbers = (p : ℕ) → p < 2 ^ 18 → slice_index numbers p % 2 ^ 64 ≡ departures p es from n s % 2 ^ 64
