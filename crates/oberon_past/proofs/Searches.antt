-- The parts of a range that is searched, and the whole.
use Rattle.std.proofs.Common.{◌≡◌, ◌+◌, ◌-◌, ◌≤◌, ℕ, List, Option, None, Some, arith, refl, sym}
use Rattle.risc_model.specs.declared.event.Event.{Event}
use Rattle.risc_model.specs.MachineState.{State}
use Rattle.risc_model.specs.Replay.{run_of}
use Rattle.risc_search.proofs.SearchLemmas.{hit-from, none-both, none-from, none-within, run-on}
use Rattle.risc_search.specs.declared.condition.Clause.{Clause}
use Rattle.risc_search.specs.declared.hit.Hit.{Hit}
use Rattle.risc_search.specs.Search.{IsFirst, IsHit, IsLast, NoneIn}
use Rattle.oberon_past.specs.Run.{Run, state_at}

-- a run goes on from the state at a count
pub state-between : (run : Run) (from at : ℕ) → run.start ≤ from → from ≤ at → state_at run at ≡ run_of run.inputs from (at - from) (state_at run from)
state-between run from at start on = sym (run-on run.inputs run.start from at run.first (state_at run from) start on refl)

module _ (conditions : List Clause) (es : List Event) (s : State) where
  -- a hit of a part of a range is one of the range
  pub hit-wider : (from at to : ℕ) (hit : Hit) → at ≤ to → IsHit conditions es from at s hit → IsHit conditions es from to s hit
  hit-wider from at to hit more is = record { reached = is.reached; inside = omega (arith, is.inside, more); met = is.met }

  -- ---- the first hit of a range, if there is none in its first part
  pub first-rest : (from at to : ℕ) (t : State) (found : Option Hit) → from ≤ at → t ≡ run_of es from (at - from) s → NoneIn conditions es from s from at
      → IsFirst conditions es at to t found → IsFirst conditions es from to s found
  first-rest from at to t None reached is before rest = none-both conditions es from s from at to before (none-from conditions es from at to s t reached is rest)
  first-rest from at to t (Some hit) reached is before rest = (
    hit-from conditions es from at to s t hit reached is rest.0,
    none-both conditions es from s from at hit.count before (none-from conditions es from at hit.count s t reached is rest.1),
  )

  -- ---- the last hit of a range, if there is none in its second part
  pub last-rest : (from at to : ℕ) (found : Option Hit) → at ≤ to → NoneIn conditions es from s at to → IsLast conditions es from at s found
      → IsLast conditions es from to s found
  last-rest from at to None more after rest = none-both conditions es from s from at to rest after
  last-rest from at to (Some hit) more after rest =
      (hit-wider from at to hit more rest.0, none-both conditions es from s (hit.count + 1) at to rest.1 after)

  -- a run from a count of the range searches a part of it, and there is no hit after that part
  module _ (from low at to : ℕ) (t : State) (reached : from ≤ low) (inside : low ≤ at) (more : at ≤ to) (is : t ≡ run_of es from (low - from) s)
      (after : NoneIn conditions es from s at to) where
    pub part-none : IsLast conditions es low at t None → NoneIn conditions es from s low to
    part-none part = none-both conditions es from s low at to (none-from conditions es from low at s t reached is part) after

    pub part-some : (hit : Hit) → IsLast conditions es low at t (Some hit) → IsLast conditions es from to s (Some hit)
    part-some hit part = last-rest from at to (Some hit) more after (
      hit-from conditions es from low at s t hit reached is part.0,
      none-within conditions es from low (hit.count + 1) at s t reached (omega (arith, part.0.reached)) is part.1,
    )
