-- The limit of a search by its value, so that a mistyped number cannot change a contract unnoticed (this project's own choice); and
-- what the definition of all hits determines.
use Rattle.std.specs.Prelude.{ℕ, ◌≡◌, ◌≤◌, ◌-◌, List, ◌++◌}
use Rattle.risc_model.specs.declared.event.Event.{Event}
use Rattle.risc_model.specs.MachineState.{State}
use Rattle.risc_model.specs.Replay.{run_of}
use Rattle.risc_search.specs.declared.condition.Clause.{Clause}
use Rattle.risc_search.specs.declared.hit.Hit.{Hit}
use Rattle.risc_search.specs.declared.search.TheConstants.{MAX_CONDITIONS}
use Rattle.risc_search.specs.Hits.{AreHits}

-- a search takes up to 64 conditions
abbrev pub ConditionLimitLaw : Type 0
ConditionLimitLaw = MAX_CONDITIONS ≡ 64

-- a range has one list of hits; and if it is cut in two, the hits of its parts, one after the other, are its hits. The second part is
-- a range of the run from where it begins
abbrev pub HitsLaw : Type 0
HitsLaw =
    ((conditions : List Clause) (es : List Event) (from low high : ℕ) (s : State) (xs ys : List Hit)
    → AreHits conditions es from s low high xs → AreHits conditions es from s low high ys → xs ≡ ys)
    × ((conditions : List Clause) (es : List Event) (from mid to : ℕ) (s : State) (xs ys : List Hit) → from ≤ mid → mid ≤ to
    → AreHits conditions es from s from mid xs
    → AreHits conditions es mid (run_of es from (mid - from) s) mid to ys
    → AreHits conditions es from s from to (xs ++ ys))
