-- How often the run of a past executes each word of memory. That a budget may end a profile is this project's own choice.
use Rattle.std.specs.Prelude.{ℕ, ◌≡◌, ◌⊎◌, ◌-◌, ◌<◌, ◌≤◌, List, ⊤}
use Rattle.risc_machine.specs.Tallies.{Adds}
use Rattle.risc_model.specs.Visits.{departures, visits}
use Rattle.oberon_past.specs.Past.{PastParts}
use Rattle.oberon_past.specs.Run.{Run, state_at}
use Rattle.oberon_past.specs.Search.{IsOutOfRange, IsRange}
use Rattle.oberon_past.specs.declared.profiled.Profiled.{Profiled}
use Rattle.oberon_past.specs.declared.profiled.Profiled.TheVariants as profiled

-- for each word of memory, how often its instruction is done, and how often it leads elsewhere than to the next word
pub record Counts : Type 0 where
  pub visits : List ℕ
  pub departures : List ℕ

-- the visits and the departures of a run from one count up to another are added. After 2^64 - 1 a number begins again at 0
pub record HasProfiled (run : Run) (from to : ℕ) (old new : Counts) : Type 0 where
  pub visits_are : Adds (λ p. visits p run.inputs from (to - from) (state_at run from)) old.visits new.visits
  pub departures_are : Adds (λ p. departures p run.inputs from (to - from) (state_at run from)) old.departures new.departures

-- the answer to a question about a profile
abbrev pub IsProfiled : Run → ℕ → ℕ → ℕ → Counts → Counts → Profiled → Type 0
IsProfiled run end from to old new profiled.Done = IsRange run end from to × HasProfiled run from to old new
IsProfiled run end from to old new (profiled.More next) =
    IsRange run end from to × (from ≤ next) × (next < to) × HasProfiled run from next old new
IsProfiled run end from to old new (profiled.OutOfRange fault) = IsOutOfRange run end from to fault × (new ≡ old)

-- what such a question leaves: to be gone on with, at least one keyframe more, or a part of the range that is counted; refused, all as it
-- was
abbrev pub AdvancesProfile : PastParts → PastParts → ℕ → Profiled → Type 0
AdvancesProfile old new from profiled.Done = ⊤
AdvancesProfile old new from (profiled.More next) = (old.keyframes < new.keyframes) ⊎ (from < next)
AdvancesProfile old new from (profiled.OutOfRange fault) = new ≡ old

-- counts of two runs, the second of which goes on from the first, are those of the whole
abbrev pub ProfileLaw : Type 0
ProfileLaw =
    (run : Run) (from at to : ℕ) (old mid new : Counts) → run.start ≤ from → from ≤ at → at ≤ to
    → HasProfiled run from at old mid → HasProfiled run at to mid new → HasProfiled run from to old new
