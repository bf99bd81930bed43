-- Searches through a past: what they are asked, and what they answer. That a budget may end them is this project's own choice.
use Rattle.std.specs.Prelude.{ℕ, ◌≡◌, ◌≢◌, ◌⊎◌, ◌<◌, ◌≤◌, List, Option, ◌++◌, length, ⊤}
use Rattle.risc_search.specs.declared.condition.Clause.{Clause}
use Rattle.risc_search.specs.declared.hit.Hit.{Hit}
use Rattle.risc_search.specs.Hits.{AreFirstHits, AreHits}
use Rattle.risc_search.specs.Search.{IsFirst, IsLast, NoneIn}
use Rattle.oberon_past.specs.Past.{PastParts}
use Rattle.oberon_past.specs.Run.{Run, state_at}
use Rattle.oberon_past.specs.declared.found.AllFound.{AllFound}
use Rattle.oberon_past.specs.declared.found.AllFound.TheVariants as all
use Rattle.oberon_past.specs.declared.found.Found.{Found}
use Rattle.oberon_past.specs.declared.found.Found.TheVariants as found
use Rattle.oberon_past.specs.declared.found.OutOfRange.{OutOfRange}
use Rattle.oberon_past.specs.declared.found.OutOfRange.TheVariants as fault
use Rattle.oberon_past.specs.declared.found.Which.{Which}
use Rattle.oberon_past.specs.declared.found.Which.TheVariants as which

-- ---- ranges

-- the counts from one up to, but not including, another are counts of the past
abbrev pub IsRange : Run → ℕ → ℕ → ℕ → Type 0
IsRange run end from to = (run.start ≤ from) × (from ≤ to) × (to ≤ end)

-- why a range is refused: the first rule that it breaks
abbrev pub IsOutOfRange : Run → ℕ → ℕ → ℕ → OutOfRange → Type 0
IsOutOfRange run end from to fault.Earlier = from < run.start
IsOutOfRange run end from to fault.Later = (run.start ≤ from) × (end < to)
IsOutOfRange run end from to fault.Backward = (run.start ≤ from) × (to ≤ end) × (to < from)

-- ---- one hit

-- the first or the last hit of a range, or that there is none
abbrev pub IsWanted : Run → List Clause → Which → ℕ → ℕ → Option Hit → Type 0
IsWanted run conditions which.First from to hit = IsFirst conditions run.inputs from to (state_at run from) hit
IsWanted run conditions which.Last from to hit = IsLast conditions run.inputs from to (state_at run from) hit

-- a part of a range is searched, and no condition holds in it: the counts before `at` if the first hit is wanted, and those from `at` on
-- if the last one is. The other part is not empty
abbrev pub IsSearched : Run → List Clause → Which → ℕ → ℕ → ℕ → Type 0
IsSearched run conditions which.First from to at =
    (from ≤ at) × (at < to) × NoneIn conditions run.inputs from (state_at run from) from at
IsSearched run conditions which.Last from to at =
    (from < at) × (at ≤ to) × NoneIn conditions run.inputs from (state_at run from) at to

-- the answer to a question about one hit
abbrev pub IsFound : Run → ℕ → List Clause → Which → ℕ → ℕ → Found → Type 0
IsFound run end conditions wanted from to (found.Done hit) = IsRange run end from to × IsWanted run conditions wanted from to hit
IsFound run end conditions wanted from to (found.More at) = IsRange run end from to × IsSearched run conditions wanted from to at
IsFound run end conditions wanted from to (found.OutOfRange fault) = IsOutOfRange run end from to fault

-- the count at which a search begins
abbrev pub first_searched : Which → ℕ → ℕ → ℕ
first_searched which.First from to = from
first_searched which.Last from to = to

-- what a question leaves: to be gone on with, at least one keyframe more, or a part of the range that is searched; refused, all as it was
abbrev pub Advances : PastParts → PastParts → Which → ℕ → ℕ → Found → Type 0
Advances old new wanted from to (found.Done hit) = ⊤
Advances old new wanted from to (found.More at) = (old.keyframes < new.keyframes) ⊎ (at ≢ first_searched wanted from to)
Advances old new wanted from to (found.OutOfRange fault) = new ≡ old

-- ---- all hits

-- the answer to a question about all hits, if there is room for `room` of them
abbrev pub AreFound : Run → ℕ → List Clause → ℕ → ℕ → ℕ → AllFound → Type 0
AreFound run end conditions from to room (all.Done hits) =
    IsRange run end from to × AreFirstHits conditions run.inputs from to (state_at run from) room hits.list.items hits.next
AreFound run end conditions from to room (all.More hits) =
    IsRange run end from to × (from ≤ hits.next) × (hits.next < to) × (length hits.list.items < room)
    × AreHits conditions run.inputs from (state_at run from) from hits.next hits.list.items
AreFound run end conditions from to room (all.OutOfRange fault) = IsOutOfRange run end from to fault

-- what such a question leaves
abbrev pub AdvancesAll : PastParts → PastParts → ℕ → AllFound → Type 0
AdvancesAll old new from (all.Done hits) = ⊤
AdvancesAll old new from (all.More hits) = (old.keyframes < new.keyframes) ⊎ (from < hits.next)
AdvancesAll old new from (all.OutOfRange fault) = new ≡ old

-- ---- questions that are asked again

-- of a range that is searched in part, the answer to the question about the other part is the answer to the question about the whole;
-- and all hits of a range are those of its first part, and then those of the other
abbrev pub SearchLaw : Type 0
SearchLaw =
    (run : Run) (conditions : List Clause) (from at to : ℕ) → run.start ≤ from → from ≤ at → at ≤ to
    → ((hit : Option Hit) → IsSearched run conditions which.First from to at → IsWanted run conditions which.First at to hit
    → IsWanted run conditions which.First from to hit)
    × ((hit : Option Hit) → IsSearched run conditions which.Last from to at → IsWanted run conditions which.Last from at hit
    → IsWanted run conditions which.Last from to hit)
    × ((xs ys : List Hit) → AreHits conditions run.inputs from (state_at run from) from at xs
    → AreHits conditions run.inputs at (state_at run at) at to ys
    → AreHits conditions run.inputs from (state_at run from) from to (xs ++ ys))
