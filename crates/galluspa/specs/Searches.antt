-- Searches through a past behind a handle: what a caller asks, and what it gets (this project's own choice).
use Rattle.std.specs.Prelude.{ℕ, ◌≡◌, ◌≤◌, ◌==◌, if◌then◌else◌, List, length}
use Rattle.risc_search.specs.declared.condition.Clause.{Clause}
use Rattle.risc_search.specs.declared.hit.Hit.{Hit}
use Rattle.risc_search.specs.declared.hit.Hits.{Hits}
use Rattle.risc_search.specs.declared.search.TheConstants.{MAX_CONDITIONS}
use Rattle.oberon_past.specs.declared.found.AllFound.{AllFound}
use Rattle.oberon_past.specs.declared.found.Found.{Found}
use Rattle.oberon_past.specs.declared.found.Which.{Which}
use Rattle.oberon_past.specs.Past.{PastParts}
use Rattle.oberon_past.specs.Search.{AreFound, IsFound}
use Rattle.galluspa.specs.declared.conditions.RawCondition.{RawCondition}
use Rattle.galluspa.specs.Ranges.{IsQuestion}
use Rattle.galluspa.specs.Conditions.{AreClauses, AreConditions}

-- the hit that a caller's number wants: the first if it is 0, and else the last
abbrev pub which_of : ℕ → Which
which_of wanted = if wanted == 0 then Which.First else Which.Last

-- what is asked about a range of any past is in its range, with at most 64 conditions
pub record IsSearch (raws : List RawCondition) (from to budget : ℕ) : Type 0 where
  pub conditions : AreConditions raws
  pub few : length raws ≤ MAX_CONDITIONS
  pub question : IsQuestion from to budget

-- the answer to a caller's question about one hit
pub record HasFound (raws : List RawCondition) (wanted from to : ℕ) (found : Found) (p : PastParts) : Type 0 where
  pub conditions : List Clause
  pub are_conditions : AreClauses raws conditions
  pub is_found : IsFound p.run p.end conditions (which_of wanted) from to found

-- the answer to a caller's question about all hits, if there is room for `room` of them
pub record HaveFound (raws : List RawCondition) (from to room : ℕ) (found : AllFound) (p : PastParts) : Type 0 where
  pub conditions : List Clause
  pub are_conditions : AreClauses raws conditions
  pub are_found : AreFound p.run p.end conditions from to room found

-- the same with the hits, and the count to go on from, as they are written to the caller
pub record HaveWritten (raws : List RawCondition) (from to room : ℕ) (of_hits : Hits → AllFound) (list : List Hit) (next : ℕ)
    (p : PastParts) : Type 0 where
  pub hits : Hits
  pub have_found : HaveFound raws from to room (of_hits hits) p
  pub list_is : list ≡ hits.list.items
  pub next_is : next ≡ hits.next
