-- All counts of a range at which a condition holds, in order.
use Rattle.std.specs.Prelude.{ℕ, ◌≡◌, ◌<◌, ◌≤◌, ◌+◌, List, [], ◌∷◌, length}
use Rattle.risc_model.specs.declared.event.Event.{Event}
use Rattle.risc_model.specs.MachineState.{State}
use Rattle.risc_search.specs.declared.condition.Clause.{Clause}
use Rattle.risc_search.specs.declared.hit.Hit.{Hit}
use Rattle.risc_search.specs.Search.{IsHit, NoneIn}

-- the hits from the count `low` up to, but not including, `high`, in a run from the count `from`: the first hit, and then the hits
-- after it; or there is none
abbrev pub AreHits : List Clause → List Event → ℕ → State → ℕ → ℕ → List Hit → Type 0
AreHits conditions es from s low high [] = NoneIn conditions es from s low high
AreHits conditions es from s low high (hit ∷ rest) =
    (low ≤ hit.count) × IsHit conditions es from high s hit × NoneIn conditions es from s low hit.count
    × AreHits conditions es from s (hit.count + 1) high rest

-- the last hit of a list is at the count before this one
abbrev pub EndsAt : List Hit → ℕ → Type 0
EndsAt [] next = ⊥
EndsAt (hit ∷ []) next = hit.count + 1 ≡ next
EndsAt (hit ∷ second ∷ rest) next = EndsAt (second ∷ rest) next

-- a condition holds at a count of the range: the list has to have room for it
abbrev pub HasHit : List Clause → List Event → ℕ → ℕ → State → Type 0
HasHit conditions es from to s = (hit : Hit) × IsHit conditions es from to s hit

-- the answer of a search for all hits, if there is room for `room` of them: the hits up to, but not including, the count `next`. A full
-- list ends the search, so `next` is the count after its last hit, even if no more hits follow; else it is the end of the range
pub record AreFirstHits (conditions : List Clause) (es : List Event) (from to : ℕ) (s : State) (room : ℕ) (hits : List Hit)
    (next : ℕ) : Type 0 where
  pub hits_are : AreHits conditions es from s from next hits
  pub fits : length hits ≤ room
  pub inside : (from ≤ next) × (next ≤ to)
  pub full : length hits ≡ room → EndsAt hits next
  pub whole : length hits < room → next ≡ to
