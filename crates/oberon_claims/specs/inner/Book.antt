-- The invariant of the claim book: what is true of the two words and of all seats' views between any two atomic steps.
use Rattle.std.specs.Prelude.{◌≡◌, ◌⊎◌, ℕ, ◌+◌, ◌<◌, ◌≤◌, List, [], ◌∷◌, length, slice_index, min}
use mathlib.Core.Option.{some}
use lib.ListN.{get_elem?}
use Rattle.atomic_table.specs.Table.{State}
use Rattle.oberon_claims.specs.Counts.{times, once_below}
use Rattle.oberon_claims.specs.declared.book.View.{View}
use Rattle.oberon_claims.specs.declared.book.Plan.{Plan}
use Rattle.oberon_claims.specs.declared.claims.TheConstants.{MAX_JOBS, MAX_WORKERS}

-- the sum of f over all seats
abbrev pub total : (View → ℕ) → List View → ℕ
total f [] = 0
total f (v ∷ vs) = f v + total f vs

-- how often all seats together took job x
abbrev pub times_taken : ℕ → List View → ℕ
times_taken x views = total (λ v. times x v.taken) views

-- how often all seats together reported x
abbrev pub times_reported : ℕ → List View → ℕ
times_reported x views = total (λ v. times x v.reported) views

-- how often all seats together were shown x
abbrev pub times_shown : ℕ → List View → ℕ
times_shown x views = total (λ v. times x v.shown) views

-- how many jobs all seats together took
abbrev pub number_taken : List View → ℕ
number_taken views = total (λ v. length v.taken) views

-- how many claims of all seats together found no job left
abbrev pub sum_of_ends : List View → ℕ
sum_of_ends views = total (λ v. v.ends) views

-- how many passes all seats together represent
abbrev pub sum_of_passes : List View → ℕ
sum_of_passes views = total (λ v. v.passes) views

-- the value of `least` while no segment is reported: 2^32, which is above every segment
abbrev pub nothing : ℕ
nothing = 4294967296

-- what is true of each seat
pub record IsSeat (v : View) : Type 0 where
  -- each pass makes at most one claim past the end, so `next` cannot wrap
  pub ends_within : v.ends ≤ v.passes
  -- a seat that represents no pass has empty lists, so a seat that represents all passes has everything
  pub idle_taken : v.passes ≡ 0 → v.taken ≡ []
  pub idle_reported : v.passes ≡ 0 → v.reported ≡ []
  pub idle_shown : v.passes ≡ 0 → v.shown ≡ []

-- a book of `jobs` jobs and `workers` passes is legal, if its words are `next` and `least` and its seats have these views
pub record IsLegal (jobs workers next least : ℕ) (views : List View) : Type 0 where
  -- the numbers are small, so `next` cannot wrap
  pub few_jobs : jobs ≤ MAX_JOBS
  pub few_workers : workers ≤ MAX_WORKERS
  -- each job below `next` was taken once, and no other number was: no job is lost, and none is taken twice
  pub each_once : (x : ℕ) → times_taken x views ≡ once_below x (min next jobs)
  -- `next` is the number of claims, so if one found no job left, all jobs are taken
  pub next_is : next ≡ number_taken views + sum_of_ends views
  -- each pass is represented once
  pub passes_are : sum_of_passes views ≡ workers
  pub seats : (id : ℕ) (v : View) → get_elem? views id ≡ some v → IsSeat v
  -- `least` is at most each segment reported, and each segment is below 2^32
  pub reported_above : (x : ℕ) → 0 < times_reported x views → (least ≤ x) × (x < nothing)
  -- `least` was reported, or is the value for none: nobody is shown a segment that no seat reported
  pub least_reported : (least ≡ nothing) ⊎ (0 < times_reported least views)
  -- each value shown was reported, so it is not below `least`
  pub shown_reported : (x : ℕ) → 0 < times_shown x views → 0 < times_reported x views

-- the invariant of the table: it has two words, `next` and `least`, which with all views are a legal book
abbrev pub Kept : Plan → State ℕ View → Type 0
Kept plan s = (length s.words ≡ 2) × IsLegal plan.jobs plan.workers (slice_index s.words 0) (slice_index s.words 1) s.views

-- the view of the book's own seat while it represents n passes: its lists are empty
abbrev pub own_view : Plan → ℕ → View
own_view plan n = record { jobs = plan.jobs; workers = plan.workers; taken = []; reported = []; shown = []; ends = 0; passes = n }

-- the view of the book's own seat at the start, when it is the only seat and represents all passes
abbrev pub own_seat : Plan → View
own_seat plan = own_view plan plan.workers
