-- The five kinds of step: how each changes the view of the seat that makes it, and what it returns.
use Rattle.std.specs.Prelude.{◌≡◌, ℕ, ◌+◌, ◌-◌, ◌<◌, ◌≤◌, [], ◌∷◌, ◌++◌, All}
use Rattle.atomic_table.specs.Table.{Me, Step}
use Rattle.oberon_claims.specs.inner.Book.{nothing}
use Rattle.oberon_claims.specs.declared.book.View.{View}

-- the view after a job is taken
abbrev pub view_with_job : View → ℕ → View
view_with_job v job = record v { taken = v.taken ++ job ∷ [] }

-- the view after a claim that found no job left
abbrev pub view_with_end : View → View
view_with_end v = record v { ends = v.ends + 1 }

-- the view after a segment is reported
abbrev pub view_with_reported : View → ℕ → View
view_with_reported v segment = record v { reported = v.reported ++ segment ∷ [] }

-- the view after a segment is shown
abbrev pub view_with_shown : View → ℕ → View
view_with_shown v segment = record v { shown = v.shown ++ segment ∷ [] }

-- take, a fetch_add of 1 on `next`. If the old value is a job, it is appended to the jobs taken, and is above all that the seat
-- took before. If it is `jobs` or more, no job was left
abbrev pub Takes : Step ℕ → Me ℕ View → ℕ → Me ℕ View → Type 0
Takes st m found m' =
    (m'.1 ≡ m.1)
    × (found < m.0.jobs → (m'.0 ≡ view_with_job m.0 found) × All (λ x. x < found) m.0.taken)
    × (m.0.jobs ≤ found → m'.0 ≡ view_with_end m.0)

-- look, a load of `least`. A segment found is appended to the values shown, and is at most each that the seat reported or was
-- shown before. If there is none, the seat has reported nothing and was shown nothing
abbrev pub Looks : Step ℕ → Me ℕ View → ℕ → Me ℕ View → Type 0
Looks st m found m' =
    (m'.1 ≡ m.1)
    × (found < nothing → (m'.0 ≡ view_with_shown m.0 found) × All (λ x. found ≤ x) m.0.reported × All (λ x. found ≤ x) m.0.shown)
    × (nothing ≤ found → (m'.0 ≡ m.0) × (m.0.reported ≡ []) × (m.0.shown ≡ []))

-- tell, a fetch_min on `least`. The segment is appended to those reported
abbrev pub Tells : Step ℕ → Me ℕ View → ℕ → Me ℕ View → Type 0
Tells st m found m' = (m'.1 ≡ m.1) × (m'.0 ≡ view_with_reported m.0 st.first)

-- split, a load of `next`: the seat that is split represents one pass less ..
abbrev pub view_with_one_less : View → View
view_with_one_less v = record v { passes = v.passes - 1 }

-- .. and the new seat, whose lists are empty, represents one
abbrev pub fresh_view : View → View
fresh_view v = record { jobs = v.jobs; workers = v.workers; taken = []; reported = []; shown = []; ends = 0; passes = 1 }

-- join, a load of `next`: the lists and numbers of the other seat are added to the first ..
abbrev pub joined_view : View → View → View
joined_view v w = record v {
  taken = v.taken ++ w.taken;
  reported = v.reported ++ w.reported;
  shown = v.shown ++ w.shown;
  ends = v.ends + w.ends;
  passes = v.passes + w.passes;
}

-- .. and the other becomes empty
abbrev pub spent_view : View
spent_view = record { jobs = 0; workers = 0; taken = []; reported = []; shown = []; ends = 0; passes = 0 }
