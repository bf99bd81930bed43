-- The changes from one table of page ids to another (this project's own choice).
use Rattle.std.specs.Prelude.{ℕ, zero, suc, ◌==◌, if◌then◌else◌, List, [], ◌∷◌, ◌++◌, slice_index}
use Rattle.oberon_format.specs.declared.change.Change.{Change}
use Rattle.risc_pages.specs.declared.sizes.TheConstants.{PAGE_SLOTS}

-- the slots below n in which two tables differ, in rising order, each with its page id in the second table
unfoldable pub changes_below : ℕ → List ℕ → List ℕ → List Change
changes_below zero before table = []
changes_below (suc p) before table =
    changes_below p before table
    ++ (if slice_index before p == slice_index table p then [] else record { slot = p; page_id = slice_index table p } ∷ [])

-- the changes from one table to another
abbrev pub changes : List ℕ → List ℕ → List Change
changes before table = changes_below PAGE_SLOTS before table

-- the default where there is no change
abbrev pub no_change : Change
no_change = record { slot = 0; page_id = 0 }

-- the page id in slot p after the first n changes of a table, whose page ids were `before`
unfoldable pub page_id_after : (ℕ → Change) → (ℕ → ℕ) → ℕ → ℕ → ℕ
page_id_after change before zero p = before p
page_id_after change before (suc n) p = if (change n).slot == p then (change n).page_id else page_id_after change before n p
