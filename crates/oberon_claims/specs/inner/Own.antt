-- The book's own seat, while the book keeps it.
use Rattle.std.specs.Prelude.{◌≡◌, ℕ, List, [], ◌∷◌}
use mathlib.Core.Option.{some}
use Rattle.atomic_table.specs.Table.{State}
use Rattle.atomic_table.specs.Seated.{TableId}
use Rattle.atomic_table.specs.declared.badge.Badge.{Badge}
use Rattle.std.specs.declared.snapshot.Snapshot.{Snapshot}
use Rattle.oberon_claims.specs.declared.book.View.{View}

-- the table whose seat it is, and a list of one: the seat's view
pub record OwnRecord : Type 0 where
  pub table : TableId
  pub views : List View

-- the small table has one slot, which is not taken out and holds the badge that the table was made with
abbrev pub IsAtHome : Snapshot (Badge View) → State (Badge View) ℕ → Type 0
IsAtHome badge s = s.homes ≡ some badge.value ∷ []

-- no step is made on the small table, so the view of its seat is a constant
abbrev pub no_view : Snapshot (Badge View) → ℕ
no_view badge = 0
