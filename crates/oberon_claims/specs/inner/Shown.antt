-- How contracts see a pass and a book, and what is true of their insides.
use Rattle.std.specs.Prelude.{◌≡◌, ◌≤◌, [], ◌∷◌, if◌then◌else◌}
use Rattle.oberon_claims.specs.declared.claims.Claims.TheInside.{Inside as Book}
use Rattle.oberon_claims.specs.declared.claims.TheConstants.{MAX_WORKERS}
use Rattle.oberon_claims.specs.declared.pass.Pass.TheInside.{Inside as Ticket}
use Rattle.oberon_claims.specs.Pass.{BookId, PassRecord}
use Rattle.oberon_claims.specs.inner.Book.{own_view}

-- the record that the seat of a pass holds
abbrev pub shown_pass : Ticket → PassRecord
shown_pass p = record {
  book = record { table = p.seat.table_id; jobs = p.seat.me.0.jobs; workers = p.seat.me.0.workers };
  taken = p.seat.me.0.taken;
  reported = p.seat.me.0.reported;
  shown = p.seat.me.0.shown;
  ended = p.answered_none;
}

-- a pass holds no slot, represents itself, and has made one claim past the end if its mark is set, and none otherwise
abbrev pub IsTicket : Ticket → Type 0
IsTicket p =
    (p.seat.me.1 ≡ []) × (p.seat.me.0.passes ≡ 1) × (p.seat.me.0.ends ≡ (if p.answered_none then 1 else 0))

-- the identity of a book
abbrev pub shown_book : Book → BookId
shown_book c = record { table = c.table.shared.table_id; jobs = c.jobs; workers = c.table.shared.key.workers }

-- the table of a book has two words and no slot, and its own seat represents no pass
abbrev pub IsBook : Book → Type 0
IsBook c =
    (c.table.shared.key.jobs ≡ c.jobs)
    × (c.table.shared.table_id.words ≡ 2)
    × (c.table.shared.table_id.slots ≡ 0)
    × (c.own.table ≡ c.table.shared.table_id)
    × (c.own.views ≡ own_view c.table.shared.key 0 ∷ [])
    × (1 ≤ c.table.shared.key.workers)
    × (c.table.shared.key.workers ≤ MAX_WORKERS)
