-- Laws of the definitions: what storing a memory does to the pool and the table, that any bytes have one answer, and how long a piece
-- of the recorder's run is.
use Rattle.std.specs.Prelude.{ℕ, ◌≡◌, ◌≢◌, ◌+◌, ◌<◌, true, false, List, ◌++◌, All, Some, Result, Ok, Err, length, slice_index}
use Rattle.std.specs.List.Sorted.{IsStrictlyIncreasing}
use Rattle.risc_pages.specs.Tables.{IsNamed, table_words}
use Rattle.risc_pages.specs.Pages.{ArePages, page_at}
use Rattle.oberon_session.specs.Digits.{PlacedWords}
use Rattle.oberon_session.specs.Stored.{Stored, is_blank, store, new_pages}
use Rattle.oberon_session.specs.Recorded.{numbered}
use Rattle.oberon_session.specs.Rules.{first_fault_up_to}
use Rattle.oberon_session.specs.Session.{IsSession, IsSessionUpTo, IsSessionWithDisk}
use Rattle.oberon_session.specs.SessionParts.{IsPlain, SessionParts, slots_in}
use Rattle.oberon_session.specs.declared.fault.SessionFault.{SessionFault}
use Rattle.oberon_session.specs.declared.running.TheConstants.{PIECE}

-- the table names pages of the pool, one for each slot
pub record IsTableOf (stored : Stored) : Type 0 where
  pub count : length stored.table ≡ 1024
  pub named : IsNamed stored.pool stored.table

-- a memory was stored after an earlier one
pub record IsStoredAfter (earlier words : List ℕ) (old new : Stored) : Type 0 where
  -- the new pages are added to the pool, and nothing else changes there
  pub pool : new.pool ≡ old.pool ++ new_pages earlier words
  -- a slot that did not change keeps its page id
  pub kept : (p : ℕ) → p < 1024 → page_at words p ≡ page_at earlier p → slice_index new.table p ≡ slice_index old.table p
  -- one that changed to zeros has page id 0
  pub zeros : (p : ℕ) → p < 1024 → page_at words p ≢ page_at earlier p → is_blank (page_at words p) ≡ true
      → slice_index new.table p ≡ 0
  -- any other that changed has the id of a new page
  pub fresh : (p : ℕ) → p < 1024 → page_at words p ≢ page_at earlier p → is_blank (page_at words p) ≡ false
      → length old.pool < slice_index new.table p
  -- and the memory is the content of the new table over the new pool
  pub content : table_words new.pool new.table ≡ words

-- this holds for any memory that is stored after an earlier one
abbrev pub StoredLaw : Type 0
StoredLaw =
    (earlier words : List ℕ) (old : Stored) → IsTableOf old → ArePages old.pool → table_words old.pool old.table ≡ earlier
    → length words ≡ 262144 → IsStoredAfter earlier words old (store earlier words old)

-- in a session's first table the slot of page i has page id i + 1, and each slot without a page has page id 0
pub record IsFirstTable (pages : List PlacedWords) (table : List ℕ) : Type 0 where
  pub pages_named : (i : ℕ) → i < length pages → slice_index table (slice_index (slots_in pages) i) ≡ i + 1
  pub others_zero : (p : ℕ) → All (λ slot. slot ≢ p) (slots_in pages) → slice_index table p ≡ 0

abbrev pub FirstTableLaw : Type 0
FirstTableLaw =
    (pages : List PlacedWords) → IsStrictlyIncreasing (slots_in pages) → All (λ slot. slot < 1024) (slots_in pages)
    → IsFirstTable pages (numbered pages (length pages))

-- the answer to bytes, if memory suffices: their session, or the fault of the first rule that they break
abbrev pub IsAnswer : ℕ → List ℕ → Result SessionParts SessionFault → Type 0
IsAnswer newest bytes (Ok session) = IsSessionUpTo newest bytes session
IsAnswer newest bytes (Err fault) = first_fault_up_to newest bytes ≡ Some fault

-- any bytes have exactly one answer, without a disk (newest version 2) and with it (3)
abbrev pub OneAnswer : Type 0
OneAnswer =
    (newest : ℕ) (bytes : List ℕ)
    → (answer : Result SessionParts SessionFault) × IsAnswer newest bytes answer
    × ((other : Result SessionParts SessionFault) → IsAnswer newest bytes other → other ≡ answer)

-- bytes that encode a session without a disk encode the same one with it, and it is one of a machine without a disk
abbrev pub PlainLaw : Type 0
PlainLaw = (bytes : List ℕ) (session : SessionParts) → IsSession bytes session → IsSessionWithDisk bytes session × IsPlain session

-- the most steps of a piece by value, so that a mistyped number cannot change a contract unnoticed (this project's own choice)
abbrev pub HasPiece : Type 0
HasPiece = PIECE ≡ 1048576
