-- The past of a run behind a handle of a caller, and what it answers (this project's own choice).
use Rattle.std.specs.Prelude.{ℕ, ◌≡◌, ◌⊎◌, ◌<◌, ◌≤◌, ◌==◌, ◌^◌, List, Option, None, Some, [], if◌then◌else◌, length, map, take}
use Rattle.risc_pages.specs.Delta.{changed_below}
use Rattle.risc_pages.specs.Pages.{page_at}
use Rattle.oberon_format.specs.Recording.{RecordingParts}
use Rattle.oberon_format.specs.Text.{TextWithDisk}
use Rattle.oberon_past.specs.declared.extent.Extent.{Extent}
use Rattle.oberon_past.specs.Past.{IsOf, IsOpened, IsSpaced, PastParts}
use Rattle.oberon_past.specs.Run.{Run, state_at, words_at}
use Rattle.galluspa.specs.declared.claims.RawPage.{RawPage}
use Rattle.galluspa.specs.declared.past.RawExtent.{RawExtent}
use Rattle.galluspa.specs.declared.moments.TheConstants.{NO_COUNT}
use Rattle.galluspa.specs.declared.raw.RawState.{RawState}
use Rattle.galluspa.specs.declared.sealed.RawPast.{RawPast}
use Rattle.galluspa.specs.Raw.{AreDevices, IsCpu, IsPadded, state_of}

-- ---- handles

-- no past is open
abbrev pub IsClosed : RawPast → Type 0
IsClosed handle = handle.is_open ≡ 0

-- the past that is open is such a past
pub record Holds (Is : PastParts → Type 0) (handle : RawPast) : Type 0 where
  pub past : PastParts
  pub holds : handle.sealed.past ≡ Some past
  pub is : Is past

-- a call leaves the past that is open as it is, if there is one
abbrev pub Keeps : RawPast → RawPast → Type 0
Keeps old new = new.sealed.past ≡ old.sealed.past

-- a past is open before a call, and one after it, in the same handle or in another, and the two are related so
pub record HoldsBoth (Are : PastParts → PastParts → Type 0) (old new : RawPast) : Type 0 where
  pub before : PastParts
  pub after : PastParts
  pub held : old.sealed.past ≡ Some before
  pub holds : new.sealed.past ≡ Some after
  pub are : Are before after

-- ---- pasts that are opened

-- how many instructions may be between two keyframes: at least 65,536, or 0, which stands for 1,048,576
abbrev pub IsSpacing : ℕ → Type 0
IsSpacing spacing = (spacing ≡ 0) ⊎ (2 ^ 16 ≤ spacing)

abbrev pub spacing_of : ℕ → ℕ
spacing_of spacing = if spacing == 0 then 2 ^ 20 else spacing

-- the bytes are a recording, and its past is open, with its first keyframe alone
pub record HasOpened (text : List ℕ) (spacing : ℕ) (handle : RawPast) : Type 0 where
  pub recording : RecordingParts
  pub is_text : TextWithDisk text recording
  pub past : PastParts
  pub holds : handle.sealed.past ≡ Some past
  pub opened : IsOpened recording past
  pub spaced : IsSpaced (spacing_of spacing) past

-- the past of a machine is open that begins with this state, has no inputs, and ends at its count
pub record HasBegun (state : RawState) (words : List ℕ) (spacing : ℕ) (handle : RawPast) : Type 0 where
  pub past : PastParts
  pub holds : handle.sealed.past ≡ Some past
  pub begun : IsOf (record { start = state.count; first = state_of state words; inputs = [] }) state.count past
  pub spaced : IsSpaced (spacing_of spacing) past

-- what a past says of itself
abbrev pub extent_of : RawExtent → Extent
extent_of e = record { first = e.first; end = e.end; reached = e.reached; keyframes = e.keyframes; pages = e.pages; inputs = e.inputs }

-- ---- the states of a past

-- the count whose memory a caller has, if there is one
abbrev pub from_of : ℕ → Option ℕ
from_of from = if from == NO_COUNT then None else Some from

-- the slots of the pages in which the memory at a count differs from that at the count `from`, without one from zeros
abbrev pub changed_slots : Run → ℕ → Option ℕ → List ℕ
changed_slots run n from = changed_below 1024 (words_at run from) (state_at run n).words

-- the state at a count, each number in its range, and at the front of the pages those that differ, each with its slot
pub record HasMoment (run : Run) (n : ℕ) (from : Option ℕ) (state : RawState) (slots : List ℕ) (pages : List RawPage) (count : ℕ)
    : Type 0 where
  pub count_is : state.count ≡ n
  pub state_is : state_of state (state_at run n).words ≡ state_at run n
  pub range : IsCpu state × AreDevices state × IsPadded state
  pub slots_are : take count slots ≡ changed_slots run n from
  pub pages_are : map (λ (page : RawPage). page.words) (take count pages) ≡ map (page_at (state_at run n).words) (changed_slots run n from)

-- so many pages differ, for which there is too little room
pub record NeedsPages (run : Run) (n : ℕ) (from : Option ℕ) (room needed : ℕ) : Type 0 where
  pub needed_is : needed ≡ length (changed_slots run n from)
  pub short : room < needed
