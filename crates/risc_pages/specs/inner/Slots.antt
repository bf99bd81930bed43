-- The page slots of a memory (this project's own choice).
use Rattle.std.specs.Prelude.{ℕ, ◌≡◌, ◌<◌, List, Bool, true, false, get_or, length, map, slice_set}
use Rattle.std.specs.List.{flat_map}
use Rattle.risc_pages.specs.declared.sizes.TheConstants.{PAGE_SLOTS}
use Rattle.risc_pages.specs.declared.slot.Began.{Began}
use Rattle.risc_pages.specs.declared.slot.Slot.{Slot}
use Rattle.risc_pages.specs.declared.slot.Slot.TheVariants.{Blank, Shared, Owned}
use Rattle.risc_pages.specs.Contents.{Contents}
use Rattle.risc_pages.specs.declared.page.Page.{Page}

-- the words of the page in a slot
abbrev pub content : Slot → List ℕ
content (Blank blank) = blank.now.page.words
content (Shared page) = page.now.words
content (Owned own) = own.value.words

-- the words of the page that a slot began with
abbrev pub base_of : Began → List ℕ
base_of began = began.page.now.words

-- whether a slot has a private page
abbrev pub is_owned : Slot → Bool
is_owned (Blank blank) = false
is_owned (Shared page) = false
is_owned (Owned own) = true

-- the content of these slots, which began with these pages
abbrev pub contents_of : List Slot → List Began → Contents
contents_of slots bases = record { words = flat_map content slots; owned = map is_owned slots; base = flat_map base_of bases }

-- the slots of a memory, and the pages that they began with: without a private page, a slot has the page that it began with
pub record AreBased (slots : List Slot) (bases : List Began) : Type 0 where
  pub count : length slots ≡ PAGE_SLOTS
  pub bases_count : length bases ≡ PAGE_SLOTS
  pub based : (k : ℕ) (d : Slot) (e : Began) → k < PAGE_SLOTS → is_owned (get_or slots k d) ≡ false → content (get_or slots k d) ≡ base_of (get_or bases k e)

-- one slot has a private page with these words
pub record TakesCopy (old new : List Slot) (slot : ℕ) (words : List ℕ) : Type 0 where
  pub own : Slot
  pub items : new ≡ slice_set old slot own
  pub owned : is_owned own ≡ true
  pub content_is : content own ≡ words

-- the words of a page
abbrev pub words_of : Page → List ℕ
words_of page = page.words
