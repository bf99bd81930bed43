-- The page slots of a memory without its pool (this project's own choice).
use Rattle.std.specs.Prelude.{ℕ, ◌≡◌, List, Bool, true, false, map}
use Rattle.std.specs.List.{flat_map}
use Rattle.risc_pages.specs.declared.detached.DetachedSlot.{DetachedSlot}
use Rattle.risc_pages.specs.declared.detached.DetachedSlot.TheVariants.{Shared, Owned}
use Rattle.risc_pages.specs.declared.slot.Slot.{Slot}
use Rattle.risc_pages.specs.inner.Slots.{content, is_owned}
use Rattle.risc_pages.specs.Contents.{Contents}

-- the words of the page in a slot
abbrev pub detached_content : DetachedSlot → List ℕ
detached_content (Shared page) = page.value.words
detached_content (Owned own base) = own.value.words

-- the words of the page that the slot began with
abbrev pub detached_base : DetachedSlot → List ℕ
detached_base (Shared page) = page.value.words
detached_base (Owned own base) = base.value.words

-- whether a slot has a private page
abbrev pub is_detached_owned : DetachedSlot → Bool
is_detached_owned (Shared page) = false
is_detached_owned (Owned own base) = true

-- the content of these slots
abbrev pub detached_contents : List DetachedSlot → Contents
detached_contents slots = record {
  words = flat_map detached_content slots;
  owned = map is_detached_owned slots;
  base = flat_map detached_base slots;
}

-- a slot over a pool, which began with a page of these words, and one without have the same page, began with the same one, and both have a
-- private page or neither
pub record IsSameSlot (slot : Slot) (base : List ℕ) (detached : DetachedSlot) : Type 0 where
  pub content_is : content slot ≡ detached_content detached
  pub base_is : base ≡ detached_base detached
  pub owned_is : is_owned slot ≡ is_detached_owned detached
