-- The page slots of a memory over a pool, and of the same memory without it.
use Rattle.std.proofs.Common.{◌≡◌, ℕ, suc, ◌+◌, ◌*◌, ◌<◌, List, [], ◌∷◌, ◌++◌, length, length-append, get_or, map, refl, ap, sym, subst, ◌∙◌, arith, take, drop}
use Rattle.std.specs.List.{flat_map}
use borrow.Author.Count.{below_more}
use Rattle.std.proofs.lemmas.List.{get_or_append_left}
use Rattle.std.proofs.Math.Seq.{get_or-append_seam}
use Rattle.risc_pages.proofs.Paging.{flat_map-same, take-drop-pages}
use Rattle.risc_pages.proofs.PoolLemmas.{page_at-table_words}
use Rattle.risc_pages.specs.Contents.{Contents}
use Rattle.risc_pages.specs.Pages.{ArePages, page_at, page_of}
use Rattle.risc_pages.specs.Tables.{IsNamed, table_words}
use Rattle.risc_pages.specs.declared.detached.DetachedSlot.{DetachedSlot}
use Rattle.risc_pages.specs.declared.detached.DetachedSlot.TheVariants.{Shared, Owned}
use Rattle.risc_pages.specs.declared.slot.Began.{Began}
use Rattle.risc_pages.specs.declared.slot.Slot.{Slot}
use Rattle.risc_pages.specs.inner.Detached.{IsSameSlot, detached_base, detached_content, detached_contents, is_detached_owned}
use Rattle.risc_pages.specs.inner.Slots.{base_of, content, contents_of, is_owned}

-- what holds of each element of a list by its index, with one element more
pub each_more : {X : Type 0} (P : ℕ → X → Type 0) (xs : List X) (x : X) → ((k : ℕ) (d : X) → k < length xs → P k (get_or xs k d)) → P (length xs) x → (k : ℕ) (d : X) → k < length xs + 1 → P k (get_or (xs ++ x ∷ []) k d)
each_more P xs x before here k d h =
    below_more (λ (j : ℕ). P j (get_or (xs ++ x ∷ []) j d)) (length xs)
    (λ j l. subst (P j) (sym (get_or_append_left xs (x ∷ []) d j l)) (before j d l))
    (subst (P (length xs)) (sym (get_or-append_seam xs x [] d)) here) k h

pub nothing_left : {X : Type 0} (l : List X) → length l ≡ 0 → l ≡ []
nothing_left [] h = refl
nothing_left (x ∷ xs) h = absurd (omega arith)

-- the element at which a list is split
pub at_split : {X : Type 0} (all before rest : List X) (x e : X) → before ++ x ∷ rest ≡ all → get_or all (length before) e ≡ x
at_split {X} all before rest x e split = ap (λ (l : List X). get_or l (length before) e) (sym split) ∙ get_or-append_seam before x rest e

-- lists of the same length whose elements have the same image have the same images
pub map-same : {X Y Z : Type 0} (f : X → Z) (g : Y → Z) (xs : List X) (ys : List Y) → length xs ≡ length ys → ((k : ℕ) (d : X) (e : Y) → k < length xs → f (get_or xs k d) ≡ g (get_or ys k e)) → map f xs ≡ map g ys
map-same f g [] [] long same = refl
map-same f g [] (y ∷ ys) long same = absurd (omega arith)
map-same f g (x ∷ xs) [] long same = absurd (omega arith)
map-same {Z = Z} f g (x ∷ xs) (y ∷ ys) long same =
    let first : f x ≡ g y = same 0 x y (omega arith) in
    let rest : map f xs ≡ map g ys = map-same f g xs ys (omega arith) (λ k d e h. same (suc k) d e (omega arith)) in
    ap (λ (z : Z). z ∷ map f xs) first ∙ ap (λ (l : List Z). g y ∷ l) rest

-- there are fewer elements before one than in all
pub before_split : {X : Type 0} (all before rest : List X) (x : X) → before ++ x ∷ rest ≡ all → length before < length all
before_split all before rest x split =
    let long = length-append before (x ∷ rest) in
    let same = ap length split in
    omega arith

-- slots that are the same one by one, with the pages that they began with
abbrev pub AreSame : List Slot → List Began → List DetachedSlot → Type 0
AreSame slots bases detached = (k : ℕ) (d : Slot) (b : Began) (e : DetachedSlot) → k < length slots → IsSameSlot (get_or slots k d) (base_of (get_or bases k b)) (get_or detached k e)

bases-same : (slots : List Slot) (bases : List Began) (detached : List DetachedSlot) → length slots ≡ length detached → length bases ≡ length detached → AreSame slots bases detached → flat_map base_of bases ≡ flat_map detached_base detached
bases-same [] bases detached long many same = flat_map-same base_of detached_base bases detached many (λ k b e h. absurd (omega arith))
bases-same (s ∷ slots) bases detached long many same = flat_map-same base_of detached_base bases detached many (λ k b e h. (same k s b e (omega arith)).base_is)

-- they are those of the same memory
pub contents-same : (slots : List Slot) (bases : List Began) (detached : List DetachedSlot) → length slots ≡ length detached → length bases ≡ length detached → AreSame slots bases detached → contents_of slots bases ≡ detached_contents detached
contents-same slots [] detached long many same = λ i. record {
  words = flat_map-same content detached_content slots detached long (λ k d e h. absurd (omega arith)) i;
  owned = map-same is_owned is_detached_owned slots detached long (λ k d e h. absurd (omega arith)) i;
  base = bases-same slots [] detached long many same i;
}
contents-same slots (b ∷ bases) detached long many same = λ i. record {
  words = flat_map-same content detached_content slots detached long (λ k d e h. (same k d b e h).content_is) i;
  owned = map-same is_owned is_detached_owned slots detached long (λ k d e h. (same k d b e h).owned_is) i;
  base = bases-same slots (b ∷ bases) detached long many same i;
}

pub length-detached_base : (slot : DetachedSlot) → length (detached_base slot) ≡ 256
length-detached_base (Shared page) = page.value.whole
length-detached_base (Owned own base) = base.value.whole

page_at-detached_base : (slots : List DetachedSlot) (words : List ℕ) (p : ℕ) (d : DetachedSlot) → flat_map detached_base slots ≡ words → p < length slots → page_at words p ≡ detached_base (get_or slots p d)
unfolding page_at
page_at-detached_base slots words p d view h =
    ap (λ (z : List ℕ). take 256 (drop (256 * p) z)) (sym view)
    ∙ take-drop-pages detached_base 256 slots p (256 * p) d (λ k e l. length-detached_base (get_or slots k e)) h refl

-- over a table of the words that the memory began with, each slot began with the page that the table names
pub base-named : (slots : List DetachedSlot) (m : Contents) (pool : List (List ℕ)) (numbers : List ℕ) (p : ℕ) (d : DetachedSlot) (e : ℕ) → detached_contents slots ≡ m → ArePages pool → IsNamed pool numbers → table_words pool numbers ≡ m.base → p < length slots → p < length numbers → detached_base (get_or slots p d) ≡ page_of pool (get_or numbers p e)
base-named slots m pool numbers p d e view pages named base h l =
    sym (page_at-detached_base slots m.base p d (ap (λ (c : Contents). c.base) view) h)
    ∙ ap (λ (z : List ℕ). page_at z p) (sym base)
    ∙ page_at-table_words pool numbers p e pages named l
