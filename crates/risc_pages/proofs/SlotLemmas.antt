-- The page slots of a memory, and what they hold.
use Rattle.std.proofs.Common.{◌≡◌, inl, inr, ℕ, ◌*◌, ◌/◌, ◌%◌, ◌<◌, ◌^◌, List, [], ◌∷◌, Bool, true, false, length, get_or, get_or-set_other, length-set, set, map, refl, ap, sym, subst, ◌∙◌, arith, take, drop, Option, Some}
use Rattle.std.specs.List.{All, flat_map, slice_get}
use Rattle.std.specs.Option.{option_map}
use Rattle.std.proofs.lemmas.List.{length-map, map-set, set-get_or, set-set}
use Rattle.std.proofs.lemmas.Bool.{cases_eq}
use Rattle.std.proofs.lemmas.Grind.{get_or-set_at}
use Rattle.std.proofs.lemmas.Option.{slice_get-map, slice_get_read}
use Rattle.risc_pages.proofs.Paging.{All-pages, flat_map-set, get_or-pages, length-pages, take-drop-pages}
use Rattle.risc_pages.specs.Tables.{IsContent}
use Rattle.risc_pages.specs.Contents.{Contents, IsMemory}
use Rattle.risc_pages.specs.declared.slot.Began.{Began}
use Rattle.risc_pages.specs.declared.slot.Slot.{Slot}
use Rattle.risc_pages.specs.declared.slot.Slot.TheVariants.{Blank, Shared, Owned}
use Rattle.risc_pages.specs.Pages.{page_at, page_of}
use Rattle.risc_pages.specs.inner.Slots.{base_of, content, contents_of, is_owned, AreBased, TakesCopy}

pub length-content : (p : Slot) → length (content p) ≡ 256
length-content (Blank blank) = blank.now.page.whole
length-content (Shared page) = page.now.whole
length-content (Owned own) = own.value.whole

pub length-base_of : (b : Began) → length (base_of b) ≡ 256
length-base_of b = b.page.now.whole

fit-content : (p : Slot) → All (λ w. w < 2 ^ 32) (content p)
fit-content (Blank blank) = blank.now.page.fit
fit-content (Shared page) = page.now.fit
fit-content (Owned own) = own.value.fit

-- 1,024 slots, with the pages that they began with, are a memory
pub IsMemory-contents_of : (slots : List Slot) (bases : List Began) (m : Contents) → AreBased slots bases → contents_of slots bases ≡ m → IsMemory m
IsMemory-contents_of slots bases m are view = subst IsMemory view (record {
  words = let n = are.count in let e : length (flat_map content slots) ≡ length slots * 256 = length-pages content 256 slots length-content in omega arith;
  fit = All-pages (λ w. w < 2 ^ 32) content slots fit-content;
  owned = length-map slots is_owned ∙ are.count;
  base = let n = are.bases_count in let e : length (flat_map base_of bases) ≡ length bases * 256 = length-pages base_of 256 bases length-base_of in omega arith;
})

-- a slot is not both shared and owned
owned_and_shared : {o : Bool} → o ≡ false → o ≡ true → ⊥
owned_and_shared shared owned = cc

-- if a slot gets a private page, the others still have the pages that they began with
pub based_set : (slots : List Slot) (bases : List Began) (i : ℕ) (q : Slot) → AreBased slots bases → is_owned q ≡ true → AreBased (set slots i q) bases
based_set slots bases i q are owned = record {
  count = length-set slots i q ∙ are.count;
  bases_count = are.bases_count;
  based = λ k d e h shared.
      elim (cases_eq k i) [
        | inl same ↦
            let here : get_or (set slots i q) k d ≡ q = get_or-set_at slots i k q d same (let n = are.count in omega arith) in
            absurd (owned_and_shared shared (ap (λ (p : Slot). is_owned p) here ∙ owned))
        | inr other ↦
            let there : get_or (set slots i q) k d ≡ get_or slots k d = get_or-set_other slots i k q d other in
            ap (λ (p : Slot). content p) there ∙ are.based k d e h (ap (λ (p : Slot). is_owned p) (sym there) ∙ shared)
      ];
}

-- a word of a memory is a word of its page
pub word_at : (slots : List Slot) (w : ℕ) (p : Slot) (ws : List ℕ) → length slots ≡ 1024 → w < 262144 → p ≡ get_or slots (w / 256) p → flat_map content slots ≡ ws → get_or (content p) (w % 256) 0 ≡ get_or ws w 0
word_at slots w p ws count h is view =
    let e : get_or ws w 0 ≡ get_or (content (get_or slots (w / 256) p)) (w % 256) 0 =
    ap (λ (v : List ℕ). get_or v w 0) (sym view)
    ∙ get_or-pages content 256 slots (w / 256) (w % 256) w p (λ k d l. length-content (get_or slots k d)) (omega arith) (omega arith) (omega arith) in
    ap (λ (q : Slot). get_or (content q) (w % 256) 0) is ∙ sym e

-- replacing the page of a word by one in which that word alone is changed
pub words_set : (slots : List Slot) (w v : ℕ) (p q : Slot) (ws : List ℕ) → length slots ≡ 1024 → w < 262144 → p ≡ get_or slots (w / 256) p → flat_map content slots ≡ ws → content q ≡ set (content p) (w % 256) v → flat_map content (set slots (w / 256) q) ≡ set ws w v
words_set slots w v p q ws count h is view change =
    let e : content q ≡ set (content (get_or slots (w / 256) p)) (w % 256) v = change ∙ ap (λ (z : Slot). set (content z) (w % 256) v) is in
    flat_map-set content 256 slots (w / 256) (w % 256) w p q v (λ k d l. length-content (get_or slots k d)) (omega arith) (omega arith) (omega arith) e
    ∙ ap (λ (z : List ℕ). set z w v) view

-- page p of a memory is the page in slot p
pub page_at-content : (slots : List Slot) (ws : List ℕ) (p : ℕ) (d : Slot) → flat_map content slots ≡ ws → p < length slots → page_at ws p ≡ content (get_or slots p d)
unfolding page_at
page_at-content slots ws p d view h =
    ap (λ (z : List ℕ). take 256 (drop (256 * p) z)) (sym view)
    ∙ take-drop-pages content 256 slots p (256 * p) d (λ k e l. length-content (get_or slots k e)) h refl

-- page p of the base is the page that slot p began with
pub page_at-base_of : (bases : List Began) (ws : List ℕ) (p : ℕ) (d : Began) → flat_map base_of bases ≡ ws → p < length bases → page_at ws p ≡ base_of (get_or bases p d)
unfolding page_at
page_at-base_of bases ws p d view h =
    ap (λ (z : List ℕ). take 256 (drop (256 * p) z)) (sym view)
    ∙ take-drop-pages base_of 256 bases p (256 * p) d (λ k e l. length-base_of (get_or bases k e)) h refl

IsContent-slots_by : (slots : List Slot) (d : Slot) (pool : List (List ℕ)) (numbers : List ℕ) → length slots ≡ 1024 → ((k : ℕ) (d : Slot) (e : ℕ) → k < length slots → content (get_or slots k d) ≡ page_of pool (get_or numbers k e)) → IsContent (flat_map content slots) pool numbers
IsContent-slots_by slots d pool numbers count same = record {
  count = let e : length (flat_map content slots) ≡ length slots * 256 = length-pages content 256 slots length-content in omega arith;
  word = λ w h.
      get_or-pages content 256 slots (w / 256) (w % 256) w d (λ k e l. length-content (get_or slots k e)) (omega arith) (omega arith) (omega arith)
      ∙ ap (λ (page : List ℕ). get_or page (w % 256) 0) (same (w / 256) d 0 (omega arith));
}

-- the slots of a table hold its content
pub IsContent-slots : (slots : List Slot) (pool : List (List ℕ)) (numbers : List ℕ) → length slots ≡ 1024 → ((k : ℕ) (d : Slot) (e : ℕ) → k < length slots → content (get_or slots k d) ≡ page_of pool (get_or numbers k e)) → IsContent (flat_map content slots) pool numbers
IsContent-slots [] pool numbers count same = absurd (omega arith)
IsContent-slots (p ∷ slots) pool numbers count same = IsContent-slots_by (p ∷ slots) p pool numbers count same

-- a slot gets a private page instead of the page in it
taken_items : (slots new : List Slot) (i : ℕ) (p : Slot) (words : List ℕ) (taken : TakesCopy (set slots i p) new i words) → new ≡ set slots i taken.own
taken_items slots new i p words taken = taken.items ∙ set-set slots i p taken.own

-- one word is changed
pub words_taken : (slots new : List Slot) (w v : ℕ) (p : Slot) (ws : List ℕ) → length slots ≡ 1024 → w < 262144 → p ≡ get_or slots (w / 256) p → flat_map content slots ≡ ws → TakesCopy (set slots (w / 256) p) new (w / 256) (set (content p) (w % 256) v) → flat_map content new ≡ set ws w v
words_taken slots new w v p ws count h is view taken =
    ap (λ (z : List Slot). flat_map content z) (taken_items _ _ _ _ _ taken) ∙ words_set slots w v p taken.own ws count h is view taken.content_is

-- the slot is owned from then on
pub owned_taken : (slots new : List Slot) (w : ℕ) (p : Slot) (words : List ℕ) (owned : List Bool) → map is_owned slots ≡ owned → TakesCopy (set slots (w / 256) p) new (w / 256) words → map is_owned new ≡ set owned (w / 256) true
owned_taken slots new w p words owned view taken =
    ap (λ (z : List Slot). map is_owned z) (taken_items _ _ _ _ _ taken)
    ∙ simp map-set (ap (λ (b : Bool). set (map is_owned slots) (w / 256) b) taken.owned ∙ ap (λ (z : List Bool). set z (w / 256) true) view)

-- the others still have the pages that they began with
pub based_taken : (slots new : List Slot) (bases : List Began) (i : ℕ) (p : Slot) (words : List ℕ) → AreBased slots bases → TakesCopy (set slots i p) new i words → AreBased new bases
based_taken slots new bases i p words are taken =
    subst (λ (z : List Slot). AreBased z bases) (sym (taken_items _ _ _ _ _ taken)) (based_set slots bases i taken.own are taken.owned)

-- a slot holds the page that was found there
pub in_slot : (slots : List Slot) (i : ℕ) {p q : Slot} → q ≡ get_or slots i q → q ≡ p → p ≡ get_or slots i p
in_slot slots i found is = subst (λ (z : Slot). z ≡ get_or slots i z) is found

-- nothing changes if a slot gets back the page that was found there
pub slots_kept : (slots new : List Slot) (i : ℕ) {p q : Slot} → q ≡ get_or slots i q → q ≡ p → new ≡ set slots i p → new ≡ slots
slots_kept slots new i {p} found is same =
    same ∙ ap (λ (z : Slot). set slots i z) (in_slot slots i found is) ∙ set-get_or slots i p

-- so the memory is as it was
pub contents_kept : (slots new : List Slot) (bases : List Began) (i : ℕ) {p q : Slot} {m : Contents} → q ≡ get_or slots i q → q ≡ p → new ≡ set slots i p
    → contents_of slots bases ≡ m → contents_of new bases ≡ m
contents_kept slots new bases i found is same view = ap (λ (z : List Slot). contents_of z bases) (slots_kept slots new i found is same) ∙ view

pub based_kept : (slots new : List Slot) (bases : List Began) (i : ℕ) {p q : Slot} → q ≡ get_or slots i q → q ≡ p → new ≡ set slots i p
    → AreBased slots bases → AreBased new bases
based_kept slots new bases i found is same are = subst (λ (z : List Slot). AreBased z bases) (sym (slots_kept slots new i found is same)) are

-- the page that was found in a slot says whether the slot is owned
pub owned_at : (slots : List Slot) (bases : List Began) (i : ℕ) {p q : Slot} {m : Contents} → q ≡ get_or slots i q → q ≡ p
    → contents_of slots bases ≡ m → length slots ≡ 1024 → i < 1024 → slice_get m.owned i ≡ Some (is_owned p)
owned_at slots bases i {p} found is view count h =
    ap (λ (m : Contents). slice_get m.owned i) (sym view)
    ∙ slice_get-map is_owned slots i
    ∙ ap (λ (o : Option Slot). option_map is_owned o) (slice_get_read slots (length slots) i p refl (omega arith) (in_slot slots i found is))

-- a slot is not both shared and owned
pub owned_once : {o : Option Bool} → o ≡ Some false → o ≡ Some true → ⊥
owned_once shared owned = cc
