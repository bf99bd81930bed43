-- A memory that was stored is the content of the new table over the new pool.
use Rattle.std.proofs.Common.{◌≡◌, ℕ, zero, suc, ◌+◌, ◌-◌, ◌*◌, ◌<◌, ◌≤◌, inl, inr, Bool, true, false, List, [], ◌∷◌, ◌++◌, ap, append_assoc, arith, drop, drop-drop, get_or, get_or-set_other, length, length-append, length-drop, length-set, length-take-le, map, refl, replicate, subst, sym, take, take-add, take_all, ◌∙◌}
use Rattle.std.proofs.lemmas.Bool.{and_parts, eqb-true}
use Rattle.std.proofs.lemmas.Bool.Decides.{eqb_tells}
use Rattle.std.proofs.lemmas.Grind.{common_steps, get_or-set_at}
use Rattle.std.proofs.lemmas.List.{append-nil, get_or_push, length_push}
use Rattle.std.proofs.lemmas.List.Elements.{All-set}
use Rattle.std.proofs.lemmas.List.FromFn.{get_or-range_with_len, length-range_with_len}
use Rattle.std.specs.Bool.{MatchBool}
use Rattle.std.specs.Cmp.Lexicographic.{pointwise, told_text}
use Rattle.std.specs.List.{All, Contains, flat_map, list_all, range_with_len}
use Rattle.std.specs.Prelude.{◌==◌, nat_eq, slice_index, slice_set}
use Rattle.risc_pages.proofs.DeltaLemmas.{AreDifferences-changed_below}
use Rattle.risc_pages.proofs.Paging.{flat_map-same}
use Rattle.risc_pages.proofs.PoolLemmas.{page_at-table_words, page_of-shared, page_of-zero}
use Rattle.risc_pages.specs.Tables.{IsNamed, table_words}
use Rattle.risc_pages.specs.Delta.{changed_below}
use Rattle.risc_pages.specs.Pages.{ArePages, page_at, page_of, zero_page}
use Rattle.oberon_session.proofs.PagesStored.{with-page}
use Rattle.oberon_session.specs.Stored.{Stored, changed_pages, is_blank, store, store_page, store_pages}
use Rattle.oberon_session.specs.Laws.{IsTableOf}

-- ---- pools that grow

-- a page keeps its id when the pool grows
pub page_of-grown : (pool extra : List (List ℕ)) (n : ℕ) → n ≤ length pool → page_of (pool ++ extra) n ≡ page_of pool n
page_of-grown pool extra n named = elim (eqb_tells n 0) [
  | inl z ↦ page_of-zero (pool ++ extra) n z.1 ∙ sym (page_of-zero pool n z.1)
  | inr s ↦
      let some : n ≡ 0 → ⊥ = s.1 in
      let inside : n - 1 < length pool = omega arith in
      let same : get_or (pool ++ extra) (n - 1) zero_page ≡ get_or pool (n - 1) zero_page = grind (arith, common_steps) in
      page_of-shared (pool ++ extra) n some ∙ same ∙ sym (page_of-shared pool n some)
]

-- the page at the pool's end
page_of-last : (pool : List (List ℕ)) (words : List ℕ) → page_of (pool ++ words ∷ []) (length pool + 1) ≡ words
page_of-last pool words =
    let some : length pool + 1 ≡ 0 → ⊥ = λ no. omega arith in
    let at : length pool ≡ length pool + 1 - 1 = omega arith in
    page_of-shared (pool ++ words ∷ []) (length pool + 1) some ∙ get_or_push pool words zero_page (length pool + 1 - 1) at

-- a table has the same content when the pool grows
pub table_words-grown : (pool extra : List (List ℕ)) (numbers : List ℕ) → IsNamed pool numbers → table_words (pool ++ extra) numbers ≡ table_words pool numbers
table_words-grown pool extra numbers named =
    flat_map-same (page_of (pool ++ extra)) (page_of pool) numbers numbers refl
    (λ k d e lt.
    let same : get_or numbers k d ≡ get_or numbers k e = grind (arith, common_steps) in
    page_of-grown pool extra (get_or numbers k d) (named k d lt) ∙ ap (λ (n : ℕ). page_of pool n) same)

-- ---- pages of a memory

length-page_at : (words : List ℕ) (p : ℕ) → length words ≡ 262144 → p < 1024 → length (page_at words p) ≡ 256
unfolding page_at
length-page_at words p whole inside =
    let room : 256 ≤ length (drop (256 * p) words) = omega (arith, length-drop (256 * p) words) in
    length-take-le 256 (drop (256 * p) words) room

zeros : (words : List ℕ) (n : ℕ) → length words ≡ n → list_all (λ word. word == 0) words ≡ true → words ≡ replicate n 0
zeros [] zero whole all = refl
zeros [] (suc n) whole all = absurd (omega arith)
zeros (word ∷ words) zero whole all = absurd (omega arith)
zeros (word ∷ words) (suc n) whole all =
    let parts = and_parts (word == 0) (list_all (λ w. w == 0) words) all in
    let first : word ≡ 0 = eqb-true word 0 parts.0 in
    let rest : words ≡ replicate n 0 = zeros words n (omega arith) parts.1 in
    ap (λ (w : ℕ). w ∷ words) first ∙ ap (λ (ws : List ℕ). 0 ∷ ws) rest

-- a page that is blank is the page of zeros
blank-page : (words : List ℕ) → length words ≡ 256 → is_blank words ≡ true → words ≡ zero_page
unfolding is_blank zero_page
blank-page words whole blank = zeros words 256 whole blank

-- a memory is its pages, one after another
pages-from : (words : List ℕ) (a n : ℕ) → flat_map (page_at words) (range_with_len a n) ≡ take (256 * n) (drop (256 * a) words)
unfolding page_at
pages-from words a zero = refl
pages-from words a (suc n) =
    let on : 256 * (a + 1) ≡ 256 * a + 256 = omega arith in
    let more : 256 + 256 * n ≡ 256 * suc n = omega arith in
    let here : List ℕ = drop (256 * a) words in
    let rest = pages-from words (a + 1) n ∙ ap (λ (k : ℕ). take (256 * n) (drop k words)) on
    ∙ ap (λ (l : List ℕ). take (256 * n) l) (sym (drop-drop 256 (256 * a) words)) in
    ap (λ (l : List ℕ). take 256 here ++ l) rest ∙ sym (take-add 256 (256 * n) here) ∙ ap (λ (k : ℕ). take k here) more

-- a table that names the pages of a memory has it as its content
content-of : (pool : List (List ℕ)) (table words : List ℕ) (n : ℕ) → length table ≡ n → length words ≡ 256 * n
    → ((p : ℕ) → p < n → page_of pool (slice_index table p) ≡ page_at words p) → table_words pool table ≡ words
content-of pool table words n count whole shown =
    let many : length table ≡ length (range_with_len 0 n) = count ∙ sym (length-range_with_len 0 n) in
    let each : (k d e : ℕ) → k < length table → page_of pool (get_or table k d) ≡ page_at words (get_or (range_with_len 0 n) k e) =
    λ k d e lt.
    let inside : k < n = omega arith in
    let number : get_or table k d ≡ get_or table k 0 = grind (arith, common_steps) in
    let slot : get_or (range_with_len 0 n) k e ≡ k = omega (arith, get_or-range_with_len 0 n k e inside) in
    ap (λ (m : ℕ). page_of pool m) number ∙ shown k inside ∙ ap (λ (m : ℕ). page_at words m) (sym slot) in
    flat_map-same (page_of pool) (page_at words) table (range_with_len 0 n) many each
    ∙ pages-from words 0 n ∙ take_all (256 * n) words (omega arith)

-- ---- storing pages

-- the table names in a slot the page that the memory has there
abbrev IsShown : List ℕ → Stored → ℕ → Type 0
IsShown words stored p = page_of stored.pool (slice_index stored.table p) ≡ page_at words p

-- the pool has grown, the table still names its pages, and each slot that had a page of the memory still has it
pub record Leads (words : List ℕ) (old new : Stored) : Type 0 where
  pub extra : List (List ℕ)
  pub grown : new.pool ≡ old.pool ++ extra
  pub table : IsTableOf new
  pub kept : (p : ℕ) → p < 1024 → IsShown words old p → IsShown words new p

module _ (words : List ℕ) (old : Stored) (slot : ℕ) where
  pub blank-is : is_blank (page_at words slot) ≡ true → store_page old (slot, page_at words slot) ≡ record old { table = slice_set old.table slot 0 }
  unfolding store_page
  blank-is blank = rw blank refl

  pub other-is : is_blank (page_at words slot) ≡ false
      → store_page old (slot, page_at words slot) ≡ record { pool = old.pool ++ page_at words slot ∷ []; table = slice_set old.table slot (length old.pool + 1) }
  unfolding store_page
  other-is other = rw other refl

module _ (words : List ℕ) (old : Stored) (good : IsTableOf old) (slot : ℕ) (inside : slot < 1024) where
  -- a slot has its page once the id of that page is set there, over a pool that has only grown
  module _ (extra : List (List ℕ)) (number : ℕ) (fits : number ≤ length (old.pool ++ extra)) (names : page_of (old.pool ++ extra) number ≡ page_at words slot) where
    abbrev after : Stored
    after = record { pool = old.pool ++ extra; table = slice_set old.table slot number }

    here : IsShown words after slot
    here = ap (λ (n : ℕ). page_of (old.pool ++ extra) n) (get_or-set_at old.table slot slot number 0 refl (omega (arith, good.count))) ∙ names

    kept : (p : ℕ) → p < 1024 → IsShown words old p → IsShown words after p
    kept p low shown = elim (eqb_tells p slot) [
      | inl same ↦ subst (λ (q : ℕ). IsShown words after q) (sym same.1) here
      | inr apart ↦
          let lt : p < length old.table = omega (arith, good.count) in
          ap (λ (n : ℕ). page_of (old.pool ++ extra) n) (get_or-set_other old.table slot p number 0 apart.1)
          ∙ page_of-grown old.pool extra (slice_index old.table p) (good.named p 0 lt) ∙ shown
    ]

    set-leads : Leads words old after
    set-leads = record {
      extra = extra;
      grown = refl;
      table = record {
        count = length-set old.table slot number ∙ good.count;
        named = All-set (λ n. n ≤ length (old.pool ++ extra)) old.table slot number fits
            (λ k d lt. omega (arith, good.named k d lt, length-append old.pool extra));
      };
      kept = kept;
    }

  -- a page was stored
  abbrev IsStored : Stored → Type 0
  IsStored new = Leads words old new × IsShown words new slot

  page-stored : (b : Bool) → is_blank (page_at words slot) ≡ b → length words ≡ 262144 → IsStored (store_page old (slot, page_at words slot))
  page-stored true blank whole =
      let same : old.pool ++ [] ≡ old.pool = append-nil old.pool in
      let after-is : store_page old (slot, page_at words slot) ≡ record { pool = old.pool ++ []; table = slice_set old.table slot 0 } =
      blank-is words old slot blank ∙ ap (λ (pool : List (List ℕ)). record { pool = pool; table = slice_set old.table slot 0 }) (sym same) in
      let zeros-there : page_of (old.pool ++ []) 0 ≡ page_at words slot =
      page_of-zero (old.pool ++ []) 0 refl ∙ sym (blank-page (page_at words slot) (length-page_at words slot whole inside) blank) in
      subst IsStored (sym after-is) (set-leads [] 0 (omega arith) zeros-there, here [] 0 (omega arith) zeros-there)
  page-stored false other whole =
      let page : List ℕ = page_at words slot in
      let fits : length old.pool + 1 ≤ length (old.pool ++ page ∷ []) = omega (arith, length_push old.pool page) in
      let last = page_of-last old.pool page in
      subst IsStored (sym (other-is words old slot other)) (set-leads (page ∷ []) (length old.pool + 1) fits last, here (page ∷ []) (length old.pool + 1) fits last)

module _ (words : List ℕ) (whole : length words ≡ 262144) where
  abbrev pages-of : List ℕ → List (ℕ × List ℕ)
  pages-of slots = map (with-page words) slots

  -- pages were stored in these slots
  abbrev AreStored : Stored → List ℕ → Type 0
  AreStored old slots =
      Leads words old (store_pages old (pages-of slots)) × ((p : ℕ) → Contains slots p → IsShown words (store_pages old (pages-of slots)) p)

  pages-stored : (slots : List ℕ) → All (λ p. p < 1024) slots → (old : Stored) → IsTableOf old → AreStored old slots
  pages-stored [] low old good = (
    record { extra = []; grown = sym (append-nil old.pool); table = good; kept = λ p lt shown. shown },
    λ p within. absurd (omega (arith, within.1)),
  )
  pages-stored (slot ∷ slots) low old good =
      let inside : slot < 1024 = low 0 slot (omega arith) in
      let first = page-stored words old good slot inside (is_blank (page_at words slot)) refl whole in
      let mid : Stored = store_page old (slot, page_at words slot) in
      let rest = pages-stored slots (λ k d lt. low (suc k) d (omega arith)) mid first.0.table in (
        record {
          extra = first.0.extra ++ rest.0.extra;
          grown = rest.0.grown ∙ ap (λ (pool : List (List ℕ)). pool ++ rest.0.extra) first.0.grown ∙ append_assoc old.pool first.0.extra rest.0.extra;
          table = rest.0.table;
          kept = λ p lt shown. rest.0.kept p lt (first.0.kept p lt shown);
        },
        shown-in first.1 rest.0.kept rest.1,
      )
    where
      shown-in : IsShown words (store_page old (slot, page_at words slot)) slot
          → ((p : ℕ) → p < 1024 → IsShown words (store_page old (slot, page_at words slot)) p → IsShown words (store_pages old (pages-of (slot ∷ slots))) p)
          → ((p : ℕ) → Contains slots p → IsShown words (store_pages old (pages-of (slot ∷ slots))) p)
          → (p : ℕ) → Contains (slot ∷ slots) p → IsShown words (store_pages old (pages-of (slot ∷ slots))) p
      shown-in first kept rest p (zero, lt, is) =
          let low-slot : slot < 1024 = low 0 slot (omega arith) in
          subst (λ (q : ℕ). IsShown words (store_pages old (pages-of (slot ∷ slots))) q) is (kept slot low-slot first)
      shown-in first kept rest p (suc k, lt, is) = rest p (k, omega arith, is)

-- a memory that is stored after another is the content of the new table over the new pool
pub memory-stored : (base words : List ℕ) (old : Stored) → IsTableOf old → ArePages old.pool → table_words old.pool old.table ≡ base
    → length words ≡ 262144 → Leads words old (store base words old) × (table_words (store base words old).pool (store base words old).table ≡ words)
unfolding store
memory-stored base words old good pages content whole =
    let differences = AreDifferences-changed_below base words (changed_below 1024 base words) refl in
    let stored = pages-stored words whole (changed_below 1024 base words) (λ k d lt. (differences.each k d lt).0) old good in
    let before : (p : ℕ) → p < 1024 → page_at words p ≡ page_at base p → IsShown words old p =
    λ p lt same.
    let inside : p < length old.table = omega (arith, good.count) in
    sym (page_at-table_words old.pool old.table p 0 pages good.named inside) ∙ ap (λ (l : List ℕ). page_at l p) content ∙ sym same in
    let shown : (p : ℕ) → p < 1024 → IsShown words (store_pages old (changed_pages base words)) p =
    λ p lt. either p lt (pointwise nat_eq (page_at words p) (page_at base p))
    (told_text (page_at words p) (page_at base p) _ refl)
    (λ same. stored.0.kept p lt (before p lt same))
    (λ other. stored.1 p (differences.all p lt other)) in
    (stored.0, content-of (store_pages old (changed_pages base words)).pool (store_pages old (changed_pages base words)).table words 1024 stored.0.table.count whole shown)
  where
    either : (p : ℕ) → p < 1024 → (b : Bool) → MatchBool b (page_at words p ≡ page_at base p) (page_at words p ≡ page_at base p → ⊥)
        → (page_at words p ≡ page_at base p → IsShown words (store_pages old (changed_pages base words)) p)
        → ((page_at words p ≡ page_at base p → ⊥) → IsShown words (store_pages old (changed_pages base words)) p)
        → IsShown words (store_pages old (changed_pages base words)) p
    either p lt true is same other = same is
    either p lt false is same other = other is
