-- The law of stored memories.
use Rattle.std.proofs.Common.{◌≡◌, ◌≢◌, ℕ, zero, suc, ◌+◌, ◌<◌, ◌≤◌, ◌⊎◌, inl, inr, Bool, true, false, cond, List, [], ◌∷◌, ◌++◌, ap, append_assoc, arith, get_or-set_other, length, length-set, map, not, refl, subst, sym, ◌∙◌}
use Rattle.std.proofs.lemmas.Bool.{false≢true}
use Rattle.std.proofs.lemmas.Bool.Decides.{eqb_tells}
use Rattle.std.proofs.lemmas.Grind.{get_or-set_at}
use Rattle.std.proofs.lemmas.List.{append-nil, length_push}
use Rattle.std.specs.List.{All, Contains, filter}
use Rattle.std.specs.Prelude.{slice_index}
use Rattle.risc_pages.proofs.DeltaLemmas.{AreDifferences-changed_below}
use Rattle.risc_pages.specs.Delta.{changed_below}
use Rattle.risc_pages.specs.Pages.{page_at}
use Rattle.oberon_session.proofs.Contents.{blank-is, memory-stored, other-is}
use Rattle.oberon_session.proofs.PagesStored.{with-page}
use Rattle.oberon_session.specs.Stored.{Stored, is_blank, store, store_page, store_pages}
use Rattle.oberon_session.specs.Laws.{StoredLaw}

module _ (words : List ℕ) where
  abbrev new-pages : List ℕ → List (List ℕ)
  new-pages slots = filter (λ page. not (is_blank page)) (map (page_at words) slots)

  -- the pages of these slots, stored one after another
  pub record Steps (old new : Stored) (slots : List ℕ) (n : ℕ) : Type 0 where
    pub pool : new.pool ≡ old.pool ++ new-pages slots
    pub kept : (p : ℕ) → ¬ (Contains slots p) → slice_index new.table p ≡ slice_index old.table p
    pub zeros : (p : ℕ) → is_blank (page_at words p) ≡ true → Contains slots p ⊎ (slice_index old.table p ≡ 0) → slice_index new.table p ≡ 0
    pub fresh : (p : ℕ) → is_blank (page_at words p) ≡ false → Contains slots p ⊎ (n < slice_index old.table p) → n < slice_index new.table p

  -- in a list that begins with q, p is q or in the rest
  first-or-rest : (q p : ℕ) (slots : List ℕ) → Contains (q ∷ slots) p → (q ≡ p) ⊎ Contains slots p
  first-or-rest q p slots (zero, lt, is) = inl is
  first-or-rest q p slots (suc k, lt, is) = inr (k, omega arith, is)

  -- one page, stored in slot q
  record One (old mid : Stored) (q n : ℕ) : Type 0 where
    pub pool : mid.pool ≡ old.pool ++ new-pages (q ∷ [])
    pub count : length mid.table ≡ 1024
    pub grown : n ≤ length mid.pool
    pub other : (p : ℕ) → p ≢ q → slice_index mid.table p ≡ slice_index old.table p
    pub zero-there : is_blank (page_at words q) ≡ true → slice_index mid.table q ≡ 0
    pub new-there : is_blank (page_at words q) ≡ false → n < slice_index mid.table q

  module _ (old : Stored) (count : length old.table ≡ 1024) (q : ℕ) (low : q < 1024) (n : ℕ) (bound : n ≤ length old.pool) where
    one : (b : Bool) → is_blank (page_at words q) ≡ b → One old (store_page old (q, page_at words q)) q n
    one true blank =
        subst (λ (l : Stored). One old l q n) (sym (blank-is words old q blank)) (record {
          pool = rw blank (sym (append-nil old.pool));
          count = length-set old.table q 0 ∙ count;
          grown = bound;
          other = λ p apart. get_or-set_other old.table q p 0 0 apart;
          zero-there = λ _. get_or-set_at old.table q q 0 0 refl (omega arith);
          new-there = λ other. absurd (false≢true (sym other ∙ blank));
        })
    one false other =
        let page : List ℕ = page_at words q in
        let long = length_push old.pool page in
        subst (λ (l : Stored). One old l q n) (sym (other-is words old q other)) (record {
          pool = rw other refl;
          count = length-set old.table q (length old.pool + 1) ∙ count;
          grown = omega arith;
          other = λ p apart. get_or-set_other old.table q p (length old.pool + 1) 0 apart;
          zero-there = λ blank. absurd (false≢true (sym other ∙ blank));
          new-there = λ _.
              let there = get_or-set_at old.table q q (length old.pool + 1) 0 refl (omega arith) in
              omega arith;
        })

  one-more : (b : Bool) (page : List ℕ) (rest : List (List ℕ)) → cond b (page ∷ rest) rest ≡ cond b (page ∷ []) [] ++ rest
  one-more true page rest = refl
  one-more false page rest = refl

  not-there : {X : Type 0} (p : ℕ) → Contains [] p ⊎ X → X
  not-there p (inl there) = absurd (omega (arith, there.1))
  not-there p (inr before) = before

  steps : (slots : List ℕ) → All (λ p. p < 1024) slots → (old : Stored) → length old.table ≡ 1024 → (n : ℕ) → n ≤ length old.pool
      → Steps old (store_pages old (map (with-page words) slots)) slots n
  steps [] low old count n bound = record {
    pool = sym (append-nil old.pool);
    kept = λ p none. refl;
    zeros = λ p blank before. not-there p before;
    fresh = λ p other before. not-there p before;
  }
  steps (q ∷ slots) low old count n bound =
      let first = one old count q (low 0 q (omega arith)) n bound (is_blank (page_at words q)) refl in
      let mid : Stored = store_page old (q, page_at words q) in
      let rest = steps slots (λ k d lt. low (suc k) d (omega arith)) mid first.count n first.grown in
      record {
        pool =
            rest.pool ∙ ap (λ (pool : List (List ℕ)). pool ++ new-pages slots) first.pool
            ∙ append_assoc old.pool (new-pages (q ∷ [])) (new-pages slots)
            ∙ ap (λ (l : List (List ℕ)). old.pool ++ l) (sym (one-more (not (is_blank (page_at words q))) (page_at words q) (new-pages slots)));
        kept = λ p none.
            let apart : p ≢ q = λ same. none (0, omega arith, sym same) in
            rest.kept p (λ there. none (suc there.0, omega (arith, there.1), there.2)) ∙ first.other p apart;
        zeros = λ p blank before. rest.zeros p blank (zeros-on q p slots old mid first.other first.zero-there blank before);
        fresh = λ p other before. rest.fresh p other (fresh-on q p slots n old mid first.other first.new-there other before);
      }
    where
      zeros-on : (q p : ℕ) (slots : List ℕ) (old mid : Stored) → ((p : ℕ) → p ≢ q → slice_index mid.table p ≡ slice_index old.table p)
          → (is_blank (page_at words q) ≡ true → slice_index mid.table q ≡ 0) → is_blank (page_at words p) ≡ true
          → Contains (q ∷ slots) p ⊎ (slice_index old.table p ≡ 0) → Contains slots p ⊎ (slice_index mid.table p ≡ 0)
      zeros-on q p slots old mid other here blank before = elim (eqb_tells p q) [
        | inl same ↦ inr (subst (λ (x : ℕ). slice_index mid.table x ≡ 0) (sym same.1) (here (subst (λ (x : ℕ). is_blank (page_at words x) ≡ true) same.1 blank)))
        | inr apart ↦ elim before [
          | inl there ↦ elim (first-or-rest q p slots there) [
            | inl same ↦ absurd (apart.1 (sym same))
            | inr later ↦ inl later
          ]
          | inr was ↦ inr (other p apart.1 ∙ was)
        ]
      ]

      fresh-on : (q p : ℕ) (slots : List ℕ) (n : ℕ) (old mid : Stored) → ((p : ℕ) → p ≢ q → slice_index mid.table p ≡ slice_index old.table p)
          → (is_blank (page_at words q) ≡ false → n < slice_index mid.table q) → is_blank (page_at words p) ≡ false
          → Contains (q ∷ slots) p ⊎ (n < slice_index old.table p) → Contains slots p ⊎ (n < slice_index mid.table p)
      fresh-on q p slots n old mid other here blank before = elim (eqb_tells p q) [
        | inl same ↦ inr (subst (λ (x : ℕ). n < slice_index mid.table x) (sym same.1) (here (subst (λ (x : ℕ). is_blank (page_at words x) ≡ false) same.1 blank)))
        | inr apart ↦ elim before [
          | inl there ↦ elim (first-or-rest q p slots there) [
            | inl same ↦ absurd (apart.1 (sym same))
            | inr later ↦ inl later
          ]
          | inr was ↦ inr (subst (λ (x : ℕ). n < x) (sym (other p apart.1)) was)
        ]
      ]

pub stored-law : StoredLaw
unfolding store
stored-law earlier words old good pages content whole =
    let slots : List ℕ = changed_below 1024 earlier words in
    let differences = AreDifferences-changed_below earlier words (changed_below 1024 earlier words) refl in
    let stored = steps words (changed_below 1024 earlier words) (λ k d lt. (differences.each k d lt).0) old good.count (length old.pool) (omega arith) in
    record {
      pool = stored.pool;
      kept = λ p lt same. stored.kept p (λ there. (differences.each there.0 p there.1).1 (subst (λ (x : ℕ). page_at words x ≡ page_at earlier x) (sym there.2) same));
      zeros = λ p lt differ blank. stored.zeros p blank (inl (differences.all p lt differ));
      fresh = λ p lt differ other. stored.fresh p other (inl (differences.all p lt differ));
      content = (memory-stored earlier words old good pages content whole).1;
    }
