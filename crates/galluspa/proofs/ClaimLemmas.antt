-- Claims that are written one after another, and the memory that their pages make.
use Rattle.std.proofs.Common.{◌≡◌, ◌∙◌, ◌+◌, ◌++◌, ◌*◌, ◌<◌, ◌≤◌, ℕ, suc, List, [], ◌∷◌, get_or, inl, inr, length, set, slice_index_or, refl, ap, subst, sym, arith}
use Rattle.std.proofs.lemmas.Bool.{cases_eq}
use Rattle.std.proofs.lemmas.List.{get_or-set_same, get_or-set_other}
use Rattle.risc_pages.proofs.PoolLemmas.{IsPage-page_of}
use Rattle.risc_pages.specs.Pages.{ArePages, page_of}
use Rattle.risc_pages.specs.Tables.{IsNamed, table_words}
use Rattle.oberon_format.specs.Recording.{IsFit, RecordingParts, checkpoint_at}
use Rattle.galluspa.specs.Claim.{IsClaimOf, memory_of}
use Rattle.galluspa.specs.declared.claims.RawCheckpoint.{RawCheckpoint}
use Rattle.galluspa.specs.declared.claims.RawPage.{RawPage}
use Rattle.galluspa.specs.inner.Claiming.{IsRawCheckpoint}
use Rattle.galluspa.proofs.WordLemmas.{length_pages}

-- one element more of a list that is written from its front
pub filled-more : {A : Type 0} (P : ℕ → A → Type 0) (xs : List A) (k : ℕ) (x : A) → k < length xs → P k x → ((i : ℕ) (d : A) → i < k → P i (slice_index_or xs i d))
    → (i : ℕ) (d : A) → i < k + 1 → P i (slice_index_or (set xs k x) i d)
filled-more {A} P xs k x inside is so_far i d h = elim (cases_eq i k) [
  | inl same ↦
      let Q : ℕ → Type 0 = λ q. P q (slice_index_or (set xs k x) q d) in
      subst Q (sym same) (rw (get_or-set_same xs k x d inside) is)
  | inr other ↦
      rw (get_or-set_other xs k i x d other) (so_far i d (let ne : i ≡ k → ⊥ = other in omega arith))
]

-- what is after it is as it was
pub kept-more : {A : Type 0} (old xs : List A) (k : ℕ) (x : A) → ((i : ℕ) (d : A) → k ≤ i → slice_index_or xs i d ≡ slice_index_or old i d)
    → (i : ℕ) (d : A) → k + 1 ≤ i → slice_index_or (set xs k x) i d ≡ slice_index_or old i d
kept-more old xs k x so_far i d h = get_or-set_other xs k i x d (λ same. absurd (omega (arith, same))) ∙ so_far i d (omega arith)

-- the pages of a pool after that of zeros, and the memory that a table makes of them
memory_is : (pool : List (List ℕ)) (pages : List RawPage) (table : List ℕ) → IsNamed pool table
    → ((id : ℕ) (d : RawPage) → id ≤ length pool → (slice_index_or pages id d).words ≡ page_of pool id) → memory_of pages table ≡ table_words pool table
memory_is pool pages [] named each = refl
memory_is pool pages (id ∷ table) named each =
    ap (λ (l : List ℕ). l ++ memory_of pages table) (each id (record { words = [] }) (named 0 id (omega arith)))
    ∙ ap (λ (l : List ℕ). page_of pool id ++ l) (memory_is pool pages table (λ k d h. named (suc k) d (omega arith)) each)

-- the parts of a checkpoint with the pages of its pool are what it claims
pub claim-is : (r : RecordingParts) (k : ℕ) (claim : RawCheckpoint) (pages : List RawPage) → ArePages r.pool → IsFit r.pool (checkpoint_at r k) → IsRawCheckpoint (checkpoint_at r k) claim
    → ((id : ℕ) (d : RawPage) → id ≤ length r.pool → (slice_index_or pages id d).words ≡ page_of r.pool id) → IsClaimOf r k claim pages (length r.pool + 1)
claim-is r k claim pages are fit raw each =
    let table : List ℕ = (checkpoint_at r k).table in
    let named : IsNamed r.pool claim.pages = subst (IsNamed r.pool) (sym raw.pages_are) fit.named in
    let words : memory_of pages claim.pages ≡ table_words r.pool table = memory_is r.pool pages claim.pages named each ∙ ap (table_words r.pool) raw.pages_are in
    let long : length (table_words r.pool table) ≡ length table * 256 = length_pages r.pool table (λ i d h. (IsPage-page_of r.pool (get_or table i d) are (fit.named i d h)).whole) in
    let whole : length table ≡ 1024 = fit.table.count in
    let same : length (memory_of pages claim.pages) ≡ length (table_words r.pool table) = ap (λ (l : List ℕ). length l) words in
    record {
      count_is = raw.count_is;
      state_is = λ i. record { cpu = raw.cpu_is i; devices = raw.devices_are i; words = words i };
      sent_is = raw.sent_is;
      named = λ i d h. let n : get_or claim.pages i d ≤ length r.pool = named i d h in omega arith;
      written = record { is_whole = record { whole = omega arith; cpu = raw.cpu; devices = raw.devices }; padded = raw.padded };
    }
