-- The law of a session's first table.
use Rattle.std.proofs.Common.{◌≡◌, ◌≢◌, ℕ, zero, suc, ◌+◌, ◌-◌, ◌<◌, ◌≤◌, inl, inr, List, ap, arith, get_or-set_other, length, subst, sym, ◌∙◌}
use Rattle.std.proofs.lemmas.Bool.{cases_lt}
use Rattle.std.proofs.lemmas.Grind.{get_or-set_at}
use Rattle.std.proofs.lemmas.List.{length-map}
use Rattle.std.specs.List.{All}
use Rattle.std.specs.List.Sorted.{IsStrictlyIncreasing}
use Rattle.std.specs.Prelude.{slice_index}
use Rattle.risc_pages.proofs.PoolLemmas.{zero_number}
use Rattle.oberon_session.proofs.Begun.{length-numbered}
use Rattle.oberon_session.proofs.PagesStored.{numbered-none, numbered-suc}
use Rattle.oberon_session.specs.Digits.{PlacedWords}
use Rattle.oberon_session.specs.Laws.{FirstTableLaw}
use Rattle.oberon_session.specs.Recorded.{numbered}
use Rattle.oberon_session.specs.SessionParts.{slots_in}

-- an earlier one of rising numbers is below a later one
rises-to : (xs : List ℕ) → IsStrictlyIncreasing xs → (i more : ℕ) → i + suc more < length xs → slice_index xs i < slice_index xs (i + suc more)
rises-to xs rising i zero inside =
    let next : i + 1 ≡ i + suc zero = omega arith in
    subst (λ (j : ℕ). slice_index xs i < slice_index xs j) next (rising i (omega arith))
rises-to xs rising i (suc more) inside =
    let before = rises-to xs rising i more (omega arith) in
    let step : slice_index xs (i + suc more) < slice_index xs (i + suc more + 1) = rising (i + suc more) (omega arith) in
    let next : i + suc more + 1 ≡ i + suc (suc more) = omega arith in
    subst (λ (j : ℕ). slice_index xs i < slice_index xs j) next (omega arith)

module _ (pages : List PlacedWords) where
  -- the slots of the first n pages have the page ids 1 to n
  named-so : IsStrictlyIncreasing (slots_in pages) → All (λ slot. slot < 1024) (slots_in pages) → (n i : ℕ) → n ≤ length (slots_in pages) → i < n
      → slice_index (numbered pages n) (slice_index (slots_in pages) i) ≡ i + 1
  named-so rising low zero i inside lt = absurd (omega arith)
  named-so rising low (suc n) i inside lt = elim (cases_lt i n) [
    | inl before ↦
        let gap : i + suc (n - suc i) ≡ n = omega arith in
        let below : slice_index (slots_in pages) i < slice_index (slots_in pages) n =
        subst (λ (j : ℕ). slice_index (slots_in pages) i < slice_index (slots_in pages) j) gap (rises-to (slots_in pages) rising i (n - suc i) (omega arith)) in
        let apart : slice_index (slots_in pages) i ≢ slice_index (slots_in pages) n = λ same. absurd (omega arith) in
        ap (λ (t : List ℕ). slice_index t (slice_index (slots_in pages) i)) (numbered-suc pages n)
        ∙ get_or-set_other (numbered pages n) (slice_index (slots_in pages) n) (slice_index (slots_in pages) i) (suc n) 0 apart
        ∙ named-so rising low n i (omega arith) before
    | inr last ↦
        let same : i ≡ n = omega arith in
        let there : slice_index (slots_in pages) n < 1024 = low n 0 (omega arith) in
        let number : suc n ≡ i + 1 = omega arith in
        ap (λ (t : List ℕ). slice_index t (slice_index (slots_in pages) i)) (numbered-suc pages n)
        ∙ get_or-set_at (numbered pages n) (slice_index (slots_in pages) n) (slice_index (slots_in pages) i) (suc n) 0
        (ap (λ (j : ℕ). slice_index (slots_in pages) j) same) (omega (arith, length-numbered pages n))
        ∙ number
  ]

  -- and all other slots have page id 0
  zeros-so : (p : ℕ) → All (λ slot. slot ≢ p) (slots_in pages) → (n : ℕ) → n ≤ length (slots_in pages) → slice_index (numbered pages n) p ≡ 0
  zeros-so p none zero inside = ap (λ (t : List ℕ). slice_index t p) (numbered-none pages) ∙ zero_number p
  zeros-so p none (suc n) inside =
      let apart : p ≢ slice_index (slots_in pages) n = λ same. none n 0 (omega arith) (sym same) in
      ap (λ (t : List ℕ). slice_index t p) (numbered-suc pages n)
      ∙ get_or-set_other (numbered pages n) (slice_index (slots_in pages) n) p (suc n) 0 apart
      ∙ zeros-so p none n (omega arith)

pub first-table-law : FirstTableLaw
first-table-law pages rising low =
    let many = length-map pages (λ (page : PlacedWords). page.at) in
    record {
      pages_named = λ i lt. named-so pages rising low (length pages) i (omega (arith, many)) lt;
      others_zero = λ p none. zeros-so pages p none (length pages) (omega (arith, many));
    }
