-- The worked example of docs/claims.md: three jobs, and the passes A and B, which claimed all of them.
use Rattle.std.proofs.Common.{◌≡◌, ℕ, zero, suc, ◌+◌, ◌<◌, ◌≤◌, List, [], ◌∷◌, length, true, Option, Some, None, inl, inr, refl, sym, subst, arith}
use Rattle.std.proofs.lemmas.Bool.Decides.{nat_tests}
use mathlib.Core.Option.{some, some-injective, some-ne-none}
use lib.ListN.{get_elem?}
use Rattle.oberon_claims.specs.declared.book.View.{View}
use Rattle.oberon_claims.specs.Counts.{times, once_below}
use Rattle.oberon_claims.specs.inner.Book.{IsSeat, IsLegal}

-- the book's own seat, and those of A and B
abbrev pub own : View
own = record { jobs = 3; workers = 2; taken = []; reported = []; shown = []; ends = 0; passes = 0 }

abbrev pub a : View
a = record { jobs = 3; workers = 2; taken = 0 ∷ 2 ∷ []; reported = 5 ∷ 9 ∷ []; shown = 5 ∷ 3 ∷ 3 ∷ []; ends = 1; passes = 1 }

abbrev pub b : View
b = record { jobs = 3; workers = 2; taken = 1 ∷ []; reported = 3 ∷ []; shown = []; ends = 1; passes = 1 }

-- at the end of the example the book is legal: `next` is 5 and `least` is 3
pub example_is_legal : IsLegal 3 2 5 3 (own ∷ a ∷ b ∷ [])
example_is_legal = record {
  few_jobs = omega arith;
  few_workers = omega arith;
  each_once = λ x. grind (arith, nat_tests);
  next_is = refl;
  passes_are = refl;
  seats = each;
  reported_above = λ x there. grind (arith, nat_tests);
  least_reported = inr (omega arith);
  shown_reported = λ x there. grind (arith, nat_tests);
}
  where
    each : (id : ℕ) (v : View) → get_elem? (own ∷ a ∷ b ∷ []) id ≡ some v → IsSeat v
    each zero v e = subst IsSeat (some-injective _ _ e) record { ends_within = omega arith; idle_taken = λ _. refl; idle_reported = λ _. refl; idle_shown = λ _. refl }
    each (suc zero) v e = subst IsSeat (some-injective _ _ e) record { ends_within = omega arith; idle_taken = λ n. absurd (omega arith); idle_reported = λ n. absurd (omega arith); idle_shown = λ n. absurd (omega arith) }
    each (suc (suc zero)) v e = subst IsSeat (some-injective _ _ e) record { ends_within = omega arith; idle_taken = λ n. absurd (omega arith); idle_reported = λ n. absurd (omega arith); idle_shown = λ n. absurd (omega arith) }
    each (suc (suc (suc id))) v e = absurd (some-ne-none v (sym e))

-- a book in which two seats took the same job is not legal, whatever its words are
pub twice_is_not_legal : (next least : ℕ) (v w : View) → v.taken ≡ 0 ∷ [] → w.taken ≡ 0 ∷ [] → IsLegal 3 2 next least (v ∷ w ∷ []) → ⊥
twice_is_not_legal next least v w one two legal =
    let e = legal.each_once 0 in
    let o : once_below 0 (Rattle.std.proofs.Common.min next 3) ≤ 1 = grind (arith, nat_tests) in
    let p : times 0 v.taken ≡ 1 = subst (λ (l : List ℕ). times 0 l ≡ 1) (sym one) refl in
    let q : times 0 w.taken ≡ 1 = subst (λ (l : List ℕ). times 0 l ≡ 1) (sym two) refl in
    absurd (omega arith)
