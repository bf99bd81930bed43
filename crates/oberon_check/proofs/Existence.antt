-- A lawful recording has a verdict.
use Rattle.std.proofs.Common.{◌≡◌, ◌⊎◌, ◌↔◌, ℕ, zero, suc, ◌<◌, ◌≤◌, length, Option, None, Some, refl, ◌∙◌, subst, arith, inl, inr, ⊎_elim}
use mathlib.Core.Logic.{dite}
use native.Mathlib.Decide.{dec_lt}
use Rattle.oberon_format.specs.Recording.{RecordingParts, IsLawfulWithDisk, checkpoint_at, count_at, last_of}
use Rattle.oberon_format.specs.Defined.{Outcome, claimed, defined, IsTrueAt}
use Rattle.oberon_check.specs.declared.part.Part.{Part}
use Rattle.oberon_check.specs.declared.verdict.Verdict.{Verdict}
use Rattle.oberon_check.specs.declared.verdict.Verdict.TheVariants.{Accepted, FalseAt}
use Rattle.oberon_check.specs.Difference.{first_difference}
use Rattle.oberon_check.specs.Verdict.{IsFirstFalse, IsVerdict}
use Rattle.oberon_check.proofs.Parts.{none_differs, same_in_all}
use Rattle.oberon_check.proofs.Sizes.{IsSized, run_of-sizes, length-table_words}

-- no part differs, or there is a first one that does
none_or_some : (o : Option Part) → (o ≡ None) ⊎ ((p : Part) × (o ≡ Some p))
none_or_some None = inl refl
none_or_some (Some p) = inr (p, refl)

claimed-sized : (r : RecordingParts) → IsLawfulWithDisk r → (k : ℕ) → k < length r.checkpoints → IsSized (claimed r k).state
claimed-sized r lawful k inside =
    let fit = lawful.fit k inside in
    let count = fit.table.count in
    let words = length-table_words r.pool (checkpoint_at r k).table lawful.pool fit.named in
    record { registers = fit.cpu.count; words = omega arith }

defined-sized : (r : RecordingParts) → IsLawfulWithDisk r → (k : ℕ) → IsSized (defined r k).state
defined-sized r lawful k =
    let first = claimed-sized r lawful 0 lawful.some in
    let kept = run_of-sizes r.inputs 0 (count_at r k) (claimed r 0).state in
    record { registers = kept.registers ∙ first.registers; words = kept.words ∙ first.words }

true_if_none : (r : RecordingParts) → IsLawfulWithDisk r → (k : ℕ) → k ≤ last_of r → first_difference (claimed r k) (defined r k) ≡ None → IsTrueAt r k
true_if_none r lawful k inside none =
    let some = lawful.some in
    same_in_all (claimed r k) (defined r k) (claimed-sized r lawful k (omega arith)) (defined-sized r lawful k) none

-- a checkpoint is true exactly if no part differs
pub none_if_true : (r : RecordingParts) → IsLawfulWithDisk r → (k : ℕ) → k ≤ last_of r → (first_difference (claimed r k) (defined r k) ≡ None) ↔ IsTrueAt r k
none_if_true r lawful k inside = (
  true_if_none r lawful k inside,
  λ same. subst (λ (o : Outcome). first_difference (claimed r k) o ≡ None) same (none_differs (claimed r k)),
)

-- a checkpoint is true, or there is a first part in which it differs
true_or_false : (r : RecordingParts) → IsLawfulWithDisk r → (k : ℕ) → k ≤ last_of r → IsTrueAt r k ⊎ ((p : Part) × (first_difference (claimed r k) (defined r k) ≡ Some p))
true_or_false r lawful k inside =
    elim (none_or_some (first_difference (claimed r k) (defined r k))) [
      | inl none ↦ inl (true_if_none r lawful k inside none)
      | inr first ↦ inr first
    ]

-- all checkpoints up to one are true, or there is a first false one
scan : (r : RecordingParts) → IsLawfulWithDisk r → (n : ℕ) → n ≤ last_of r → ((k : ℕ) → 0 < k → k ≤ n → IsTrueAt r k) ⊎ ((k : ℕ) × (p : Part) × IsFirstFalse r k (count_at r k) p)
scan r lawful zero inside = inl (λ k some few. absurd (omega arith))
scan r lawful (suc n) inside =
    ⊎_elim
    (λ (all : (k : ℕ) → 0 < k → k ≤ n → IsTrueAt r k).
    ⊎_elim
    (λ (here : IsTrueAt r (suc n)).
    inl (λ k some few. dite (dec_lt k (suc n)) (λ (below : k < suc n). all k some (omega arith)) (λ past. (let e : suc n ≡ k = omega arith in subst (IsTrueAt r) e here))))
    (λ (f : (p : Part) × (first_difference (claimed r (suc n)) (defined r (suc n)) ≡ Some p)).
    inr (suc n, f.0, record { above = omega arith; inside = inside; before = λ j some below. all j some (omega arith); differs = f.1; count_is = refl }))
    (true_or_false r lawful (suc n) inside))
    (λ (f : (k : ℕ) × (p : Part) × IsFirstFalse r k (count_at r k) p). inr f)
    (scan r lawful n (omega arith))

pub some_verdict : (r : RecordingParts) → IsLawfulWithDisk r → (v : Verdict) × IsVerdict r v
some_verdict r lawful =
    ⊎_elim
    (λ (all : (k : ℕ) → 0 < k → k ≤ last_of r → IsTrueAt r k).
    (Accepted (last_of r) (count_at r (last_of r)), record { true_at = all; checkpoints_is = refl; steps_is = refl }))
    (λ (f : (k : ℕ) × (p : Part) × IsFirstFalse r k (count_at r k) p). (FalseAt f.0 (count_at r f.0) f.1, f.2))
    (scan r lawful (last_of r) (omega arith))
