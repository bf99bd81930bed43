-- A recording has at most one verdict.
use Rattle.std.proofs.Common.{◌≡◌, ℕ, Some, ap, sym, ◌∙◌, subst, arith}
use mathlib.Core.Logic.{dite}
use native.Mathlib.Decide.{dec_lt}
use Rattle.oberon_format.specs.Recording.{RecordingParts, count_at}
use Rattle.oberon_format.specs.Defined.{claimed, defined}
use Rattle.oberon_check.specs.declared.part.Part.{Part}
use Rattle.oberon_check.specs.declared.verdict.Verdict.{Verdict}
use Rattle.oberon_check.specs.declared.verdict.Verdict.TheVariants.{Accepted, FalseAt}
use Rattle.oberon_check.specs.Difference.{first_difference}
use Rattle.oberon_check.specs.Verdict.{IsFirstFalse, IsVerdict}
use Rattle.oberon_check.proofs.Parts.{not_first, one_first}

one_false : (r : RecordingParts) (k j n m : ℕ) (p q : Part) → IsFirstFalse r k n p → IsFirstFalse r j m q → (k ≡ j) × (p ≡ q)
one_false r k j n m p q a b =
    dite (dec_lt k j)
    (λ before. absurd (not_first _ _ p (b.before k a.above before) a.differs))
    (λ not. dite (dec_lt j k)
    (λ after. absurd (not_first _ _ q (a.before j b.above after) b.differs))
    (λ nor. (let same : k ≡ j = omega arith in
    (same, one_first (claimed r j) (defined r j) p q (subst (λ (i : ℕ). first_difference (claimed r i) (defined r i) ≡ Some p) same a.differs) b.differs))))

pub one_verdict : (r : RecordingParts) (v w : Verdict) → IsVerdict r v → IsVerdict r w → v ≡ w
one_verdict r (Accepted k n) (Accepted j m) a b =
    let e : k ≡ j = a.checkpoints_is ∙ sym b.checkpoints_is in let f : n ≡ m = a.steps_is ∙ sym b.steps_is in cc
one_verdict r (Accepted k n) (FalseAt j m p) a b = absurd (not_first _ _ p (a.true_at j b.above b.inside) b.differs)
one_verdict r (FalseAt k n p) (Accepted j m) a b = absurd (not_first _ _ p (b.true_at k a.above a.inside) a.differs)
one_verdict r (FalseAt k n p) (FalseAt j m q) a b =
    let s = one_false r k j n m p q a b in
    let e : k ≡ j = s.0 in
    let g : p ≡ q = s.1 in
    let f : n ≡ m = a.count_is ∙ ap (λ (i : ℕ). count_at r i) e ∙ sym b.count_is in cc
