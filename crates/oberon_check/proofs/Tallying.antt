-- The tally after one more verdict.
use Rattle.std.proofs.Common.{◌≡◌, ◌≢◌, ◌⊎◌, ℕ, ◌+◌, ◌<◌, ◌≤◌, List, length, get_or, replicate, Bool, true, false, nat_lt, Option, None, Some, refl, ap, sym, ◌∙◌, subst, arith, true≢false, inl, inr, ⊎_elim, lt_of_not-le}
use Rattle.std.proofs.Math.ListN.{set}
use Rattle.std.specs.Prelude.{IsSome, ◌↔◌, if◌then◌else◌}
use Rattle.std.proofs.lemmas.List.{get_or-map, get_or-set_same, get_or-set_other, get_or_default}
use Rattle.std.proofs.lemmas.Bool.Decides.{nat_tests}
use mathlib.Core.Logic.{dite}
use native.Mathlib.Decide.{dec_le, ℕ_discrete}
use Rattle.risc_pages.proofs.PoolLemmas.{replicate_anywhere}
use Rattle.oberon_check.specs.declared.collector.TheConstants.{MAX_SEGMENTS}
use Rattle.oberon_check.specs.declared.part.Part.{Part}
use Rattle.oberon_check.specs.Segment.{SegmentVerdictRecord, IsTrueSegmentVerdict}
use Rattle.oberon_check.specs.Collecting.{segment_at, part_at, OccursBelow}
use Rattle.oberon_check.specs.inner.Tally.{IsTally, IsLeastFailed, IsMarked, lesser_of}

pub segment_here : (vs : List SegmentVerdictRecord) (k : ℕ) (v : SegmentVerdictRecord) → k < length vs → v ≡ get_or vs k v → segment_at vs k ≡ v.segment
segment_here vs k v inside is = get_or-map (λ (t : SegmentVerdictRecord). t.segment) vs k v 0 inside ∙ ap (λ (t : SegmentVerdictRecord). t.segment) (sym is)

pub part_here : (vs : List SegmentVerdictRecord) (k : ℕ) (v : SegmentVerdictRecord) → k < length vs → v ≡ get_or vs k v → part_at vs k ≡ v.part
part_here vs k v inside is = get_or-map (λ (t : SegmentVerdictRecord). t.part) vs k v None inside ∙ ap (λ (t : SegmentVerdictRecord). t.part) (sym is)

pub tally_none : (vs : List SegmentVerdictRecord) (n : ℕ) → IsTally vs 0 (replicate n false) None
tally_none vs n = record {
  marks = λ s few. ((λ m. absurd (true≢false (sym m ∙ replicate_anywhere n false s))), (λ (occurs : OccursBelow vs 0 s). let h = occurs.1 in absurd (omega arith)));
  single = λ k below. absurd (omega arith);
  least_failed = λ k below. absurd (omega arith);
}

-- segments that occur among the first n + 1 verdicts, and the marks of those
occurs_snoc : (vs : List SegmentVerdictRecord) (n s : ℕ) → OccursBelow vs (n + 1) s → OccursBelow vs n s ⊎ (segment_at vs n ≡ s)
occurs_snoc vs n s (k, below, is) =
    dite (dec_le n k)
    (λ (at : n ≤ k). inr (let e : n ≡ k = omega arith in ap (λ (i : ℕ). segment_at vs i) e ∙ is))
    (λ before. inl (k, lt_of_not-le before, is))

occurs_still : (vs : List SegmentVerdictRecord) (n s : ℕ) → OccursBelow vs n s → OccursBelow vs (n + 1) s
occurs_still vs n s (k, below, is) = (k, omega arith, is)

marks_more : (vs : List SegmentVerdictRecord) (n : ℕ) (seen : List Bool) (new : ℕ) → length seen ≡ MAX_SEGMENTS → new < MAX_SEGMENTS → segment_at vs n ≡ new
    → ((s : ℕ) → s < MAX_SEGMENTS → IsMarked seen s ↔ OccursBelow vs n s)
    → (s : ℕ) → s < MAX_SEGMENTS → IsMarked (set seen new true) s ↔ OccursBelow vs (n + 1) s
marks_more vs n seen new whole few here marks s inside =
    dite (ℕ_discrete s new)
    (λ (same : s ≡ new). ((λ _. (n, omega arith, here ∙ sym same)), (λ _. ap (λ (i : ℕ). get_or (set seen new true) i false) same ∙ get_or-set_same seen new true false (omega arith))))
    (λ (other : s ≢ new). (
      (λ m. occurs_still vs n s ((marks s inside).0 (sym (get_or-set_other seen new s true false other) ∙ m))),
      (λ occurs. get_or-set_other seen new s true false other ∙ (marks s inside).1 (
          ⊎_elim (λ (old : OccursBelow vs n s). old) (λ (is : segment_at vs n ≡ s). absurd (other (sym is ∙ here))) (occurs_snoc vs n s occurs))),
    ))

-- what is true of each number below n and of n is true of each number below n + 1
below_also : (P : ℕ → Type 0) (n : ℕ) → ((k : ℕ) → k < n → P k) → P n → (k : ℕ) → k < n + 1 → P k
below_also P n below here k small =
    dite (dec_le n k) (λ (at : n ≤ k). (let e : n ≡ k = omega arith in subst P e here)) (λ before. below k (lt_of_not-le before))

pub not_some : (o : Option Part) → o ≡ None → IsSome o → ⊥
not_some None e is = true≢false (sym is)
not_some (Some x) e is = cc

least_more : (vs : List SegmentVerdictRecord) (n : ℕ) (least : Option (ℕ × Part)) (s : ℕ) (o : Option Part) → segment_at vs n ≡ s → part_at vs n ≡ o → IsLeastFailed vs n least → IsLeastFailed vs (n + 1) (lesser_of least s o)
least_more vs n None s None here part is = below_also (λ k. part_at vs k ≡ None) n is part
least_more vs n (Some f) s None here part is = (
  (is.0.0, (let h = is.0.1 in omega arith), is.0.2, is.0.3),
  below_also (λ k. IsSome (part_at vs k) → f.0 ≤ segment_at vs k) n is.1 (λ some. absurd (not_some _ part some)),
)
least_more vs n None s (Some p) here part is = (
  (n, omega arith, here, part),
  below_also (λ k. IsSome (part_at vs k) → s ≤ segment_at vs k) n (λ k small some. absurd (not_some _ (is k small) some)) (λ some. omega arith),
)
least_more vs n (Some f) s (Some p) here part is = go (nat_lt s f.0) refl
  where
    go : (b : Bool) → nat_lt s f.0 ≡ b → IsLeastFailed vs (n + 1) (if b then Some (s, p) else Some f)
    go true e =
        let lt : s < f.0 = grind (arith, nat_tests) in (
          (n, omega arith, here, part),
          below_also (λ k. IsSome (part_at vs k) → s ≤ segment_at vs k) n (λ k small some. (let h = is.1 k small some in omega arith)) (λ some. omega arith),
        )
    go false e =
        let le : f.0 ≤ s = grind (arith, nat_tests) in (
          (is.0.0, (let h = is.0.1 in omega arith), is.0.2, is.0.3),
          below_also (λ k. IsSome (part_at vs k) → f.0 ≤ segment_at vs k) n is.1 (λ some. omega arith),
        )

pub tally_more : (vs : List SegmentVerdictRecord) (n : ℕ) (seen : List Bool) (least : Option (ℕ × Part)) (s : ℕ) (o : Option Part)
    → IsTally vs n seen least → segment_at vs n ≡ s → part_at vs n ≡ o → length seen ≡ MAX_SEGMENTS → s < MAX_SEGMENTS → get_or seen s false ≡ false
    → IsTally vs (n + 1) (set seen s true) (lesser_of least s o)
tally_more vs n seen least s o tally here part whole few unseen = record {
  marks = marks_more vs n seen s whole few here tally.marks;
  single = below_also (λ k. OccursBelow vs k (segment_at vs k) → ⊥) n tally.single
      (λ (occurs : OccursBelow vs n (segment_at vs n)). true≢false (sym ((tally.marks s few).1 (occurs.0, occurs.1, occurs.2 ∙ here)) ∙ unseen));
  least_failed = least_more vs n least s o here part tally.least_failed;
}

pub reported_more : (vs : List SegmentVerdictRecord) (n : ℕ) (v : SegmentVerdictRecord) → ((k : ℕ) (d : SegmentVerdictRecord) → k < n → IsTrueSegmentVerdict (get_or vs k d)) → n < length vs → v ≡ get_or vs n v → IsTrueSegmentVerdict v
    → (k : ℕ) (d : SegmentVerdictRecord) → k < n + 1 → IsTrueSegmentVerdict (get_or vs k d)
reported_more vs n v each inside is here k d small =
    dite (dec_le n k)
    (λ (at : n ≤ k). (let e : n ≡ k = omega arith in
    let w : v ≡ get_or vs k d = is ∙ get_or_default vs n v d inside ∙ ap (λ (i : ℕ). get_or vs i d) e in subst IsTrueSegmentVerdict w here))
    (λ before. each k d (lt_of_not-le before))
