-- The verdict that follows from segment verdicts, if each segment that needs one has one.
use Rattle.std.proofs.Common.{◌≡◌, ℕ, zero, suc, ◌+◌, ◌-◌, ◌<◌, ◌≤◌, List, length, get_or, Bool, Option, None, Some, refl, ap, sym, ◌∙◌, subst, arith}
use Rattle.std.specs.Prelude.{All, IsSome}
use Rattle.std.proofs.lemmas.List.{get_or_default}
use Rattle.oberon_format.specs.Recording.{RecordingParts, IsLawfulWithDisk, count_at, last_of}
use Rattle.oberon_format.specs.Defined.{Outcome, claimed, IsTrueAt}
use Rattle.oberon_check.specs.declared.collector.TheConstants.{MAX_SEGMENTS}
use Rattle.oberon_check.specs.declared.part.Part.{Part}
use Rattle.oberon_check.specs.declared.collector.CollectFault.{CollectFault}
use Rattle.oberon_check.specs.declared.collector.CollectFault.TheVariants.{Double, Missing}
use Rattle.oberon_check.specs.Difference.{first_difference}
use Rattle.oberon_check.specs.Verdict.{IsAccepted, IsFirstFalse}
use Rattle.oberon_check.specs.Segment.{replayed, IsSegmentPart, SegmentVerdictRecord, IsTrueSegmentVerdict}
use Rattle.oberon_check.specs.Collecting.{segment_at, part_at, OccursBelow, IsFirstDouble, IsCollectFault}
use Rattle.oberon_check.specs.inner.Tally.{IsTally, IsLeastFailed, IsMarked, end_of}
use Rattle.oberon_check.proofs.Replays.{HoldBelow, replayed-defined}
use Rattle.oberon_check.proofs.Tallying.{segment_here, part_here, not_some}

-- verdict k is true of the recording
pub record IsTruth (r : RecordingParts) (vs : List SegmentVerdictRecord) (k : ℕ) : Type 0 where
  pub inside : segment_at vs k < last_of r
  pub replay : IsSegmentPart r (segment_at vs k) (part_at vs k)

pub truth : (r : RecordingParts) (vs : List SegmentVerdictRecord) → All (λ v. v.recording ≡ r) vs → All IsTrueSegmentVerdict vs → (k : ℕ) → k < length vs → IsTruth r vs k
truth r vs of each k inside =
    let blank : SegmentVerdictRecord = record { recording = r; segment = 0; part = None } in
    let v : SegmentVerdictRecord = get_or vs k blank in
    let here : v ≡ get_or vs k v = get_or_default vs k blank v inside in
    let t : IsTrueSegmentVerdict v = each k blank inside in
    let s = segment_here vs k v inside here in
    let p = part_here vs k v inside here in
    let P : (RecordingParts × ℕ × Option Part) → Type 0 = λ x. (x.1 < last_of x.0) × IsSegmentPart x.0 x.1 x.2 in
    let moved = subst P (λ i. (of k blank inside i, sym s i, sym p i)) (t.inside, t.replay) in
    record { inside = moved.0; replay = moved.1 }

-- no segment below the end failed
holds_at : (vs : List SegmentVerdictRecord) (n last : ℕ) (least : Option (ℕ × Part)) → IsLeastFailed vs n least → (k : ℕ) → k < n → segment_at vs k < end_of least last → part_at vs k ≡ None
holds_at vs n last None is k small below = is k small
holds_at vs n last (Some f) is k small below = none_or (part_at vs k) (λ some. (let h = is.1 k small some in omega arith))
  where
    none_or : (o : Option Part) → (IsSome o → ⊥) → o ≡ None
    none_or None never = refl
    none_or (Some x) never = absurd (never refl)

pub hold_below : (r : RecordingParts) (vs : List SegmentVerdictRecord) (n : ℕ) (seen : List Bool) (least : Option (ℕ × Part)) → ((k : ℕ) → k < n → IsTruth r vs k) → IsTally vs n seen least
    → end_of least (last_of r) ≤ MAX_SEGMENTS → ((s : ℕ) → s < end_of least (last_of r) → IsMarked seen s) → HoldBelow r (end_of least (last_of r))
hold_below r vs n seen least truths tally few marked j below =
    let occurs : OccursBelow vs n j = (tally.marks j (omega arith)).0 (marked j below) in
    let k : ℕ = occurs.0 in
    let is : segment_at vs k ≡ j = occurs.2 in
    let held = holds_at vs n (last_of r) least tally.least_failed k occurs.1 (omega arith) in
    let t = (truths k occurs.1).replay in
    let P : (ℕ × Option Part) → Type 0 = λ x. IsSegmentPart r x.0 x.1 in
    subst P (λ i. (is i, held i)) t

-- if the segments below n hold, the checkpoints up to n are true
pub true_to : (r : RecordingParts) → IsLawfulWithDisk r → (n : ℕ) → n ≤ last_of r → HoldBelow r n → (k : ℕ) → 0 < k → k ≤ n → IsTrueAt r k
true_to r lawful n inside hold zero some within = absurd (omega arith)
true_to r lawful n inside hold (suc i) some within =
    let e : i + 1 ≡ suc i = omega arith in
    subst (IsTrueAt r) e (hold i (omega arith) ∙ replayed-defined r lawful i (omega arith) (λ j h. hold j (omega arith)))

-- the least failed segment leads to the first false checkpoint
pub first_false : (r : RecordingParts) (vs : List SegmentVerdictRecord) (n : ℕ) (f : ℕ × Part) (count : ℕ) → count ≡ count_at r (f.0 + 1) → IsLawfulWithDisk r → ((k : ℕ) → k < n → IsTruth r vs k) → IsLeastFailed vs n (Some f) → HoldBelow r f.0 → IsFirstFalse r (f.0 + 1) count f.1
first_false r vs n f count is_count lawful truths is hold =
    let k : ℕ = is.0.0 in
    let t = truths k is.0.1 in
    let inside : f.0 < last_of r = let h = t.inside in let e = is.0.2 in omega arith in
    let P : (ℕ × Option Part) → Type 0 = λ x. IsSegmentPart r x.0 x.1 in
    let differs : first_difference (claimed r (f.0 + 1)) (replayed r f.0) ≡ Some f.1 = subst P (λ i. (is.0.2 i, is.0.3 i)) t.replay in
    record {
      above = omega arith;
      inside = omega arith;
      before = λ j some below. true_to r lawful f.0 (omega arith) hold j some (omega arith);
      differs = subst (λ (x : Outcome). first_difference (claimed r (f.0 + 1)) x ≡ Some f.1) (replayed-defined r lawful f.0 inside hold) differs;
      count_is = is_count;
    }

pub no_double : (vs : List SegmentVerdictRecord) (seen : List Bool) (least : Option (ℕ × Part)) → IsTally vs (length vs) seen least → (s : ℕ) → IsFirstDouble vs s → ⊥
no_double vs seen least tally s d =
    tally.single d.at d.inside (d.occurred.0, d.occurred.1, d.occurred.2 ∙ sym d.is)

end_below : (r : RecordingParts) (vs : List SegmentVerdictRecord) (n s : ℕ) (least : Option (ℕ × Part)) → IsLeastFailed vs n least → s < last_of r → ((k : ℕ) → k < n → IsSome (part_at vs k) → s < segment_at vs k) → s < end_of least (last_of r)
end_below r vs n s None is inside below = inside
end_below r vs n s (Some f) is inside below =
    let h = below is.0.0 is.0.1 (subst IsSome (sym is.0.3) refl) in
    let e = is.0.2 in omega arith

pub no_fault : (r : RecordingParts) (vs : List SegmentVerdictRecord) (seen : List Bool) (least : Option (ℕ × Part)) → IsTally vs (length vs) seen least
    → end_of least (last_of r) ≤ MAX_SEGMENTS → ((s : ℕ) → s < end_of least (last_of r) → IsMarked seen s) → (f : CollectFault) → IsCollectFault r vs f → ⊥
no_fault r vs seen least tally few marked (Double s) d = no_double vs seen least tally s d
no_fault r vs seen least tally few marked (Missing s) (single, m) =
    let h = end_below r vs (length vs) s least tally.least_failed m.inside m.below_failed in
    m.missing ((tally.marks s (omega arith)).0 (marked s h))

pub is_missing : (r : RecordingParts) (vs : List SegmentVerdictRecord) (seen : List Bool) (least : Option (ℕ × Part)) (s : ℕ) → IsTally vs (length vs) seen least
    → end_of least (last_of r) ≤ MAX_SEGMENTS → end_of least (last_of r) ≤ last_of r → s < end_of least (last_of r) → (IsMarked seen s → ⊥) → ((j : ℕ) → j < s → IsMarked seen j) → IsCollectFault r vs (Missing s)
is_missing r vs seen least s tally few within below not before = (
  no_double vs seen least tally,
  record {
    inside = omega arith;
    missing = λ occurs. not ((tally.marks s (omega arith)).1 occurs);
    before = λ j small. (tally.marks j (omega arith)).0 (before j small);
    below_failed = failed_above (last_of r) least tally.least_failed below;
  },
)
  where
    failed_above : (last : ℕ) (l : Option (ℕ × Part)) → IsLeastFailed vs (length vs) l → s < end_of l last → (k : ℕ) → k < length vs → IsSome (part_at vs k) → s < segment_at vs k
    failed_above last None is b k small some = absurd (not_some _ (is k small) some)
    failed_above last (Some f) is b k small some = let h = is.1 k small some in omega arith

pub end_within : (r : RecordingParts) (vs : List SegmentVerdictRecord) (n : ℕ) (least : Option (ℕ × Part)) → ((k : ℕ) → k < n → IsTruth r vs k) → IsLeastFailed vs n least → end_of least (last_of r) ≤ last_of r
end_within r vs n None truths is = omega arith
end_within r vs n (Some f) truths is = let h = (truths is.0.0 is.0.1).inside in let e = is.0.2 in omega arith

-- what `collect` knows once each segment below the end is marked
pub record IsCollected (r : RecordingParts) (vs : List SegmentVerdictRecord) (seen : List Bool) (least : Option (ℕ × Part)) : Type 0 where
  pub lawful : IsLawfulWithDisk r
  pub truths : (k : ℕ) → k < length vs → IsTruth r vs k
  pub tally : IsTally vs (length vs) seen least
  pub within : end_of least (last_of r) ≤ last_of r
  pub few : end_of least (last_of r) ≤ MAX_SEGMENTS
  pub marked : (s : ℕ) → s < end_of least (last_of r) → IsMarked seen s

pub collected : (r : RecordingParts) (vs : List SegmentVerdictRecord) (seen : List Bool) (least : Option (ℕ × Part)) (count end : ℕ) → IsLawfulWithDisk r → All (λ v. v.recording ≡ r) vs → All IsTrueSegmentVerdict vs → IsTally vs (length vs) seen least
    → count ≡ length r.checkpoints → end ≡ end_of least (count - 1) → ((s : ℕ) → s < end → IsMarked seen s) → IsCollected r vs seen least
collected r vs seen least count end lawful of each tally is at marked =
    let t = truth r vs of each in
    let w = end_within r vs (length vs) least t tally.least_failed in
    let few = lawful.few in
    let e : end ≡ end_of least (last_of r) = at ∙ ap (λ (n : ℕ). end_of least (n - 1)) is in record {
      lawful = lawful;
      truths = t;
      tally = tally;
      within = w;
      few = omega arith;
      marked = λ s h. marked s (omega arith);
    }

pub collected_false : (r : RecordingParts) (vs : List SegmentVerdictRecord) (seen : List Bool) (least : Option (ℕ × Part)) (f : ℕ × Part) (count : ℕ) → count ≡ count_at r (f.0 + 1) → IsCollected r vs seen least → least ≡ Some f → IsFirstFalse r (f.0 + 1) count f.1
collected_false r vs seen least f count is_count k is =
    let hold = hold_below r vs (length vs) seen least k.truths k.tally k.few k.marked in
    first_false r vs (length vs) f count is_count k.lawful k.truths (subst (IsLeastFailed vs (length vs)) is k.tally.least_failed) (subst (λ (l : Option (ℕ × Part)). HoldBelow r (end_of l (last_of r))) is hold)

pub collected_true : (r : RecordingParts) (vs : List SegmentVerdictRecord) (seen : List Bool) (least : Option (ℕ × Part)) → IsCollected r vs seen least → least ≡ None → (checkpoints steps : ℕ) → checkpoints ≡ last_of r → steps ≡ count_at r (last_of r) → IsAccepted r checkpoints steps
collected_true r vs seen least k is checkpoints steps is_last is_count =
    let hold = hold_below r vs (length vs) seen least k.truths k.tally k.few k.marked in
    record {
      true_at = true_to r k.lawful (last_of r) (omega arith) (subst (λ (l : Option (ℕ × Part)). HoldBelow r (end_of l (last_of r))) is hold);
      checkpoints_is = is_last;
      steps_is = is_count;
    }

pub collected_whole : (r : RecordingParts) (vs : List SegmentVerdictRecord) (seen : List Bool) (least : Option (ℕ × Part)) → IsCollected r vs seen least → (f : CollectFault) → IsCollectFault r vs f → ⊥
collected_whole r vs seen least k = no_fault r vs seen least k.tally k.few k.marked
