-- What the segment verdicts of all shares are, if this is the verdict on their recording.
use Rattle.std.proofs.Common.{◌≡◌, ℕ, zero, suc, ◌+◌, ◌-◌, ◌<◌, ◌≤◌, List, length, get_or, Option, None, Some, refl, ap, sym, ◌∙◌, subst, arith, ⊎_elim}
use Rattle.std.specs.Prelude.{All, Contains}
use mathlib.Core.Logic.{dite}
use native.Mathlib.Decide.{dec_lt}
use Rattle.oberon_claims.specs.Pass.{PassRecord}
use Rattle.oberon_claims.specs.Ledger.{all_reported, IsLeastOf}
use Rattle.oberon_format.specs.Recording.{RecordingParts, IsLawfulWithDisk, last_of}
use Rattle.oberon_format.specs.Defined.{Outcome, claimed, defined, IsTrueAt}
use Rattle.oberon_check.specs.declared.part.Part.{Part}
use Rattle.oberon_check.specs.declared.verdict.Verdict.{Verdict}
use Rattle.oberon_check.specs.declared.verdict.Verdict.TheVariants.{Accepted, FalseAt}
use Rattle.oberon_check.specs.Difference.{first_difference, IsDifference}
use Rattle.oberon_check.specs.Segment.{replayed, IsSegmentPart, SegmentVerdictRecord, IsTrueSegmentVerdict}
use Rattle.oberon_check.specs.Collecting.{segment_at, part_at, OccursBelow}
use Rattle.oberon_check.specs.Verdict.{IsVerdict}
use Rattle.oberon_check.specs.Work.{DoneRecord}
use Rattle.oberon_check.specs.Gathering.{IsEachOnce, HasSegmentVerdict, below_answer, HasAnswer, IsAfterLeast, IsGathered, all_verdicts, passes_of}
use Rattle.oberon_check.proofs.Replays.{HoldBelow, replayed-defined}
use Rattle.oberon_check.proofs.Collects.{IsTruth, truth}
use Rattle.oberon_check.proofs.Tallying.{not_some}
use Rattle.oberon_check.proofs.Parts.{not_first}
use Rattle.oberon_check.proofs.Gathered.{AllBack, at_most_once, occurs_or_after, reported_occurs}

-- if the checkpoints up to n are true, the segments below n hold
hold_of : (r : RecordingParts) → IsLawfulWithDisk r → (n : ℕ) → n ≤ last_of r → ((k : ℕ) → 0 < k → k ≤ n → IsTrueAt r k) → HoldBelow r n
hold_of r lawful zero inside truths j below = absurd (omega arith)
hold_of r lawful (suc n) inside truths j below =
    let before = hold_of r lawful n (omega arith) (λ k some within. truths k some (omega arith)) in
    dite (dec_lt j n)
    (λ (small : j < n). before j small)
    (λ last. (let e : n ≡ j = omega arith in
    subst (λ (i : ℕ). claimed r (i + 1) ≡ replayed r i) e
    (truths (n + 1) (omega arith) (omega arith) ∙ sym (replayed-defined r lawful n (omega arith) before))))

-- the segments below the answer's are segments of the recording, and hold
below_within : (r : RecordingParts) (v : Verdict) → IsVerdict r v → below_answer v ≤ last_of r
below_within r (Accepted checkpoints steps) is = let e = is.checkpoints_is in omega arith
below_within r (FalseAt checkpoint count part) is = let inside = is.inside in omega arith

hold_below_answer : (r : RecordingParts) → IsLawfulWithDisk r → (v : Verdict) → IsVerdict r v → HoldBelow r (below_answer v)
hold_below_answer r lawful (Accepted checkpoints steps) is =
    let e = is.checkpoints_is in
    hold_of r lawful checkpoints (omega arith) (λ k some within. is.true_at k some (omega arith))
hold_below_answer r lawful (FalseAt checkpoint count part) is =
    let inside = is.inside in
    let above = is.above in
    hold_of r lawful (checkpoint - 1) (omega arith) (λ k some within. is.before k some (omega arith))

-- if two outcomes are the same, no part differs
no_part : (x y : Outcome) (o : Option Part) → x ≡ y → IsDifference x y o → o ≡ None
no_part x y None same is = refl
no_part x y (Some p) same is = absurd (not_first x y p same is)

-- the first part in which two outcomes differ is the only one
this_part : (x y : Outcome) (p : Part) (o : Option Part) → first_difference x y ≡ Some p → IsDifference x y o → o ≡ Some p
this_part x y p None first same = absurd (not_first x y p same first)
this_part x y p (Some q) first is = sym is ∙ first

-- a verdict of a segment below the answer's says that the segment held
held_below : (r : RecordingParts) → IsLawfulWithDisk r → (vs : List SegmentVerdictRecord) → ((k : ℕ) → k < length vs → IsTruth r vs k) → (v : Verdict) → IsVerdict r v
    → (k : ℕ) → k < length vs → segment_at vs k < below_answer v → part_at vs k ≡ None
held_below r lawful vs truths v is k inside below =
    no_part _ _ (part_at vs k) (hold_below_answer r lawful v is (segment_at vs k) below) (truths k inside).replay

-- so no segment below the answer's was reported
none_reported_below : (r : RecordingParts) (cut : ℕ) (ps : List PassRecord) (vs : List SegmentVerdictRecord) → AllBack (last_of r) cut ps vs → IsLawfulWithDisk r → ((k : ℕ) → k < length vs → IsTruth r vs k)
    → (v : Verdict) → IsVerdict r v → (x : ℕ) → Contains (all_reported ps) x → x < below_answer v → ⊥
none_reported_below r cut ps vs b lawful truths v is x reported below =
    let k = reported_occurs (last_of r) cut ps vs b x reported in
    let at = k.2 in
    not_some _ (held_below r lawful vs truths v is k.0 k.1 (omega arith)) k.3

-- each segment up to the answer's has a verdict
occurs_to : (r : RecordingParts) (cut : ℕ) (ps : List PassRecord) (vs : List SegmentVerdictRecord) → AllBack (last_of r) cut ps vs → IsLawfulWithDisk r → ((k : ℕ) → k < length vs → IsTruth r vs k)
    → (v : Verdict) → IsVerdict r v → (s : ℕ) → s < last_of r → s ≤ below_answer v → OccursBelow vs (length vs) s
occurs_to r cut ps vs b lawful truths v is s inside within =
    ⊎_elim
    (λ (occurs : OccursBelow vs (length vs) s). occurs)
    (λ (w : (x : ℕ) × Contains (all_reported ps) x × (x < s)). (let before = w.2 in absurd (none_reported_below r cut ps vs b lawful truths v is w.0 w.1 (omega arith))))
    (occurs_or_after (last_of r) cut ps vs b s inside)

has_below : (r : RecordingParts) (cut : ℕ) (ps : List PassRecord) (vs : List SegmentVerdictRecord) → AllBack (last_of r) cut ps vs → IsLawfulWithDisk r → ((k : ℕ) → k < length vs → IsTruth r vs k)
    → (v : Verdict) → IsVerdict r v → (s : ℕ) → s < below_answer v → HasSegmentVerdict r vs s None
has_below r cut ps vs b lawful truths v is s below =
    let within = below_within r v is in
    let at = occurs_to r cut ps vs b lawful truths v is s (omega arith) (omega arith) in
    let here = at.2 in
    record {
      at = at.0;
      inside = at.1;
      segment_is = here;
      part_is = held_below r lawful vs truths v is at.0 at.1 (omega arith);
      replay = hold_below_answer r lawful v is s below;
    }

has_answer : (r : RecordingParts) (cut : ℕ) (ps : List PassRecord) (vs : List SegmentVerdictRecord) → AllBack (last_of r) cut ps vs → IsLawfulWithDisk r → ((k : ℕ) → k < length vs → IsTruth r vs k)
    → (v : Verdict) → IsVerdict r v → HasAnswer r vs v
has_answer r cut ps vs b lawful truths (Accepted checkpoints steps) is = tt
has_answer r cut ps vs b lawful truths (FalseAt checkpoint count part) is =
    let above = is.above in
    let within = is.inside in
    let s : ℕ = checkpoint - 1 in
    let next : s + 1 ≡ checkpoint = omega arith in
    let inside : s < last_of r = omega arith in
    let hold = hold_below_answer r lawful (FalseAt checkpoint count part) is in
    let same : replayed r s ≡ defined r (s + 1) = replayed-defined r lawful s inside hold in
    let P : (ℕ × Outcome) → Type 0 = λ x. first_difference (claimed r x.0) x.1 ≡ Some part in
    let first : first_difference (claimed r (s + 1)) (replayed r s) ≡ Some part = subst P (λ i. (sym next i, (ap (λ (n : ℕ). defined r n) (sym next) ∙ sym same) i)) is.differs in
    let at = occurs_to r cut ps vs b lawful truths (FalseAt checkpoint count part) is s inside (omega arith) in
    let Q : ℕ → Type 0 = λ n. IsSegmentPart r n (part_at vs at.0) in
    let replay = subst Q at.2 (truths at.0 at.1).replay in
    record {
      at = at.0;
      inside = at.1;
      segment_is = at.2;
      part_is = this_part _ _ part (part_at vs at.0) first replay;
      replay = first;
    }

-- a segment without a verdict is after the least segment reported
after_least : (last cut : ℕ) (ps : List PassRecord) (vs : List SegmentVerdictRecord) → AllBack last cut ps vs → (least : Option ℕ) → IsLeastOf (all_reported ps) least → (s : ℕ) → s < last → ¬ (OccursBelow vs (length vs) s) → IsAfterLeast (all_reported ps) s
after_least last cut ps vs b least is s inside not =
    ⊎_elim
    (λ (occurs : OccursBelow vs (length vs) s). absurd (not occurs))
    (λ (w : (x : ℕ) × Contains (all_reported ps) x × (x < s)). of least is w.0 w.1 w.2)
    (occurs_or_after last cut ps vs b s inside)
  where
    of : (o : Option ℕ) → IsLeastOf (all_reported ps) o → (x : ℕ) → Contains (all_reported ps) x → x < s → IsAfterLeast (all_reported ps) s
    of None none x reported before = let none_there = subst (λ (l : List ℕ). Contains l x) none reported in let h = none_there.1 in absurd (omega arith)
    of (Some y) is x reported before =
        let at : get_or (all_reported ps) reported.0 x ≡ x = reported.2 in
        let le : y ≤ get_or (all_reported ps) reported.0 x = is.1 reported.0 x reported.1 in
        (y, is, omega arith)

each_once : (last cut : ℕ) (ps : List PassRecord) (vs : List SegmentVerdictRecord) → AllBack last cut ps vs → IsEachOnce vs
each_once last cut ps vs b j k inside_j inside_k same =
    dite (dec_lt j k)
    (λ (before : j < k). absurd (at_most_once last cut ps vs b j k before inside_k same))
    (λ not. dite (dec_lt k j)
    (λ (after : k < j). absurd (at_most_once last cut ps vs b k j after inside_j (sym same)))
    (λ nor. omega arith))

pub answered : (r : RecordingParts) (cut : ℕ) (ds : List DoneRecord) → AllBack (last_of r) cut (passes_of ds) (all_verdicts ds) → All (λ v. v.recording ≡ r) (all_verdicts ds)
    → (least : Option ℕ) → IsLeastOf (all_reported (passes_of ds)) least → IsLawfulWithDisk r → All IsTrueSegmentVerdict (all_verdicts ds) → (v : Verdict) → IsVerdict r v → IsGathered r ds v
answered r cut ds b of least is_least lawful each v is =
    let truths = truth r (all_verdicts ds) of each in record {
      once = each_once (last_of r) cut (passes_of ds) (all_verdicts ds) b;
      below = has_below r cut (passes_of ds) (all_verdicts ds) b lawful truths v is;
      answer = has_answer r cut (passes_of ds) (all_verdicts ds) b lawful truths v is;
      skipped = after_least (last_of r) cut (passes_of ds) (all_verdicts ds) b least is_least;
    }
