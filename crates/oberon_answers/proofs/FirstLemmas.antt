-- The verdicts of a recording's first segments.
use Rattle.std.proofs.Common.{◌≡◌, ◌∙◌, ◌<◌, ◌+◌, ◌++◌, ◌∷◌, ℕ, List, [], Option, None, ap, inl, inr, arith, get_or, length, map}
use Rattle.std.specs.Prelude.{IsSome}
use Rattle.std.proofs.lemmas.Bool.{cases_lt}
use Rattle.std.proofs.lemmas.List.{get_or_append_left, get_or_push, length-map, length_push, map_push}
use Rattle.std.proofs.lemmas.List.Elements.{All-push}
use Rattle.oberon_format.specs.Recording.{RecordingParts, last_of}
use Rattle.oberon_check.specs.Collecting.{IsCollectFault, part_at, segment_at}
use Rattle.oberon_check.specs.Segment.{SegmentVerdictRecord}
use Rattle.oberon_check.specs.declared.collector.CollectFault.{CollectFault}
use Rattle.oberon_check.specs.declared.collector.CollectFault.TheVariants.{Double, Missing}
use Rattle.oberon_check.specs.declared.part.Part.{Part}
use Rattle.oberon_answers.specs.inner.Replaying.{AreFirst}

segment_before : (vs : List SegmentVerdictRecord) (v : SegmentVerdictRecord) (k : ℕ) → k < length vs → segment_at (vs ++ v ∷ []) k ≡ segment_at vs k
segment_before vs v k lt =
    let f = λ (w : SegmentVerdictRecord). w.segment in
    ap (λ (ns : List ℕ). get_or ns k 0) (map_push f vs v) ∙ get_or_append_left (map f vs) (v.segment ∷ []) 0 k (omega (arith, length-map vs f))

segment_last : (vs : List SegmentVerdictRecord) (v : SegmentVerdictRecord) (k : ℕ) → length vs ≡ k → segment_at (vs ++ v ∷ []) k ≡ v.segment
segment_last vs v k at =
    let f = λ (w : SegmentVerdictRecord). w.segment in
    ap (λ (ns : List ℕ). get_or ns k 0) (map_push f vs v) ∙ get_or_push (map f vs) v.segment 0 k (length-map vs f ∙ at)

-- the part of the last verdict
pub part_last : (vs : List SegmentVerdictRecord) (v : SegmentVerdictRecord) (k : ℕ) → length vs ≡ k → part_at (vs ++ v ∷ []) k ≡ v.part
part_last vs v k at =
    let f = λ (w : SegmentVerdictRecord). w.part in
    ap (λ (ps : List (Option Part)). get_or ps k None) (map_push f vs v) ∙ get_or_push (map f vs) v.part None k (length-map vs f ∙ at)

-- a verdict more, on the next segment
pub first_more : (r : RecordingParts) (vs : List SegmentVerdictRecord) (v : SegmentVerdictRecord) → AreFirst r vs → v.recording ≡ r → v.segment ≡ length vs
    → AreFirst r (vs ++ v ∷ [])
first_more r vs v first of at = record {
  of_recording = All-push (λ (w : SegmentVerdictRecord). w.recording ≡ r) vs v first.of_recording of;
  in_order = λ k lt.
      elim (cases_lt k (length vs)) [
        | inl less ↦ segment_before vs v k less ∙ first.in_order k less
        | inr more ↦
            let here : length vs ≡ k = omega (arith, length_push vs v) in
            segment_last vs v k here ∙ at ∙ here
      ];
}

-- no segment has two verdicts
no_double : (r : RecordingParts) (vs : List SegmentVerdictRecord) → AreFirst r vs → (segment : ℕ) → ¬ (IsCollectFault r vs (Double segment))
no_double r vs first segment double =
    let k = double.occurred.0 in
    let before : k < double.at = double.occurred.1 in
    let inside : double.at < length vs = double.inside in
    let earlier : segment_at vs k ≡ segment = double.occurred.2 in
    let later : segment_at vs double.at ≡ segment = double.is in
    let one : segment_at vs k ≡ k = first.in_order k (omega arith) in
    let other : segment_at vs double.at ≡ double.at = first.in_order double.at inside in
    absurd (omega arith)

-- each segment has a verdict
pub whole_all : (r : RecordingParts) (vs : List SegmentVerdictRecord) → AreFirst r vs → length vs ≡ last_of r → (fault : CollectFault) → ¬ (IsCollectFault r vs fault)
whole_all r vs first all (Double segment) double = no_double r vs first segment double
whole_all r vs first all (Missing segment) missing =
    let inside : segment < last_of r = missing.1.inside in
    let there : segment < length vs = omega arith in
    missing.1.missing (segment, there, first.in_order segment there)

-- the last verdict is of a segment that failed
pub whole_failed : (r : RecordingParts) (vs : List SegmentVerdictRecord) (last : ℕ) → AreFirst r vs → length vs ≡ last + 1 → IsSome (part_at vs last)
    → (fault : CollectFault) → ¬ (IsCollectFault r vs fault)
whole_failed r vs last first long failed (Double segment) double = no_double r vs first segment double
whole_failed r vs last first long failed (Missing segment) missing =
    let inside : last < length vs = omega arith in
    let below : segment < segment_at vs last = missing.1.below_failed last inside failed in
    let at : segment_at vs last ≡ last = first.in_order last inside in
    let there : segment < length vs = omega arith in
    missing.1.missing (segment, there, first.in_order segment there)
