-- The shares of all workers together: no segment has two verdicts, and each that needs one has one.
use Rattle.std.proofs.Common.{◌≡◌, ◌≢◌, ◌⊎◌, ℕ, zero, suc, ◌+◌, ◌*◌, ◌/◌, ◌%◌, ◌<◌, ◌≤◌, min, List, [], ◌∷◌, ◌++◌, map, length, get_or, Bool, true, false, cond, nat_eq, nat_lt, Option, None, Some, refl, ap, sym, ◌∙◌, subst, arith, inl, inr, ⊎_elim, lt_of_not-le, div-add-mod', mul-le-mul_right}
use Rattle.std.specs.Prelude.{All, Contains, IsSome, MatchOption, is_some}
use Rattle.std.specs.Int.{div_ceil}
use Rattle.std.proofs.lemmas.Grind.{div_ceil_times}
use Rattle.std.proofs.lemmas.List.{length-map, get_or_default}
use Rattle.std.proofs.lemmas.List.Elements.{Contains-append_left, Contains-append_right, Contains-append_cases}
use mathlib.Core.Logic.{dite}
use native.Mathlib.Decide.{dec_le, dec_lt, ℕ_discrete}
use Rattle.oberon_claims.specs.Counts.{times, once_below}
use Rattle.oberon_claims.specs.Pass.{PassRecord}
use Rattle.oberon_claims.specs.Ledger.{all_taken, all_reported, all_shown}
use Rattle.oberon_claims.proofs.Sums.{times_append, times_cons, once_here, one_is, one_same}
use Rattle.oberon_format.specs.Recording.{RecordingParts, last_of}
use Rattle.oberon_check.specs.declared.part.Part.{Part}
use Rattle.oberon_check.specs.declared.collector.CollectFault.{CollectFault}
use Rattle.oberon_check.specs.declared.collector.CollectFault.TheVariants.{Double, Missing}
use Rattle.oberon_check.specs.Segment.{SegmentVerdictRecord, IsSeries}
use Rattle.oberon_check.specs.Collecting.{segment_at, part_at, OccursBelow, IsCollectFault}
use Rattle.oberon_check.specs.Work.{IsJob, IsAfterShown, InPieces, one_failed, failed_of, HasDone}
use Rattle.oberon_check.proofs.Series.{failed_append}

abbrev pub segments : List SegmentVerdictRecord → List ℕ
segments vs = map (λ (v : SegmentVerdictRecord). v.segment) vs

segments_append : (xs ys : List SegmentVerdictRecord) → segments (xs ++ ys) ≡ segments xs ++ segments ys
segments_append [] ys = refl
segments_append (x ∷ xs) ys = ap (λ (l : List ℕ). x.segment ∷ l) (segments_append xs ys)

times_pieces : (s : ℕ) (vs piece rest : List SegmentVerdictRecord) → vs ≡ piece ++ rest → times s (segments vs) ≡ times s (segments piece) + times s (segments rest)
times_pieces s vs piece rest is = ap (λ (l : List SegmentVerdictRecord). times s (segments l)) is ∙ ap (times s) (segments_append piece rest) ∙ times_append s (segments piece) (segments rest)

one_other : (x y : ℕ) → x ≢ y → cond {A = ℕ} (nat_eq x y) 1 0 ≡ 0
one_other x y ne = go (cond (nat_eq x y) 1 0) refl
  where
    go : (n : ℕ) → cond (nat_eq x y) 1 0 ≡ n → cond {A = ℕ} (nat_eq x y) 1 0 ≡ 0
    go zero e = e
    go (suc n) e = absurd (ne (one_is x y (omega arith)))

one_small : (b : Bool) → cond b 1 0 ≤ 1
one_small true = omega arith
one_small false = omega arith

-- after a verdict, a segment does not occur if no series from the next segment on has it: what follows is such a series, or nothing
none_after : (first end s : ℕ) (vs : List SegmentVerdictRecord) (o : Option Part) → (IsSeries first end vs → times s (segments vs) ≡ 0) → MatchOption o (IsSeries first end vs) (λ _. vs ≡ []) → times s (segments vs) ≡ 0
none_after first end s vs None next series = next series
none_after first end s vs (Some p) next is = ap (λ (l : List SegmentVerdictRecord). times s (segments l)) is

-- a segment before the first of a series, or after its end, does not occur in it
series_before : (first end s : ℕ) (vs : List SegmentVerdictRecord) → IsSeries first end vs → s < first → times s (segments vs) ≡ 0
series_before first end s [] h below = refl
series_before first end s (v ∷ vs) h below =
    let here = one_other v.segment s (λ e. (let f = h.1 in absurd (omega arith))) in
    let counted = times_cons s v.segment (segments vs) in
    let rest = none_after (first + 1) end s vs v.part (λ series. series_before (first + 1) end s vs series (omega arith)) h.2 in omega arith

series_past : (first end s : ℕ) (vs : List SegmentVerdictRecord) → IsSeries first end vs → end ≤ s → times s (segments vs) ≡ 0
series_past first end s [] h past = refl
series_past first end s (v ∷ vs) h past =
    let below = h.0 in
    let here = one_other v.segment s (λ e. (let f = h.1 in absurd (omega arith))) in
    let counted = times_cons s v.segment (segments vs) in
    let rest = none_after (first + 1) end s vs v.part (λ series. series_past (first + 1) end s vs series past) h.2 in omega arith

series_once : (first end s : ℕ) (vs : List SegmentVerdictRecord) → IsSeries first end vs → times s (segments vs) ≤ 1
series_once first end s [] h = omega arith
series_once first end s (v ∷ vs) h = tail v.part (λ series. series_once (first + 1) end s vs series) h.2
  where
    tail : (o : Option Part) → (IsSeries (first + 1) end vs → times s (segments vs) ≤ 1) → MatchOption o (IsSeries (first + 1) end vs) (λ _. vs ≡ []) → times s (segments (v ∷ vs)) ≤ 1
    tail None next series =
        dite (ℕ_discrete v.segment s)
        (λ (same : v.segment ≡ s). (let f = h.1 in let counted = times_cons s v.segment (segments vs) in let rest = series_before (first + 1) end s vs series (omega arith) in let one = one_small (nat_eq v.segment s) in omega arith))
        (λ other. (let here = one_other v.segment s other in let counted = times_cons s v.segment (segments vs) in let rest = next series in omega arith))
    tail (Some p) next is = let counted = times_cons s v.segment (segments vs) in let rest : times s (segments vs) ≡ 0 = ap (λ (l : List SegmentVerdictRecord). times s (segments l)) is in let one = one_small (nat_eq v.segment s) in omega arith

-- a segment of a series has a verdict, or one before it failed
series_has : (first end s : ℕ) (vs : List SegmentVerdictRecord) → IsSeries first end vs → first ≤ s → s < end → Contains (segments vs) s ⊎ ((f : ℕ) × Contains (failed_of vs) f × (f < s))
series_has first end s [] h from below = absurd (omega arith)
series_has first end s (v ∷ vs) h from below =
    dite (ℕ_discrete v.segment s)
    (λ (same : v.segment ≡ s). inl (0, omega arith, same))
    (λ (other : v.segment ≢ s).
    (let P : ℕ → Type 0 = λ n. n ≢ s in
    let ne : first ≢ s = subst P h.1 other in
    later v.part refl h.2 (omega arith) (λ series. series_has (first + 1) end s vs series (omega arith) below)))
  where
    later : (o : Option Part) → v.part ≡ o → MatchOption o (IsSeries (first + 1) end vs) (λ _. vs ≡ []) → first < s → (IsSeries (first + 1) end vs → Contains (segments vs) s ⊎ ((f : ℕ) × Contains (failed_of vs) f × (f < s)))
        → Contains (segments (v ∷ vs)) s ⊎ ((f : ℕ) × Contains (failed_of (v ∷ vs)) f × (f < s))
    later None e series lt next =
        ⊎_elim
        (λ (c : Contains (segments vs) s). inl (Contains-append_right (v.segment ∷ []) (segments vs) s c))
        (λ (w : (f : ℕ) × Contains (failed_of vs) f × (f < s)). inr (w.0, Contains-append_right (one_failed v.segment v.part) (failed_of vs) w.0 w.1, w.2))
        (next series)
    later (Some p) e is lt next =
        let here : Contains (one_failed v.segment v.part) v.segment = subst (λ (o : Option Part). Contains (one_failed v.segment o) v.segment) (sym e) (0, omega arith, refl) in
        let f = h.1 in
        inr (v.segment, Contains-append_left (one_failed v.segment v.part) (failed_of vs) v.segment here, omega arith)

-- the number of the job that a segment is in
in_job : (cut s job : ℕ) → 0 < cut → job * cut ≤ s → s < job * cut + cut → job ≡ s / cut
in_job cut s job some from below =
    let d = div-add-mod' s cut in
    let m : s % cut < cut = omega arith in
    let q : ℕ = s / cut in
    dite (dec_lt job q)
    (λ (lt : job < q). (let b : (job + 1) * cut ≤ q * cut = mul-le-mul_right cut (omega arith) in absurd (omega arith)))
    (λ ge. dite (dec_lt q job)
    (λ (gt : q < job). (let b : (q + 1) * cut ≤ job * cut = mul-le-mul_right cut (omega arith) in absurd (omega arith)))
    (λ le. omega arith))

job_once : (last cut s job : ℕ) (shown : List ℕ) (vs : List SegmentVerdictRecord) → 0 < cut → IsJob last cut shown job vs → times s (segments vs) ≤ cond (nat_eq job (s / cut)) 1 0
job_once last cut s job shown vs some h =
    ⊎_elim
    (λ (w : (vs ≡ []) × IsAfterShown shown (job * cut)). (let none : times s (segments vs) ≡ 0 = ap (λ (l : List SegmentVerdictRecord). times s (segments l)) w.0 in omega arith))
    (λ (series : IsSeries (job * cut) (min (job * cut + cut) last) vs).
    dite (dec_lt s (job * cut))
    (λ before. (let none = series_before _ _ s vs series before in omega arith))
    (λ from. dite (dec_le (job * cut + cut) s)
    (λ past. (let none = series_past _ _ s vs series (omega arith) in omega arith))
    (λ below. (let one = one_same job (s / cut) (in_job cut s job some (omega arith) (omega arith)) in let o = series_once _ _ s vs series in omega arith)))) h

jobs_once : (last cut s : ℕ) (shown taken : List ℕ) (vs : List SegmentVerdictRecord) → 0 < cut → InPieces (IsJob last cut shown) taken vs → times s (segments vs) ≤ times (s / cut) taken
jobs_once last cut s shown [] vs some h = let none : times s (segments vs) ≡ 0 = ap (λ (l : List SegmentVerdictRecord). times s (segments l)) h in omega arith
jobs_once last cut s shown (job ∷ taken) vs some h =
    let here = job_once last cut s job shown h.0 some h.3 in
    let rest = jobs_once last cut s shown taken h.1 some h.4 in
    let counted = times_cons (s / cut) job taken in
    let both = times_pieces s vs h.0 h.1 h.2 in omega arith

all_once : (last cut s : ℕ) (ps : List PassRecord) (vs : List SegmentVerdictRecord) → 0 < cut → InPieces (HasDone last cut) ps vs → times s (segments vs) ≤ times (s / cut) (all_taken ps)
all_once last cut s [] vs some h = let none : times s (segments vs) ≡ 0 = ap (λ (l : List SegmentVerdictRecord). times s (segments l)) h in omega arith
all_once last cut s (p ∷ ps) vs some h =
    let here = jobs_once last cut s p.shown p.taken h.0 some h.3.jobs in
    let rest = all_once last cut s ps h.1 some h.4 in
    let both = times_pieces s vs h.0 h.1 h.2 in
    let split = times_append (s / cut) p.taken (all_taken ps) in omega arith

-- a number at some index of a list occurs at least once, and a number at two indices at least twice
one_time : (s : ℕ) (xs : List ℕ) (k : ℕ) → k < length xs → get_or xs k 0 ≡ s → 1 ≤ times s xs
one_time s [] k inside is = absurd (omega arith)
one_time s (x ∷ xs) zero inside is = let counted = times_cons s x xs in let one = one_same x s is in omega arith
one_time s (x ∷ xs) (suc k) inside is = let counted = times_cons s x xs in let r = one_time s xs k (omega arith) is in omega arith

two_times : (s : ℕ) (xs : List ℕ) (j k : ℕ) → j < k → k < length xs → get_or xs j 0 ≡ s → get_or xs k 0 ≡ s → 2 ≤ times s xs
two_times s [] j k before inside a b = absurd (omega arith)
two_times s (x ∷ xs) j zero before inside a b = absurd (omega arith)
two_times s (x ∷ xs) zero (suc k) before inside a b = let counted = times_cons s x xs in let one = one_same x s a in let r = one_time s xs k (omega arith) b in omega arith
two_times s (x ∷ xs) (suc j) (suc k) before inside a b = let counted = times_cons s x xs in let r = two_times s xs j k (omega arith) (omega arith) a b in omega arith

contained_occurs : (vs : List SegmentVerdictRecord) (s : ℕ) → Contains (segments vs) s → OccursBelow vs (length vs) s
contained_occurs vs s c =
    let l = length-map vs (λ (v : SegmentVerdictRecord). v.segment) in
    let inside = c.1 in
    (c.0, omega arith, get_or_default (segments vs) c.0 0 s inside ∙ c.2)

-- a segment that failed has a verdict
failed_occurs : (vs : List SegmentVerdictRecord) (f : ℕ) → Contains (failed_of vs) f → (k : ℕ) × (k < length vs) × (segment_at vs k ≡ f) × IsSome (part_at vs k)
failed_occurs [] f c = let h = c.1 in absurd (omega arith)
failed_occurs (v ∷ vs) f c =
    ⊎_elim
    (λ (here : Contains (one_failed v.segment v.part) f). at v.part refl here)
    (λ (there : Contains (failed_of vs) f). (let r = failed_occurs vs f there in (suc r.0, (let h = r.1 in omega arith), r.2, r.3)))
    (Contains-append_cases (one_failed v.segment v.part) (failed_of vs) f c)
  where
    at : (o : Option Part) → v.part ≡ o → Contains (one_failed v.segment o) f → (k : ℕ) × (k < length (v ∷ vs)) × (segment_at (v ∷ vs) k ≡ f) × IsSome (part_at (v ∷ vs) k)
    at None e here = let h = here.1 in absurd (omega arith)
    at (Some p) e here =
        let h = here.1 in
        let zero_place : here.0 ≡ 0 = omega arith in
        (0, omega arith, ap (λ (k : ℕ). get_or (v.segment ∷ []) k f) (sym zero_place) ∙ here.2, ap is_some e)

-- the verdicts of one job, which are a piece of vs
pub record Piece (last cut job : ℕ) (vs : List SegmentVerdictRecord) (shown : List ℕ) : Type 0 where
  pub verdicts : List SegmentVerdictRecord
  pub is_job : IsJob last cut shown job verdicts
  pub in_segments : (s : ℕ) → Contains (segments verdicts) s → Contains (segments vs) s
  pub in_failed : (f : ℕ) → Contains (failed_of verdicts) f → Contains (failed_of vs) f

left_in : (vs piece rest : List SegmentVerdictRecord) → vs ≡ piece ++ rest → (s : ℕ) → Contains (segments piece) s → Contains (segments vs) s
left_in vs piece rest is s c = subst (λ (l : List ℕ). Contains l s) (sym (ap segments is ∙ segments_append piece rest)) (Contains-append_left (segments piece) (segments rest) s c)

right_in : (vs piece rest : List SegmentVerdictRecord) → vs ≡ piece ++ rest → (s : ℕ) → Contains (segments rest) s → Contains (segments vs) s
right_in vs piece rest is s c = subst (λ (l : List ℕ). Contains l s) (sym (ap segments is ∙ segments_append piece rest)) (Contains-append_right (segments piece) (segments rest) s c)

left_failed : (vs piece rest : List SegmentVerdictRecord) → vs ≡ piece ++ rest → (s : ℕ) → Contains (failed_of piece) s → Contains (failed_of vs) s
left_failed vs piece rest is s c = subst (λ (l : List ℕ). Contains l s) (sym (ap failed_of is ∙ failed_append piece rest)) (Contains-append_left (failed_of piece) (failed_of rest) s c)

right_failed : (vs piece rest : List SegmentVerdictRecord) → vs ≡ piece ++ rest → (s : ℕ) → Contains (failed_of rest) s → Contains (failed_of vs) s
right_failed vs piece rest is s c = subst (λ (l : List ℕ). Contains l s) (sym (ap failed_of is ∙ failed_append piece rest)) (Contains-append_right (failed_of piece) (failed_of rest) s c)

job_piece : (last cut job : ℕ) (shown taken : List ℕ) (vs : List SegmentVerdictRecord) → InPieces (IsJob last cut shown) taken vs → 0 < times job taken → Piece last cut job vs shown
job_piece last cut job shown [] vs h there = absurd (omega arith)
job_piece last cut job shown (j ∷ taken) vs h there =
    dite (ℕ_discrete j job)
    (λ (same : j ≡ job). record {
      verdicts = h.0;
      is_job = subst (λ (n : ℕ). IsJob last cut shown n h.0) same h.3;
      in_segments = left_in vs h.0 h.1 h.2;
      in_failed = left_failed vs h.0 h.1 h.2;
    })
    (λ other. (let none = one_other j job other in let counted = times_cons job j taken in let r = job_piece last cut job shown taken h.1 h.4 (omega arith) in record {
      verdicts = r.verdicts;
      is_job = r.is_job;
      in_segments = λ s c. right_in vs h.0 h.1 h.2 s (r.in_segments s c);
      in_failed = λ s c. right_failed vs h.0 h.1 h.2 s (r.in_failed s c);
    }))

-- the verdicts of one job that some pass took, and what that pass was shown
pub record Found (last cut job : ℕ) (ps : List PassRecord) (vs : List SegmentVerdictRecord) : Type 0 where
  pub shown : List ℕ
  pub piece : Piece last cut job vs shown
  pub in_shown : (x : ℕ) → Contains shown x → Contains (all_shown ps) x

taken_piece : (last cut job : ℕ) (ps : List PassRecord) (vs : List SegmentVerdictRecord) → InPieces (HasDone last cut) ps vs → 0 < times job (all_taken ps) → Found last cut job ps vs
taken_piece last cut job [] vs h there = absurd (omega arith)
taken_piece last cut job (p ∷ ps) vs h there =
    let split = times_append job p.taken (all_taken ps) in
    dite (dec_lt 0 (times job p.taken))
    (λ (here : 0 < times job p.taken). (let r = job_piece last cut job p.shown p.taken h.0 h.3.jobs here in record {
      shown = p.shown;
      piece = record {
        verdicts = r.verdicts;
        is_job = r.is_job;
        in_segments = λ s c. left_in vs h.0 h.1 h.2 s (r.in_segments s c);
        in_failed = λ s c. left_failed vs h.0 h.1 h.2 s (r.in_failed s c);
      };
      in_shown = λ x c. Contains-append_left p.shown (all_shown ps) x c;
    }))
    (λ none. (let r = taken_piece last cut job ps h.1 h.4 (omega arith) in record {
      shown = r.shown;
      piece = record {
        verdicts = r.piece.verdicts;
        is_job = r.piece.is_job;
        in_segments = λ s c. right_in vs h.0 h.1 h.2 s (r.piece.in_segments s c);
        in_failed = λ s c. right_failed vs h.0 h.1 h.2 s (r.piece.in_failed s c);
      };
      in_shown = λ x c. Contains-append_right p.shown (all_shown ps) x (r.in_shown x c);
    }))

reported_failed : (last cut : ℕ) (ps : List PassRecord) (vs : List SegmentVerdictRecord) → InPieces (HasDone last cut) ps vs → all_reported ps ≡ failed_of vs
reported_failed last cut [] vs h = sym (ap failed_of h)
reported_failed last cut (p ∷ ps) vs h =
    ap (λ (l : List ℕ). l ++ all_reported ps) h.3.reported ∙ ap (λ (l : List ℕ). failed_of h.0 ++ l) (reported_failed last cut ps h.1 h.4) ∙ sym (failed_append h.0 h.1) ∙ ap failed_of (sym h.2)

job_below : (last cut s : ℕ) → 0 < cut → s < last → s / cut < div_ceil last cut
job_below last cut s some below =
    let up = div_ceil_times last cut some in
    let d = div-add-mod' s cut in
    let jobs : ℕ = div_ceil last cut in
    dite (dec_le jobs (s / cut))
    (λ (le : jobs ≤ s / cut). (let b : jobs * cut ≤ s / cut * cut = mul-le-mul_right cut le in absurd (omega arith)))
    (λ gt. lt_of_not-le gt)

-- what is known once all shares are back: each job was taken once, and each segment shown was reported
pub record AllBack (last cut : ℕ) (ps : List PassRecord) (vs : List SegmentVerdictRecord) : Type 0 where
  pub some : 0 < cut
  pub done : InPieces (HasDone last cut) ps vs
  pub each : (x : ℕ) → times x (all_taken ps) ≡ once_below x (div_ceil last cut)
  pub shown_reported : All (λ x. Contains (all_reported ps) x) (all_shown ps)

-- no segment has two verdicts
pub at_most_once : (last cut : ℕ) (ps : List PassRecord) (vs : List SegmentVerdictRecord) → AllBack last cut ps vs → (j k : ℕ) → j < k → k < length vs → segment_at vs j ≢ segment_at vs k
at_most_once last cut ps vs b j k before inside same =
    let s : ℕ = segment_at vs k in
    let l = length-map vs (λ (v : SegmentVerdictRecord). v.segment) in
    let two = two_times s (segments vs) j k before (omega arith) same refl in
    let once = all_once last cut s ps vs b.some b.done in
    let e = b.each (s / cut) in
    let o = one_small (nat_lt (s / cut) (div_ceil last cut)) in omega arith

-- a segment has a verdict, or is after one that was reported
pub occurs_or_after : (last cut : ℕ) (ps : List PassRecord) (vs : List SegmentVerdictRecord) → AllBack last cut ps vs → (s : ℕ) → s < last → OccursBelow vs (length vs) s ⊎ ((x : ℕ) × Contains (all_reported ps) x × (x < s))
occurs_or_after last cut ps vs b s inside =
    let some = b.some in
    let job : ℕ = s / cut in
    let below = job_below last cut s some inside in
    let e = b.each job in
    let o = once_here job (div_ceil last cut) below in
    let f = taken_piece last cut job ps vs b.done (omega arith) in
    let d = div-add-mod' s cut in
    let small : s % cut < cut = omega arith in
    ⊎_elim
    (λ (w : (f.piece.verdicts ≡ []) × IsAfterShown f.shown (job * cut)).
    (let x : ℕ = w.1.0 in
    let c : Contains (all_reported ps) x = has (all_shown ps) x b.shown_reported (f.in_shown x w.1.1) in
    let h = w.1.2 in inr (x, c, omega arith)))
    (λ (series : IsSeries (job * cut) (min (job * cut + cut) last) f.piece.verdicts).
    ⊎_elim
    (λ (c : Contains (segments f.piece.verdicts) s). inl (contained_occurs vs s (f.piece.in_segments s c)))
    (λ (w : (x : ℕ) × Contains (failed_of f.piece.verdicts) x × (x < s)).
    (let c : Contains (all_reported ps) w.0 = subst (λ (l : List ℕ). Contains l w.0) (sym (reported_failed last cut ps vs b.done)) (f.piece.in_failed w.0 w.1) in inr (w.0, c, w.2)))
    (series_has _ _ s f.piece.verdicts series (omega arith) (omega arith))) f.piece.is_job
  where
    has : (xs : List ℕ) (x : ℕ) → All (λ y. Contains (all_reported ps) y) xs → Contains xs x → Contains (all_reported ps) x
    has xs x all c = subst (λ (y : ℕ). Contains (all_reported ps) y) c.2 (all c.0 x c.1)

-- each segment reported has a verdict that it failed
pub reported_occurs : (last cut : ℕ) (ps : List PassRecord) (vs : List SegmentVerdictRecord) → AllBack last cut ps vs → (x : ℕ) → Contains (all_reported ps) x → (k : ℕ) × (k < length vs) × (segment_at vs k ≡ x) × IsSome (part_at vs k)
reported_occurs last cut ps vs b x c = failed_occurs vs x (subst (λ (l : List ℕ). Contains l x) (reported_failed last cut ps vs b.done) c)

-- so there is no fault for the collector to find
pub no_fault : (r : RecordingParts) (cut : ℕ) (ps : List PassRecord) (vs : List SegmentVerdictRecord) → AllBack (last_of r) cut ps vs → (f : CollectFault) → IsCollectFault r vs f → ⊥
no_fault r cut ps vs b (Double s) d =
    at_most_once (last_of r) cut ps vs b d.occurred.0 d.at d.occurred.1 d.inside (d.occurred.2 ∙ sym d.is)
no_fault r cut ps vs b (Missing s) (single, m) =
    ⊎_elim
    (λ (occurs : OccursBelow vs (length vs) s). m.missing occurs)
    (λ (w : (x : ℕ) × Contains (all_reported ps) x × (x < s)).
    (let k = reported_occurs (last_of r) cut ps vs b w.0 w.1 in let h = m.below_failed k.0 k.1 k.3 in let is = k.2 in let before = w.2 in absurd (omega arith)))
    (occurs_or_after (last_of r) cut ps vs b s m.inside)
