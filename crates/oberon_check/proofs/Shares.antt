-- Lists of workers' shares: their passes, and their segment verdicts.
use Rattle.std.proofs.Common.{◌≡◌, ℕ, zero, suc, ◌≤◌, ◌<◌, List, [], ◌∷◌, ◌++◌, length, get_or, refl, sym, ap, ◌∙◌, subst, arith, append_assoc, append-nil}
use Rattle.std.specs.Prelude.{All}
use Rattle.std.specs.Int.{div_ceil}
use Rattle.std.proofs.lemmas.List.Elements.{All-append}
use Rattle.oberon_claims.specs.Pass.{PassRecord, BookId}
use Rattle.oberon_claims.specs.Ledger.{SomeEnded}
use Rattle.oberon_format.specs.Recording.{RecordingParts, last_of}
use Rattle.oberon_check.specs.Segment.{SegmentVerdictRecord}
use Rattle.oberon_check.specs.Work.{InPieces, HasDone, DoneRecord, IsDone, IsShareOf}
use Rattle.oberon_check.specs.Gathering.{passes_of, all_verdicts}

pub verdicts_snoc : (ds : List DoneRecord) (d : DoneRecord) → all_verdicts (ds ++ d ∷ []) ≡ all_verdicts ds ++ d.verdicts
verdicts_snoc [] d = append-nil d.verdicts
verdicts_snoc (e ∷ ds) d = ap (λ (l : List SegmentVerdictRecord). e.verdicts ++ l) (verdicts_snoc ds d) ∙ sym (append_assoc e.verdicts (all_verdicts ds) d.verdicts)

-- each pass is of the book of the shares
pub books : (r : RecordingParts) (cut : ℕ) (book : BookId) (ds : List DoneRecord) → All (IsShareOf r cut book) ds → (k : ℕ) (p : PassRecord) → k < length (passes_of ds) → (get_or (passes_of ds) k p).book ≡ book
books r cut book [] shares k p small = absurd (omega arith)
books r cut book (d ∷ ds) shares zero p small = (shares 0 d (omega arith)).book_is
books r cut book (d ∷ ds) shares (suc k) p small = books r cut book ds (λ j e few. shares (suc j) e (omega arith)) k p (omega arith)

-- each verdict is of the recording of the shares
pub recordings : (r : RecordingParts) (cut : ℕ) (book : BookId) (ds : List DoneRecord) → All IsDone ds → All (IsShareOf r cut book) ds → (k : ℕ) (v : SegmentVerdictRecord) → k < length (all_verdicts ds) → (get_or (all_verdicts ds) k v).recording ≡ r
recordings r cut book [] done shares k v small = absurd (omega arith)
recordings r cut book (d ∷ ds) done shares k v small =
    let here = done 0 d (omega arith) in
    let of = (shares 0 d (omega arith)).recording_is in
    All-append (λ (v : SegmentVerdictRecord). v.recording ≡ r) d.verdicts (all_verdicts ds)
    (λ k v small. here.recordings k v small ∙ of)
    (recordings r cut book ds (λ j e few. done (suc j) e (omega arith)) (λ j e few. shares (suc j) e (omega arith)))
    k v small

-- the verdicts are one piece for each pass, which has the verdicts of the jobs that the pass took
pub pieces : (r : RecordingParts) (cut : ℕ) (book : BookId) (ds : List DoneRecord) → All IsDone ds → All (IsShareOf r cut book) ds → InPieces (HasDone (last_of r) cut) (passes_of ds) (all_verdicts ds)
pieces r cut book [] done shares = refl
pieces r cut book (d ∷ ds) done shares =
    let share = shares 0 d (omega arith) in
    let P : (RecordingParts × ℕ) → Type 0 = λ x. HasDone (last_of x.0) x.1 d.pass d.verdicts in
    let here : HasDone (last_of r) cut d.pass d.verdicts = subst P (λ i. (share.recording_is i, share.cut_is i)) (done 0 d (omega arith)).done in
    (d.verdicts, all_verdicts ds, refl, here, pieces r cut book ds (λ j e few. done (suc j) e (omega arith)) (λ j e few. shares (suc j) e (omega arith)))

-- what is known of the book because there is a share
pub record FirstShare (r : RecordingParts) (cut : ℕ) (book : BookId) (ps : List PassRecord) : Type 0 where
  pub cut_some : 1 ≤ cut
  pub jobs : book.jobs ≡ div_ceil (last_of r) cut
  pub ended : SomeEnded ps

pub first_share : (r : RecordingParts) (cut : ℕ) (book : BookId) (ds : List DoneRecord) → 1 ≤ length ds → All IsDone ds → All (IsShareOf r cut book) ds → FirstShare r cut book (passes_of ds)
first_share r cut book [] some done shares = absurd (omega arith)
first_share r cut book (d ∷ ds) some done shares =
    let share = shares 0 d (omega arith) in
    let is = done 0 d (omega arith) in
    let P : (RecordingParts × ℕ × BookId) → Type 0 = λ x. (1 ≤ x.1) × (x.2.jobs ≡ div_ceil (last_of x.0) x.1) in
    let moved = subst P (λ i. (share.recording_is i, share.cut_is i, share.book_is i)) (is.cut, is.book) in
    record { cut_some = moved.0; jobs = moved.1; ended = (0, omega arith, λ p. is.ended) }
