-- Runs of verdicts, and pieces of a list of verdicts.
use Rattle.std.proofs.Common.{◌≡◌, ℕ, ◌+◌, ◌*◌, ◌<◌, ◌≤◌, min, List, [], ◌∷◌, ◌++◌, length, get_or, false, Option, None, Some, refl, ap, sym, ◌∙◌, subst, arith, true≢false, inl, inr, append_assoc, append-nil}
use Rattle.std.specs.Prelude.{All, Contains, IsSome, MatchOption, is_some, IfSome, IfNone}
use Rattle.std.proofs.lemmas.List.Elements.{All-append, Contains-append_left, Contains-append_right}
use Rattle.oberon_claims.specs.Pass.{PassRecord, BookId, fresh_pass, pass_with_job, pass_with_end, pass_with_reported, pass_with_shown}
use Rattle.oberon_format.specs.Recording.{RecordingParts, last_of}
use Rattle.oberon_check.specs.declared.part.Part.{Part}
use Rattle.oberon_check.specs.Segment.{SegmentVerdictRecord, IsSeries}
use Rattle.oberon_check.specs.Work.{IsAfterShown, IsJob, InPieces, one_failed, failed_of, HasDone}
use Rattle.oberon_check.specs.inner.Progress.{AddsJob, AddsSeries, IsLooked}
use Rattle.std.proofs.lemmas.List.Elements.{All-push}

-- the list has the verdicts of the segments from `first` to `end - 1` in order, all of which held
abbrev pub IsHeld : ℕ → ℕ → List SegmentVerdictRecord → Type 0
IsHeld first end [] = first ≡ end
IsHeld first end (v ∷ vs) = (v.segment ≡ first) × (v.part ≡ None) × IsHeld (first + 1) end vs

held_le : (first end : ℕ) (vs : List SegmentVerdictRecord) → IsHeld first end vs → first ≤ end
held_le first end [] h = omega arith
held_le first end (v ∷ vs) h = let l = held_le (first + 1) end vs h.2 in omega arith

held_snoc : (first k : ℕ) (vs : List SegmentVerdictRecord) (v : SegmentVerdictRecord) → IsHeld first k vs → v.segment ≡ k → v.part ≡ None → IsHeld first (k + 1) (vs ++ v ∷ [])
held_snoc first k [] v h s p = (s ∙ sym h, p, ap (λ (n : ℕ). n + 1) h)
held_snoc first k (w ∷ vs) v h s p = (h.0, h.1, held_snoc (first + 1) k vs v h.2 s p)

held_series : (first end : ℕ) (vs : List SegmentVerdictRecord) → IsHeld first end vs → IsSeries first end vs
held_series first end [] h = h
held_series first end (v ∷ vs) h =
    let l = held_le (first + 1) end vs h.2 in
    (omega arith, h.0, subst (λ (o : Option Part). MatchOption o (IsSeries (first + 1) end vs) (λ _. vs ≡ [])) (sym h.1) (held_series (first + 1) end vs h.2))

none_or_some : (o : Option Part) → is_some o ≡ false → o ≡ None
none_or_some None e = refl
none_or_some (Some x) e = absurd (true≢false e)

failed_series : (first k end : ℕ) (vs : List SegmentVerdictRecord) (v : SegmentVerdictRecord) → IsHeld first k vs → k < end → v.segment ≡ k → IsSome v.part → IsSeries first end (vs ++ v ∷ [])
failed_series first k end [] v h below s p = (omega arith, s ∙ sym h, at v.part p)
  where
    at : (o : Option Part) → IsSome o → MatchOption o (IsSeries (first + 1) end []) (λ _. let nothing : List SegmentVerdictRecord = [] in nothing ≡ nothing)
    at None some = absurd (true≢false (sym some))
    at (Some x) some = refl
failed_series first k end (w ∷ vs) v h below s p =
    let l = held_le (first + 1) k vs h.2 in
    (omega arith, h.0, subst (λ (o : Option Part). MatchOption o (IsSeries (first + 1) end (vs ++ v ∷ [])) (λ _. vs ++ v ∷ [] ≡ [])) (sym h.1) (failed_series (first + 1) k end vs v h.2 below s p))

pub failed_append : (xs ys : List SegmentVerdictRecord) → failed_of (xs ++ ys) ≡ failed_of xs ++ failed_of ys
failed_append [] ys = refl
failed_append (x ∷ xs) ys = ap (λ (l : List ℕ). one_failed x.segment x.part ++ l) (failed_append xs ys) ∙ sym (append_assoc (one_failed x.segment x.part) (failed_of xs) (failed_of ys))

held_none : (first end : ℕ) (vs : List SegmentVerdictRecord) → IsHeld first end vs → failed_of vs ≡ []
held_none first end [] h = refl
held_none first end (v ∷ vs) h = ap (λ (o : Option Part). one_failed v.segment o ++ failed_of vs) h.1 ∙ held_none (first + 1) end vs h.2

-- ws is vs and the verdicts of the segments from `first` to `k - 1`, all of which held
pub record HeldPiece (r : RecordingParts) (first k : ℕ) (vs ws : List SegmentVerdictRecord) : Type 0 where
  pub piece : List SegmentVerdictRecord
  pub verdicts : ws ≡ vs ++ piece
  pub recordings : All (λ v. v.recording ≡ r) piece
  pub held : IsHeld first k piece

pub held_first : (r : RecordingParts) (first : ℕ) (vs : List SegmentVerdictRecord) → HeldPiece r first first vs vs
held_first r first vs = record { piece = []; verdicts = sym (append-nil vs); recordings = λ k d small. absurd (omega arith); held = refl }

grown : (r : RecordingParts) (vs us ws piece : List SegmentVerdictRecord) (v : SegmentVerdictRecord) → us ≡ vs ++ piece → ws ≡ us ++ v ∷ [] → ws ≡ vs ++ (piece ++ v ∷ [])
grown r vs us ws piece v before now = now ∙ ap (λ (l : List SegmentVerdictRecord). l ++ v ∷ []) before ∙ append_assoc vs piece (v ∷ [])

pub held_more : (r : RecordingParts) (first k : ℕ) (vs us ws : List SegmentVerdictRecord) (v : SegmentVerdictRecord) → HeldPiece r first k vs us → ws ≡ us ++ v ∷ [] → v.recording ≡ r → v.segment ≡ k → is_some v.part ≡ false → HeldPiece r first (k + 1) vs ws
held_more r first k vs us ws v h now of s p = record {
  piece = h.piece ++ v ∷ [];
  verdicts = grown r vs us ws h.piece v h.verdicts now;
  recordings = All-push (λ (t : SegmentVerdictRecord). t.recording ≡ r) h.piece v h.recordings of;
  held = held_snoc first k h.piece v h.held s (none_or_some v.part p);
}

pub series_failed : (r : RecordingParts) (first k end : ℕ) (p q : PassRecord) (vs us ws : List SegmentVerdictRecord) (v : SegmentVerdictRecord) → HeldPiece r first k vs us → ws ≡ us ++ v ∷ [] → v.recording ≡ r → v.segment ≡ k → IsSome v.part → k < end → q ≡ pass_with_reported p k → AddsSeries r first end p q vs ws
series_failed r first k end p q vs us ws v h now of s some below is =
    let one : failed_of (h.piece ++ v ∷ []) ≡ k ∷ [] = failed_append h.piece (v ∷ []) ∙ ap (λ (l : List ℕ). l ++ failed_of (v ∷ [])) (held_none first k h.piece h.held) ∙ last v some ∙ ap (λ (n : ℕ). n ∷ []) s in record {
      book = ap (λ (x : PassRecord). x.book) is;
      taken = ap (λ (x : PassRecord). x.taken) is;
      ended = ap (λ (x : PassRecord). x.ended) is;
      shown = ap (λ (x : PassRecord). x.shown) is;
      piece = h.piece ++ v ∷ [];
      verdicts = grown r vs us ws h.piece v h.verdicts now;
      reported = ap (λ (x : PassRecord). x.reported) is ∙ ap (λ (l : List ℕ). p.reported ++ l) (sym one);
      recordings = All-push (λ (t : SegmentVerdictRecord). t.recording ≡ r) h.piece v h.recordings of;
      is_series = failed_series first k end h.piece v h.held below s some;
    }
  where
    last : (v : SegmentVerdictRecord) → IsSome v.part → failed_of (v ∷ []) ≡ v.segment ∷ []
    last v some = at v.part some
      where
        at : (o : Option Part) → IsSome o → one_failed v.segment o ++ [] ≡ v.segment ∷ []
        at None e = absurd (true≢false (sym e))
        at (Some x) e = refl

pub series_whole : (r : RecordingParts) (first end : ℕ) (p q : PassRecord) (vs ws : List SegmentVerdictRecord) → HeldPiece r first end vs ws → q ≡ p → AddsSeries r first end p q vs ws
series_whole r first end p q vs ws h is = record {
  book = ap (λ (x : PassRecord). x.book) is;
  taken = ap (λ (x : PassRecord). x.taken) is;
  ended = ap (λ (x : PassRecord). x.ended) is;
  shown = ap (λ (x : PassRecord). x.shown) is;
  piece = h.piece;
  verdicts = h.verdicts;
  reported = ap (λ (x : PassRecord). x.reported) is ∙ sym (append-nil p.reported) ∙ ap (λ (l : List ℕ). p.reported ++ l) (sym (held_none first end h.piece h.held));
  recordings = h.recordings;
  is_series = held_series first end h.piece h.held;
}

pub looked : (o : Option ℕ) (p q : PassRecord) → IfSome o (λ x. q ≡ pass_with_shown p x) → IfNone o (q ≡ p) → IsLooked p q
looked None p q some none = subst (IsLooked p) (sym none) (record { book = refl; taken = refl; reported = refl; ended = refl; shown = λ x c. c })
looked (Some x) p q some none = subst (IsLooked p) (sym some) (record { book = refl; taken = refl; reported = refl; ended = refl; shown = λ y c. Contains-append_left p.shown (x ∷ []) y c })

-- a segment after the value that a look shows
pub after_shown : (x first : ℕ) (p q : PassRecord) → q ≡ pass_with_shown p x → x < first → IsAfterShown q.shown first
after_shown x first p q is below =
    (x, subst (λ (h : PassRecord). Contains h.shown x) (sym is) (Contains-append_right p.shown (x ∷ []) x (0, omega arith, refl)), below)

pub job_skipped : (r : RecordingParts) (cut job : ℕ) (p q : PassRecord) (vs : List SegmentVerdictRecord) → IsLooked p q → IsAfterShown q.shown (job * cut) → AddsJob r cut job p q vs vs
job_skipped r cut job p q vs l after = record {
  book = l.book;
  taken = l.taken;
  ended = l.ended;
  shown = l.shown;
  piece = [];
  verdicts = sym (append-nil vs);
  reported = l.reported ∙ sym (append-nil p.reported);
  recordings = λ k d small. absurd (omega arith);
  is_job = inl (refl, after);
}

pub job_series : (r : RecordingParts) (cut job first end : ℕ) (p m q : PassRecord) (vs ws : List SegmentVerdictRecord) → IsLooked p m → first ≡ job * cut → end ≡ min (job * cut + cut) (last_of r) → AddsSeries r first end m q vs ws → AddsJob r cut job p q vs ws
job_series r cut job first end p m q vs ws l f e series = record {
  book = series.book ∙ l.book;
  taken = series.taken ∙ l.taken;
  ended = series.ended ∙ l.ended;
  shown = λ x c. subst (λ (s : List ℕ). Contains s x) (sym series.shown) (l.shown x c);
  piece = series.piece;
  verdicts = series.verdicts;
  reported = series.reported ∙ ap (λ (s : List ℕ). s ++ failed_of series.piece) l.reported;
  recordings = series.recordings;
  is_job = inr (let P : (ℕ × ℕ) → Type 0 = λ x. IsSeries x.0 x.1 series.piece in subst P (λ i. (f i, e i)) series.is_series);
}

-- lists of verdicts in pieces
module _ {A : Type 0} where
  pub pieces_more : (P Q : A → List SegmentVerdictRecord → Type 0) → ((x : A) (vs : List SegmentVerdictRecord) → P x vs → Q x vs) → (xs : List A) (vs : List SegmentVerdictRecord) → InPieces P xs vs → InPieces Q xs vs
  pieces_more P Q f [] vs h = h
  pieces_more P Q f (x ∷ xs) vs h = (h.0, h.1, h.2, f x h.0 h.3, pieces_more P Q f xs h.1 h.4)

  pub pieces_snoc : (P : A → List SegmentVerdictRecord → Type 0) (xs : List A) (x : A) (vs ws piece : List SegmentVerdictRecord) → InPieces P xs vs → P x piece → ws ≡ vs ++ piece → InPieces P (xs ++ x ∷ []) ws
  pieces_snoc P [] x vs ws piece h here is = (piece, [], is ∙ ap (λ (l : List SegmentVerdictRecord). l ++ piece) h ∙ sym (append-nil piece), here, refl)
  pieces_snoc P (y ∷ xs) x vs ws piece h here is =
      (h.0, h.1 ++ piece, is ∙ ap (λ (l : List SegmentVerdictRecord). l ++ piece) h.2 ∙ append_assoc h.0 h.1 piece, h.3, pieces_snoc P xs x h.1 (h.1 ++ piece) piece h.4 here refl)

-- one more job
pub done_more : (r : RecordingParts) (cut job : ℕ) (p q s : PassRecord) (vs ws : List SegmentVerdictRecord) → HasDone (last_of r) cut p vs → q ≡ pass_with_job p job → AddsJob r cut job q s vs ws → HasDone (last_of r) cut s ws
done_more r cut job p q s vs ws done is adds =
    let taken : s.taken ≡ p.taken ++ job ∷ [] = adds.taken ∙ ap (λ (h : PassRecord). h.taken) is in
    let shown : (x : ℕ) → Contains p.shown x → Contains s.shown x = λ x c. adds.shown x (subst (λ (h : PassRecord). Contains h.shown x) (sym is) c) in
    let old = pieces_more (IsJob (last_of r) cut p.shown) (IsJob (last_of r) cut s.shown) (λ j us h. job_more j us h shown) p.taken vs done.jobs in
    let all = pieces_snoc (IsJob (last_of r) cut s.shown) p.taken job vs ws adds.piece old adds.is_job adds.verdicts in record {
      jobs = subst (λ (l : List ℕ). InPieces (IsJob (last_of r) cut s.shown) l ws) (sym taken) all;
      reported = adds.reported ∙ ap (λ (l : List ℕ). l ++ failed_of adds.piece) (ap (λ (h : PassRecord). h.reported) is ∙ done.reported) ∙ sym (failed_append vs adds.piece) ∙ ap failed_of (sym adds.verdicts);
    }
  where
    job_more : (j : ℕ) (us : List SegmentVerdictRecord) → IsJob (last_of r) cut p.shown j us → ((x : ℕ) → Contains p.shown x → Contains s.shown x) → IsJob (last_of r) cut s.shown j us
    job_more j us h shown = elim h as (λ _. IsJob (last_of r) cut s.shown j us) [ inl w ↦ inl (w.0, (w.1.0, shown w.1.0 w.1.1, w.1.2)) | inr series ↦ inr series ]

pub adds_recordings : (r : RecordingParts) (cut job : ℕ) (q s : PassRecord) (vs ws : List SegmentVerdictRecord) → All (λ v. v.recording ≡ r) vs → AddsJob r cut job q s vs ws → (k : ℕ) (d : SegmentVerdictRecord) → k < length ws → (get_or ws k d).recording ≡ r
adds_recordings r cut job q s vs ws old adds =
    subst (λ (l : List SegmentVerdictRecord). (k : ℕ) (d : SegmentVerdictRecord) → k < length l → (get_or l k d).recording ≡ r) (sym adds.verdicts) (All-append (λ (v : SegmentVerdictRecord). v.recording ≡ r) vs adds.piece old adds.recordings)

pub done_ended : (r : RecordingParts) (cut : ℕ) (p q : PassRecord) (vs : List SegmentVerdictRecord) → HasDone (last_of r) cut p vs → q ≡ pass_with_end p → HasDone (last_of r) cut q vs
done_ended r cut p q vs done is = subst (λ (h : PassRecord). HasDone (last_of r) cut h vs) (sym is) (record { jobs = done.jobs; reported = done.reported })

pub done_fresh : (r : RecordingParts) (cut : ℕ) (p : PassRecord) (b : BookId) → p ≡ fresh_pass b → HasDone (last_of r) cut p []
done_fresh r cut p b is = subst (λ (h : PassRecord). HasDone (last_of r) cut h []) (sym is) (record { jobs = refl; reported = refl })
