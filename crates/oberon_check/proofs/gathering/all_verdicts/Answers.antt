use Rattle.std.proofs.Common.{◌≡◌, ◌<◌, ◌++◌, ◌∷◌, [], List, ℕ, length, get_or, sym, ap, ◌∙◌, subst, arith, append-nil, append_assoc}
use Rattle.std.specs.Prelude.{All, Contains}
use Rattle.std.proofs.lemmas.List.{map-append, length-map}
use Rattle.oberon_claims.specs.Counts.{times, once_below}
use Rattle.oberon_claims.specs.Pass.{PassRecord}
use Rattle.oberon_claims.specs.Ledger.{all_taken, all_reported, all_shown, SomeEnded, IsLeastOf}
use Rattle.oberon_format.specs.Recording.{RecordingParts, last_of}
use Rattle.oberon_check.specs.Segment.{SegmentVerdictRecord}
use Rattle.oberon_check.specs.Work.{DoneRecord, IsDone, IsShareOf}
use Rattle.oberon_check.specs.Gathering.{passes_of, all_verdicts}
use Rattle.oberon_check.specs.inner.Progress.{AreCollected}
use Rattle.std.proofs.lemmas.List.{nil_from_length}
use Rattle.std.proofs.lemmas.List.Elements.{All-push}
use Rattle.oberon_check.proofs.Shares.{verdicts_snoc, books, recordings, pieces, first_share}
use Rattle.oberon_check.proofs.Gathered.{AllBack, no_fault}
use Rattle.oberon_check.proofs.Answered.{answered}
use Rattle.oberon_check.proofs.gathering.all_verdicts.Goals as goal
use Rattle.oberon_check.proofs.gathering.all_verdicts.Goals.{After-drop-share-iterator-2, After-finish-ledger}

pub loop-share-preserved : goal.loop-share-preserved
loop-share-preserved c =
    let i = c.loop-share.invariant in
    let share : DoneRecord = c.in-Some.share in
    let apart = c.in_ok-take_apart.ensures in
    let step = c.in-Some.ensures.steps in
    let at = ap (λ (l : List DoneRecord). c.loop-share.yielded ++ l) (sym step.0) ∙ i.rest in record {
      passes = apart.passes ∙ ap (λ (l : List PassRecord). l ++ share.pass ∷ []) i.passes ∙ sym (map-append (λ (d : DoneRecord). d.pass) c.loop-share.yielded (share ∷ []));
      verdicts = apart.verdicts ∙ ap (λ (l : List SegmentVerdictRecord). l ++ share.verdicts) i.verdicts ∙ sym (verdicts_snoc c.loop-share.yielded share);
      done = All-push IsDone c.loop-share.yielded share i.done apart.done;
      rest = append_assoc c.loop-share.yielded (share ∷ []) _ ∙ at;
    }

-- after the loop, all shares were taken apart
whole : (c : After-drop-share-iterator-2) → c.loop-share.yielded ≡ c.args.done.items
whole c =
    let i = c.loop-share.invariant in
    let none = nil_from_length c.loop-share.share-iterator.rest.items (sym c.loop-share.share-iterator.rest.ok.0 ∙ c.in-None.ensures.steps.0) in
    sym (append-nil c.loop-share.yielded) ∙ ap (λ (l : List DoneRecord). c.loop-share.yielded ++ l) (sym none) ∙ i.rest

passes_are : (c : After-drop-share-iterator-2) → c.loop-share.passes.items ≡ passes_of c.args.done.items
passes_are c = c.loop-share.invariant.passes ∙ ap passes_of (whole c)

verdicts_are : (c : After-drop-share-iterator-2) → c.loop-share.verdicts.items ≡ all_verdicts c.args.done.items
verdicts_are c = c.loop-share.invariant.verdicts ∙ ap all_verdicts (whole c)

all_done : (c : After-drop-share-iterator-2) (k : ℕ) (d : DoneRecord) → k < length c.args.done.items → IsDone (get_or c.args.done.items k d)
all_done c = subst (λ (ds : List DoneRecord). (k : ℕ) (d : DoneRecord) → k < length ds → IsDone (get_or ds k d)) (whole c) c.loop-share.invariant.done

pub finish-ledger-requires-clause-all : goal.finish-ledger-requires-clause-all
finish-ledger-requires-clause-all c =
    c.loop-share.passes.ok.0 ∙ ap length (passes_are c) ∙ length-map c.args.done.items (λ (d : DoneRecord). d.pass) ∙ sym c.args.done.ok.0 ∙ c.requires.all

pub finish-ledger-requires-clause-book : goal.finish-ledger-requires-clause-book
finish-ledger-requires-clause-book c =
    subst (λ (ps : List PassRecord). (k : ℕ) (p : PassRecord) → k < length ps → (get_or ps k p).book ≡ c.args.claims) (sym (passes_are c))
    (books c.requires.shares.0 c.requires.shares.1 c.args.claims c.args.done.items c.requires.shares.2)

module _ (c : After-finish-ledger) (r : RecordingParts) (cut : ℕ) (shares : (k : ℕ) (d : DoneRecord) → k < length c.args.done.items → IsShareOf r cut c.args.claims (get_or c.args.done.items k d)) where
  all_of : (k : ℕ) (v : SegmentVerdictRecord) → k < length (all_verdicts c.args.done.items) → (get_or (all_verdicts c.args.done.items) k v).recording ≡ r
  all_of = recordings r cut c.args.claims c.args.done.items (all_done c.before) shares

  back : AllBack (last_of r) cut (passes_of c.args.done.items) (all_verdicts c.args.done.items)
  back =
      let f = c.finish-ledger.ensures in
      let ds : List DoneRecord = c.args.done.items in
      let done = all_done c.before in
      let passes = passes_are c.before in
      let count = c.requires.all in
      let len = c.args.done.ok.0 in
      let some = f.workers.0 in
      let first = first_share r cut c.args.claims ds (omega arith) done shares in
      let taken = f.whole (subst SomeEnded (sym passes) first.ended) ∙ first.jobs in record {
        some = first.cut_some;
        done = pieces r cut c.args.claims ds done shares;
        each = λ x. subst (λ (ps : List PassRecord). times x (all_taken ps) ≡ once_below x c.finish-ledger.result.taken) passes (f.taken x) ∙ ap (once_below x) taken;
        shown_reported = subst (λ (ps : List PassRecord). All (λ x. Contains (all_reported ps) x) (all_shown ps)) passes f.shown;
      }

  collected : AreCollected r c.args.done.items (all_verdicts c.args.done.items)
  collected = record {
    recordings = all_of;
    whole = λ fault is. no_fault r cut (passes_of c.args.done.items) (all_verdicts c.args.done.items) back fault is;
    gathered = λ lawful truth verdict is.
        let least = subst (λ (ps : List PassRecord). IsLeastOf (all_reported ps) c.finish-ledger.result.least) (passes_are c.before) c.finish-ledger.ensures.least in
        answered r cut c.args.done.items back all_of c.finish-ledger.result.least least lawful truth verdict is;
  }

pub returns-clause-verdicts : goal.returns-clause-verdicts
returns-clause-verdicts c = verdicts_are c.before

pub returns-clause-collected : goal.returns-clause-collected
returns-clause-collected c r cut shares =
    subst (λ (vs : List SegmentVerdictRecord). AreCollected r c.args.done.items vs) (sym (verdicts_are c.before)) (collected c r cut shares)
