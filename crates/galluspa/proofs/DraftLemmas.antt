-- Recordings of a past, with a checkpoint more at each of some counts.
use Rattle.std.proofs.Common.{◌≡◌, ◌∙◌, ◌<◌, ◌≤◌, ◌+◌, ◌-◌, ◌⊎◌, ℕ, inl, inr, List, [], None, ap, arith, length, refl, subst, sym, slice_index_or}
use Rattle.std.proofs.lemmas.Bool.{cases_lt}
use Rattle.risc_model.proofs.RunLemmas.{sent_of-none}
use Rattle.oberon_check.proofs.Accepting.{accepted-text}
use Rattle.oberon_check.specs.declared.versions.Versions.TheVariants.{WithDisk}
use Rattle.oberon_format.proofs.One.{same_recording_with_disk}
use Rattle.oberon_format.specs.ByteFields.{first_fault_with_disk}
use Rattle.oberon_format.specs.Defined.{claimed}
use Rattle.oberon_format.specs.Recording.{RecordingParts, count_at}
use Rattle.oberon_session.specs.Extended.{IsExtended, last_count}
use Rattle.oberon_past.specs.Draft.{IsDraftFault, IsDraftOf, IsDrafted, IsRecordingOf, next_inputs, next_outcome}
use Rattle.oberon_past.specs.Past.{IsLonger, PastParts}
use Rattle.oberon_past.specs.Run.{Run, sent_between, state_at}
use Rattle.oberon_past.specs.declared.draft.Draft.{Draft}
use Rattle.oberon_past.specs.declared.draft.Drafted.{Drafted}
use Rattle.oberon_past.specs.declared.draft.Drafted.TheVariants as drafted
use Rattle.oberon_past.specs.declared.draft_fault.DraftFault.{DraftFault}
use Rattle.oberon_past.specs.declared.draft_fault.DraftFault.TheVariants as fault
use Rattle.galluspa.specs.Drafts.{HasCheckpoints, HasDraftFault, HasRecorded, IsFirst, IsTextOf}
use Rattle.galluspa.specs.Extend.{IsFile}
use Rattle.galluspa.specs.declared.past_record.Undrafted.TheVariants as refusal
use Rattle.galluspa.specs.inner.Drafting.{HasCheckpoint, HasFault, IsAsked, IsMisdrafted, IsOneMore, IsUndrafted, refusal_of}
use Rattle.galluspa.proofs.FileLemmas.{file-text}

-- ---- drafts

-- a recording of a run is a draft of it, with no bytes at its last checkpoint
pub fresh-draft : (run : Run) (d : Draft) → d.at ≡ last_count d.recording → d.sent.items ≡ [] → IsRecordingOf run d.recording → IsDraftOf run d
fresh-draft run d at_is sent_is is =
    let none : d.at - last_count d.recording ≡ 0 = omega (arith, at_is) in
    record {
      recording = is;
      later = omega (arith, at_is);
      sent = sent_is ∙ sym (sent_of-none run.inputs (last_count d.recording) (d.at - last_count d.recording) (state_at run (last_count d.recording)) none);
    }

-- what is drafted has one checkpoint more, or none
pub one-of : (run : Run) (d : Draft) (n : ℕ) (next : Drafted) → IsDrafted run d n next → IsOneMore d.recording n next
one-of run d n (drafted.Done new) is = record {
  more = is.0.more;
  counts = is.0.counts;
  claims = is.0.claims;
  last_counts = is.0.last_counts;
}
one-of run d n (drafted.More new) is = is.0

-- a past that runs on has the same faults
pub same-fault : (old new : PastParts) (d : Draft) (n : ℕ) (why : DraftFault) → new.run ≡ old.run → new.end ≡ old.end → IsDraftFault new d n why
    → IsDraftFault old d n why
same-fault old new d n fault.Start run end is = is
same-fault old new d n fault.Later run end is = omega (arith, end, is)
same-fault old new d n fault.Order run end is = subst (λ (r : Run). IsDraftFault (record old { run = r }) d n fault.Order) run is
same-fault old new d n fault.Inputs run end is = subst (λ (r : Run). IsDraftFault (record old { run = r }) d n fault.Inputs) run is
same-fault old new d n fault.Checkpoints run end is = is
same-fault old new d n fault.Output run end is = subst (λ (r : Run). IsDraftFault (record old { run = r }) d n fault.Output) run is
same-fault old new d n fault.Pages run end is = subst (λ (r : Run). IsDraftFault (record old { run = r }) d n fault.Pages) run is
same-fault old new d n fault.Memory run end is = omega (arith, end, is)

-- ---- some checkpoints more

pub no-checkpoints : (r : RecordingParts) (counts : List ℕ) (from : ℕ) → HasCheckpoints r counts from from r
no-checkpoints r counts from = record {
  more = omega arith;
  old_counts = λ k lt. refl;
  old_claims = λ k lt. refl;
  new_counts = λ k lt. absurd (omega (arith, lt));
}

pub one-checkpoint : (old r new : RecordingParts) (counts : List ℕ) (from to : ℕ) → from ≤ to → HasCheckpoints old counts from to r
    → HasCheckpoint r (slice_index_or counts to 0) new → HasCheckpoints old counts from (to + 1) new
one-checkpoint old r new counts from to low has one = record {
  more = omega (arith, has.more, one.more, low);
  old_counts = λ k lt. one.counts k (omega (arith, has.more, lt)) ∙ has.old_counts k lt;
  old_claims = λ k lt. one.claims k (omega (arith, has.more, lt)) ∙ has.old_claims k lt;
  new_counts = λ k lt.
      elim (cases_lt (from + k) to) [
        | inl less ↦ one.counts (length old.checkpoints + k) (omega (arith, has.more, less)) ∙ has.new_counts k less
        | inr more ↦
            let last : length r.checkpoints ≡ length old.checkpoints + k = omega (arith, has.more, more, lt, low) in
            let here : to ≡ from + k = omega (arith, more, lt) in
            subst (λ (n : ℕ). count_at new n ≡ slice_index_or counts (from + k) 0) last
            (subst (λ (n : ℕ). count_at new (length r.checkpoints) ≡ slice_index_or counts n 0) here one.last_counts)
      ];
}

-- ---- texts

-- the file of a recording of a run is a text of it
pub text-of : (run : Run) (text : List ℕ) (r : RecordingParts) → IsFile text r → IsRecordingOf run r → IsTextOf run text
text-of run text r file is =
    let is_text = file-text text r file in
    record { recording = r; is_text = is_text; of_run = is; accepted = accepted-text WithDisk r text is_text is.truth }

pub has-recorded : (run : Run) (text counts new_text : List ℕ) (from to : ℕ) (old new : RecordingParts) → IsFirst run text old
    → HasCheckpoints old counts from to new → (IsRecordingOf run old → IsRecordingOf run new) → IsFile new_text new
    → HasRecorded run text counts from to new_text
has-recorded run text counts new_text from to old new first has truth file = record {
  old = old;
  first = first;
  new = new;
  checkpoints = has;
  text_is = file;
  begun = λ none. text-of run new_text new file (truth (first.begins none).1);
  on = λ (is : IsTextOf run text).
      elim (cases_lt 0 (length text)) [
        | inl some ↦
            let same : is.recording ≡ old = same_recording_with_disk text is.recording old is.is_text (first.reads some) in
            text-of run new_text new file (truth (subst (IsRecordingOf run) same is.of_run))
        | inr none ↦ text-of run new_text new file (truth (first.begins (omega (arith, none))).1)
      ];
}

-- a fault at one of the counts is that of the bytes
pub has-draft-fault : (p : PastParts) (text counts : List ℕ) (from : ℕ) (d : Draft) (why : DraftFault) → IsFirst p.run text d.recording
    → (IsRecordingOf p.run d.recording → IsDraftOf p.run d) → IsMisdrafted p d counts from why → HasDraftFault p text counts from why
has-draft-fault p text counts from d why first fresh is = record {
  old = d.recording;
  first = first;
  to = is.to;
  inside = is.inside;
  draft = is.draft;
  checkpoints = is.checkpoints;
  truth = λ of_run. is.truth (fresh of_run);
  is_fault = is.is_fault;
}

-- a fault at one of the counts, of a past that ran on, is one of the counts
pub misdrafted : (p q : PastParts) (d e : Draft) (counts : List ℕ) (from to : ℕ) (why : DraftFault) → q.run ≡ p.run → q.end ≡ p.end → from ≤ to
    → to < length counts → HasCheckpoints d.recording counts from to e.recording → (IsDraftOf p.run d → IsDraftOf p.run e)
    → HasFault q e (slice_index_or counts to 0) why → IsMisdrafted p d counts from why
misdrafted p q d e counts from to why run end low high has truth is = record {
  to = to;
  inside = (low, high);
  draft = is.draft;
  checkpoints = subst (HasCheckpoints d.recording counts from to) (sym is.same) has;
  truth = λ of_run.
      subst (λ (r : Run). IsDraftOf r is.draft) run (is.truth (subst (λ (r : Run). IsDraftOf r e) (sym run) (truth of_run)));
  is_fault = same-fault p q is.draft (slice_index_or counts to 0) why run end is.is_fault;
}

-- ---- refusals

module _ (p : PastParts) (text counts : List ℕ) (from budget : ℕ) (asked : IsAsked p counts from budget)
    (valid : (length text ≡ 0) ⊎ (first_fault_with_disk text ≡ None)) (d : Draft) (first : IsFirst p.run text d.recording)
    (fresh : IsRecordingOf p.run d.recording → IsDraftOf p.run d) where
  has : (why : DraftFault) → IsMisdrafted p d counts from why → HasDraftFault p text counts from why
  has why is = has-draft-fault p text counts from d why first fresh is

  not-later : IsMisdrafted p d counts from fault.Later → ⊥
  not-later is =
      let inside = asked.1 is.to 0 is.inside.1 in
      omega (arith, inside, is.is_fault)

  pub undrafted : (why : DraftFault) → IsMisdrafted p d counts from why → IsUndrafted p text counts from budget (refusal_of why)
  undrafted fault.Start is = absurd is.is_fault
  undrafted fault.Later is = absurd (not-later is)
  undrafted fault.Order is = inr (has fault.Order is)
  undrafted fault.Inputs is = (asked, has fault.Inputs is)
  undrafted fault.Checkpoints is = (asked, has fault.Checkpoints is)
  undrafted fault.Output is = (asked, has fault.Output is)
  undrafted fault.Pages is = (asked, has fault.Pages is)
  undrafted fault.Memory is = (asked, valid)

  -- of what is refused before the past is asked, it is none
  pub not-early : (why : DraftFault) → IsMisdrafted p d counts from why → (refusal_of why ≡ refusal.Later) ⊎ (refusal_of why ≡ refusal.NoRecording) → ⊥
  not-early why is early =
      elim early [
        | inl later ↦ late why is later
        | inr unread ↦ read why unread
      ]
    where
      late : (it : DraftFault) → IsMisdrafted p d counts from it → refusal_of it ≡ refusal.Later → ⊥
      late fault.Later i e = not-later i
      late fault.Start i e = cc
      late fault.Order i e = cc
      late fault.Inputs i e = cc
      late fault.Checkpoints i e = cc
      late fault.Output i e = cc
      late fault.Pages i e = cc
      late fault.Memory i e = cc

      read : (it : DraftFault) → refusal_of it ≡ refusal.NoRecording → ⊥
      read fault.Start e = cc
      read fault.Later e = cc
      read fault.Order e = cc
      read fault.Inputs e = cc
      read fault.Checkpoints e = cc
      read fault.Output e = cc
      read fault.Pages e = cc
      read fault.Memory e = cc
