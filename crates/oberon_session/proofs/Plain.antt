-- Sessions of machines without a disk, and their recordings.
use Rattle.std.proofs.Common.{◌≡◌, ◌∙◌, ◌==◌, ◌+◌, ◌≤◌, ℕ, Bool, true, false, List, Option, Some, None, ap, arith, get_or, length, refl, subst, sym}
use Rattle.std.proofs.lemmas.Bool.{leb-true, le-leb, ne_eqb}
use Rattle.std.proofs.lemmas.List.{length-map}
use Rattle.std.proofs.lemmas.List.Elements.{All-map}
use Rattle.std.specs.List.{All, list_all, range_with_len}
use Rattle.std.specs.Prelude.{codes, nat_le, not}
use Rattle.serde_json.specs.Data.{Data}
use Rattle.serde_json.specs.Find.{get}
use Rattle.risc_devices.specs.declared.disk.TheConstants.{UNANSWERED}
use Rattle.risc_devices.specs.declared.kinds.TheConstants.{DISK}
use Rattle.risc_model.proofs.DiskLemmas.{disk_law-holds}
use Rattle.recording_limits.specs.declared.limits.TheConstants.{LONGEST_SESSION, MAX_EVENTS}
use Rattle.oberon_format.specs.Recording.{IsUnanswered}
use Rattle.oberon_format.specs.Text.{IsPlain as IsPlainRecording}
use Rattle.oberon_session.proofs.Deciding.{decides-unanswered}
use Rattle.oberon_session.proofs.Mapped.{unmapped}
use Rattle.oberon_session.proofs.Table.{by-table, faultless, table}
use Rattle.oberon_session.specs.Draft.{Draft, InputNumbers, Start, draft_of, draft_up_to, inputs_of, known_inputs, members_of, pages_of, since_2, since_3, start_names, start_of}
use Rattle.oberon_session.specs.Laws.{PlainLaw}
use Rattle.oberon_session.specs.Ranges.{max_inputs}
use Rattle.oberon_session.specs.Recorded.{checkpoint_of, count_of, first_state, last_of, recording_of}
use Rattle.oberon_session.specs.Rules.{draft_in, json_of}
use Rattle.oberon_session.specs.Session.{numbers_of_event}
use Rattle.oberon_session.specs.SessionParts.{IsPlain, SessionParts}
use Rattle.oberon_session.specs.Shape.{◌>>=◌, number_of, numbers_of, only, only_if}

-- ---- a recording without a disk

-- no instruction changes the disk's answer, so no checkpoint of a session without a disk has one
unanswered-at : (s : SessionParts) → IsPlain s → (k : ℕ) → IsUnanswered (checkpoint_of s k)
unfolding checkpoint_of first_state
unanswered-at s plain k = disk_law-holds.1 s.inputs 0 (count_of s k) (first_state s) plain.unanswered ∙ plain.begins

pub plain-recording : (s : SessionParts) → IsPlain s → IsPlainRecording (recording_of s)
unfolding recording_of
plain-recording s plain =
    let numbers = range_with_len 0 (last_of s + 1) in
    record {
      few = plain.few_inputs;
      unanswered = record {
        inputs = plain.unanswered;
        checkpoints = All-map IsUnanswered (checkpoint_of s) numbers (λ k d lt. unanswered-at s plain (get_or numbers k d));
      };
    }

-- ---- a draft without a disk

-- what a step gave, if the steps after it gave something
after-step : {A B : Type 0} (first : Option A) (next : A → Option B) (y : B) → (first >>= next) ≡ Some y → (x : A) × (first ≡ Some x) × (next x ≡ Some y)
after-step None next y is = absurd cc
after-step (Some x) next y is = (x, refl, is)

same-value : {A : Type 0} (x y : A) → Some x ≡ Some y → x ≡ y
same-value x y is = cc

only-held : {A : Type 0} (test : Bool) (x y : A) → only_if test x ≡ Some y → (test ≡ true) × (x ≡ y)
only-held true x y is = (refl, cc)
only-held false x y is = absurd cc

-- versions 1 and 2 have no answer in their initial state, and none among their inputs
no-answer-since : (version : ℕ) (json : Data) (disk : ℕ) → (version == 3) ≡ false → since_3 version json ≡ Some disk → UNANSWERED ≡ disk
no-answer-since version json disk other is =
    let same : Some UNANSWERED ≡ Some disk = rw other at is in
    cc

no-answer-known : (version : ℕ) (inputs known : List InputNumbers) → (version == 3) ≡ false → known_inputs version inputs ≡ Some known
    → (list_all (λ (input : InputNumbers). not (input.kind == DISK)) inputs ≡ true) × (inputs ≡ known)
no-answer-known version inputs known other is = only-held _ inputs known (rw other at is)

start-unanswered : (version : ℕ) (json : Data) (start : Start) → (version == 3) ≡ false → start_of version json ≡ Some start → start.disk ≡ UNANSWERED
start-unanswered version json start other is =
    let object = after-step (only (start_names version) json) _ start is in
    let h = after-step (get (codes "H") object.0 >>= number_of) _ start object.2 in
    let pc = after-step (get (codes "PC") object.0 >>= number_of) _ start h.2 in
    let flags = after-step (get (codes "flags") object.0 >>= number_of) _ start pc.2 in
    let rate = after-step (since_2 version (codes "rate") object.0) _ start flags.2 in
    let phase = after-step (since_2 version (codes "phase") object.0) _ start rate.2 in
    let disk = after-step (since_3 version object.0) _ start phase.2 in
    let registers = after-step (get (codes "R") object.0 >>= numbers_of) _ start disk.2 in
    let sixteen = after-step (only_if (length registers.0 == 16) registers.0) _ start registers.2 in
    let last : record { registers = sixteen.0; h = h.0; pc = pc.0; flags = flags.0; rate = rate.0; phase = phase.0; disk = disk.0 } ≡ start =
    same-value _ start sixteen.2 in
    sym (no-answer-since version object.0 disk.0 other disk.1 ∙ ap (λ (s : Start). s.disk) last)

pub record HasNoDisk (draft : Draft) : Type 0 where
  pub begins : draft.start.disk ≡ UNANSWERED
  pub unanswered : All (λ input. ¬ (input.kind ≡ DISK)) draft.inputs

no-disk : (json : Data) (draft : Draft) → draft.version ≤ 2 → draft_of json ≡ Some draft → HasNoDisk draft
no-disk json draft older is =
    let members = after-step (members_of json) _ draft is in
    let start = after-step (start_of members.0.version members.0.start) _ draft members.2 in
    let pages = after-step (pages_of members.0.pages) _ draft start.2 in
    let inputs = after-step (inputs_of members.0.inputs >>= known_inputs members.0.version) _ draft pages.2 in
    let checkpoints = after-step (numbers_of members.0.checkpoints) _ draft inputs.2 in
    let same : record { version = members.0.version; start = start.0; pages = pages.0; inputs = inputs.0; checkpoints = checkpoints.0 } ≡ draft = cc in
    let version : members.0.version ≡ draft.version = ap (λ (d : Draft). d.version) same in
    let other : (members.0.version == 3) ≡ false = ne_eqb members.0.version 3 (λ third. absurd (omega (arith, version, older))) in
    let all = after-step (inputs_of members.0.inputs) (known_inputs members.0.version) inputs.0 inputs.1 in
    let known = no-answer-known members.0.version all.0 inputs.0 other all.2 in
    let none = (decides-unanswered all.0).0 known.0 in
    let own : all.0 ≡ draft.inputs = known.1 ∙ ap (λ (d : Draft). d.inputs) same in
    record {
      begins = sym (ap (λ (d : Draft). d.start.disk) same) ∙ start-unanswered members.0.version members.0.start start.0 other start.1;
      unanswered = subst (λ (xs : List InputNumbers). All (λ input. ¬ (input.kind ≡ DISK)) xs) own none;
    }

-- ---- a session without a disk

-- the draft of an older version is that of a newer reader, too
module _ (bytes : List ℕ) (draft : Draft) (is : draft_in 2 bytes ≡ Some draft) where
  text : (json : Data) × (json_of bytes ≡ Some json) × (draft_up_to 2 json ≡ Some draft)
  text = after-step (json_of bytes) (draft_up_to 2) draft is

  shape : (any : Draft) × (draft_of text.0 ≡ Some any) × (only_if (nat_le any.version 2) any ≡ Some draft)
  shape = after-step (draft_of text.0) _ draft text.2

  own-draft : draft_of text.0 ≡ Some draft
  own-draft = shape.1 ∙ ap Some (only-held (nat_le shape.0.version 2) shape.0 draft shape.2).1

  older : draft.version ≤ 2
  older =
      let held = only-held (nat_le shape.0.version 2) shape.0 draft shape.2 in
      subst (λ (d : Draft). d.version ≤ 2) held.1 (leb-true shape.0.version 2 held.0)

  with-disk : draft_in 3 bytes ≡ Some draft
  with-disk =
      let version = older in
      rw (text.1, own-draft, le-leb draft.version 3 (omega (arith, version))) refl

  has-no-disk : HasNoDisk draft
  has-no-disk = no-disk text.0 draft older own-draft

pub plain-law : PlainLaw
plain-law bytes session h =
    let draft = h.1 in
    let is = h.2 in
    let newer = with-disk bytes draft is in
    let tested = faultless 2 bytes h.0 in
    let none = has-no-disk bytes draft is in
    let same : table (nat_le (length bytes) LONGEST_SESSION) (json_of bytes) (draft_in 3 bytes) ≡ table (nat_le (length bytes) LONGEST_SESSION) (json_of bytes) (draft_in 2 bytes) =
    ap (table (nat_le (length bytes) LONGEST_SESSION) (json_of bytes)) (newer ∙ sym is) in
    let own : Some tested.draft ≡ Some draft = sym tested.shape ∙ is in
    let same-draft : tested.draft ≡ draft = cc in
    let range = subst (λ (d : Draft). length d.inputs ≤ max_inputs d.version) same-draft tested.range.inputs.0 in
    let many = sym (length-map session.inputs numbers_of_event) ∙ ap (λ (l : List InputNumbers). length l) h.3.inputs in
    let version = older bytes draft is in
    let most : max_inputs draft.version ≡ MAX_EVENTS = rw (ne_eqb draft.version 3 (λ third. absurd (omega (arith, version)))) refl in (
      (by-table 3 bytes ∙ same ∙ sym (by-table 2 bytes) ∙ h.0, draft, newer, h.3),
      record {
        begins = h.3.disk ∙ none.begins;
        unanswered = unmapped numbers_of_event (λ input. ¬ (input.kind ≡ DISK)) session.inputs (rw h.3.inputs none.unanswered);
        few_inputs = omega (arith, range, many, most);
      },
    )
