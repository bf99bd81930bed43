-- A recording's next checkpoint, in the words of a caller.
use Rattle.std.proofs.Common.{◌≡◌, ◌≢◌, ◌==◌, ◌∙◌, ◌⊎◌, if◌then◌else◌, ℕ, List, [], ◌∷◌, None, ap, arith, inl, inr, map, refl, subst, sym}
use Rattle.risc_devices.proofs.InputLemmas.{same_input}
use Rattle.risc_model.specs.declared.event.Event.{Event}
use Rattle.oberon_format.proofs.One.{same_event}
use Rattle.oberon_format.specs.Defined.{Outcome}
use Rattle.oberon_format.specs.Recording.{RecordingParts}
use Rattle.oberon_format.specs.Text.{TextWithDisk}
use Rattle.oberon_format.specs.ByteFields.{first_fault_with_disk}
use Rattle.oberon_format.specs.Laws.{HasOneRecordingWithDisk}
use Rattle.oberon_session.specs.Extended.{HasRoom, IsExtendFault, IsExtended, IsNext, outcome_of}
use Rattle.oberon_session.specs.declared.claim.Claim.{Claim}
use Rattle.oberon_session.specs.declared.extend_fault.ExtendFault.{ExtendFault}
use Rattle.oberon_session.specs.declared.extend_fault.ExtendFault.TheVariants as fault
use Rattle.galluspa.specs.Extend.{CanFollow, DoesNotFollow, HasExtendFault, IsExtension, IsFile, claim_of}
use Rattle.galluspa.specs.Raw.{AreEvents, IsWhole, raw_input}
use Rattle.galluspa.specs.declared.extend.Unrecorded.{Unrecorded}
use Rattle.galluspa.specs.declared.extend.Unrecorded.TheVariants as refusal
use Rattle.galluspa.specs.declared.raw.RawState.{RawState}
use Rattle.galluspa.specs.declared.raw.RawInput.{RawInput}
use Rattle.galluspa.specs.declared.refusal.TheConstants.{DONE, NO_ROOM}
use Rattle.galluspa.specs.inner.Extending.{HasFault, IsMore, IsNoMore, IsUnextended, code_of, unextended as refusal_for}

same-one : (e f : Event) → raw_input e ≡ raw_input f → e ≡ f
same-one e f same =
    same_event e f (ap (λ (r : RawInput). r.count) same)
    (same_input e.input f.input (ap (λ (r : RawInput). r.kind) same) (ap (λ (r : RawInput). r.value) same))

-- events that are written alike are the same
pub same-events : (a b : List Event) → map raw_input a ≡ map raw_input b → a ≡ b
same-events [] [] same = refl
same-events [] (f ∷ fs) same = absurd (none same)
  where
    none : [] ≡ raw_input f ∷ map raw_input fs → ⊥
    none is = cc
same-events (e ∷ es) [] same = absurd (none same)
  where
    none : raw_input e ∷ map raw_input es ≡ [] → ⊥
    none is = cc
same-events (e ∷ es) (f ∷ fs) same =
    let first : raw_input e ≡ raw_input f = cc in
    let rest : map raw_input es ≡ map raw_input fs = cc in
    ap (λ (x : Event). x ∷ es) (same-one e f first) ∙ ap (λ (l : List Event). f ∷ l) (same-events es fs rest)

module _ (text : List ℕ) (inputs : List RawInput) (state : RawState) (words sent : List ℕ) (claim : Claim)
    (count : claim.count ≡ state.count) (outcome : outcome_of claim ≡ claim_of state words sent) where
  -- what is said of the claim's count and outcome is said of the state's
  of-state : (P : ℕ → Outcome → Type 0) → P claim.count (outcome_of claim) → P state.count (claim_of state words sent)
  of-state P is = subst (P state.count) outcome (subst (λ (n : ℕ). P n (outcome_of claim)) count is)

  pub is-extension : (new : RecordingParts) (new_text : List ℕ) → IsMore text inputs claim new → IsFile new_text new
      → IsExtension text inputs state words sent new_text
  is-extension new new_text more text_is = record {
    old = more.old;
    is_text = more.is_text;
    events = more.events;
    are_events = more.are_events;
    room = of-state (HasRoom more.old more.events) more.room;
    new = new;
    extended = of-state (λ (n : ℕ) (o : Outcome). IsExtended more.old more.events n o new) more.extended;
    text_is = text_is;
  }

  pub can-follow : (new : RecordingParts) → IsMore text inputs claim new → IsWhole state words → CanFollow text inputs state words
  can-follow new more whole = record {
    is_whole = whole;
    recording = more.old;
    is_text = more.is_text;
    events = more.events;
    are_events = more.are_events;
    next = subst (λ (n : ℕ). IsNext more.old more.events n) count more.room.next;
  }

  has-fault : (fault : ExtendFault) → HasFault text inputs claim fault → HasExtendFault text inputs state words sent fault
  has-fault fault has = record {
    recording = has.recording;
    is_text = has.is_text;
    events = has.events;
    are_events = has.are_events;
    is_fault = of-state (λ (n : ℕ) (o : Outcome). IsExtendFault has.recording has.events n o fault) has.is_fault;
  }

  pub out-of-place : HasFault text inputs claim ExtendFault.Order → DoesNotFollow text inputs state words
  out-of-place has = inr (inr (record {
    recording = has.recording;
    is_text = has.is_text;
    taken = has.is_fault.0;
    events = has.events;
    are_events = has.are_events;
    misplaced = λ next. has.is_fault.1 (subst (λ (n : ℕ). IsNext has.recording has.events n) (sym count) next);
  }))

  pub unextended : HasOneRecordingWithDisk → (why : Unrecorded) → IsNoMore text inputs claim why → IsUnextended text inputs state words sent why
  unextended one refusal.Range has = λ can.
      let recording = one text can.recording has.recording can.is_text has.is_text in
      let same = same-events can.events has.events (can.are_events.written ∙ sym has.are_events.written) in
      has.is_fault.1
      (subst (λ (n : ℕ). IsNext has.recording has.events n) (sym count)
      (subst (λ (es : List Event). IsNext has.recording es state.count) same
      (subst (λ (r : RecordingParts). IsNext r can.events state.count) recording can.next)))
  unextended one refusal.NoRecording fault = fault
  unextended one refusal.Pending has = has-fault ExtendFault.Pending has
  unextended one refusal.Inputs has = has-fault ExtendFault.Inputs has
  unextended one refusal.Checkpoints has = has-fault ExtendFault.Checkpoints has
  unextended one refusal.Output has = has-fault ExtendFault.Output has
  unextended one refusal.Pages has = has-fault ExtendFault.Pages has
  unextended one refusal.Memory none = none

-- the refusal with a code
abbrev pub refusal_of : ℕ → Unrecorded
refusal_of n =
    if n == 1 then refusal.Range
    else if n == 4 then refusal.NoRecording
    else if n == 6 then refusal.Inputs
    else if n == 7 then refusal.Checkpoints
    else if n == 8 then refusal.Output
    else if n == 9 then refusal.Pages
    else if n == 10 then refusal.Pending
    else refusal.Memory

refusal-coded : (why : Unrecorded) → refusal_of (code_of why) ≡ why
refusal-coded refusal.Range = refl
refusal-coded refusal.NoRecording = refl
refusal-coded refusal.Pending = refl
refusal-coded refusal.Inputs = refl
refusal-coded refusal.Checkpoints = refl
refusal-coded refusal.Output = refl
refusal-coded refusal.Pages = refl
refusal-coded refusal.Memory = refl

-- a refusal with a code is the one of this number
pub refusal-by : (why : Unrecorded) (code : ℕ) → code ≡ code_of why → (n : ℕ) → code ≡ n → why ≡ refusal_of n
refusal-by why code coded n same = sym (refusal-coded why) ∙ ap refusal_of (sym coded ∙ same)

-- a code says why a recording is not extended
pub unextended-by : (text : List ℕ) (inputs : List RawInput) (state : RawState) (words sent : List ℕ) (why : Unrecorded)
    → IsUnextended text inputs state words sent why → (code : ℕ) → code ≡ code_of why → (n : ℕ) → code ≡ n
    → IsUnextended text inputs state words sent (refusal_of n)
unextended-by text inputs state words sent why is code coded n same =
    subst (IsUnextended text inputs state words sent) (refusal-by why code coded n same) is

-- what `put` returns is no other code
pub no-other : {A : Type 0} (code : ℕ) → (code ≡ DONE) ⊎ (code ≡ NO_ROOM) → (n : ℕ) → n ≢ DONE → n ≢ NO_ROOM → code ≡ n → A
no-other code (inl done) n not_done _ is = absurd (not_done (sym is ∙ done))
no-other code (inr full) n _ not_full is = absurd (not_full (sym is ∙ full))

-- if a recording is not extended for a fault, what is refused is that
module _ (text : List ℕ) (inputs : List RawInput) (events : List Event) (claim : Claim) (recording : RecordingParts) (is : TextWithDisk text recording)
    (are : AreEvents inputs events) where
  full : (why : ExtendFault) → IsExtendFault recording events claim.count (outcome_of claim) why → HasFault text inputs claim why
  full why wrong = record { recording = recording; is_text = is; events = events; are_events = are; is_fault = wrong }

  pub unextended-full : first_fault_with_disk text ≡ None → (why : ExtendFault) → IsExtendFault recording events claim.count (outcome_of claim) why
      → IsNoMore text inputs claim (refusal_for why)
  unextended-full none fault.Pending wrong = full fault.Pending wrong
  unextended-full none fault.Order wrong = full fault.Order wrong
  unextended-full none fault.Inputs wrong = full fault.Inputs wrong
  unextended-full none fault.Checkpoints wrong = full fault.Checkpoints wrong
  unextended-full none fault.Output wrong = full fault.Output wrong
  unextended-full none fault.Pages wrong = full fault.Pages wrong
  unextended-full none fault.Memory wrong = none

-- an extension that memory ran out for was not refused for a range
pub memory-not-range : Unrecorded.Memory ≢ Unrecorded.Range
memory-not-range = search arith
