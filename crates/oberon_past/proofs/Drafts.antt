-- Drafts of a run: that they stay drafts of it, with a checkpoint more and with more of the bytes before one.
use Rattle.std.proofs.Common.{◌≡◌, ◌∙◌, ◌+◌, ◌-◌, ◌<◌, ◌≤◌, ℕ, zero, suc, inl, inr, List, [], ◌++◌, ap, arith, drop, length, length-append, length-take, min, refl, subst, sym, take}
use Rattle.std.specs.Prelude.{slice_range}
use Rattle.std.proofs.lemmas.Bool.{cases_lt}
use Rattle.std.proofs.lemmas.List.{append-nil, drop-take, drop_all}
use Rattle.risc_model.specs.declared.event.Event.{Event}
use Rattle.risc_model.specs.InputOrder.{AreOrdered, IsNextAt}
use Rattle.recording_limits.specs.declared.limits.TheConstants.{MAX_OUTPUT}
use Rattle.risc_model.specs.MachineState.{State}
use Rattle.risc_model.specs.OneRun.{Outcome, outcome_between, state_from}
use Rattle.risc_model.specs.OneRun.{sent_between as sent_in}
use Rattle.risc_model.specs.Replay.{run_of, sent_of}
use Rattle.risc_model.proofs.RunLemmas.{run_of-none, sent_of-none}
use Rattle.oberon_format.specs.Defined.{IsTrueAt, claimed, defined}
use Rattle.oberon_format.specs.Recording.{IsLawfulWithDisk, RecordingParts, count_at, last_of, output_of}
use Rattle.oberon_session.proofs.Runs.{run-on, sent-grows, sent-on}
use Rattle.oberon_session.specs.Extended.{FitsOutput, IsBegun, IsExtended, IsExtendFault, last_count}
use Rattle.oberon_session.specs.declared.extend_fault.ExtendFault.{ExtendFault}
use Rattle.oberon_session.specs.declared.extend_fault.ExtendFault.TheVariants as extend
use Rattle.oberon_past.proofs.Inputs.{before-run, before-sent, joined-before, none-before, take-before}
use Rattle.oberon_past.specs.Draft.{IsDraftFault, IsDraftOf, IsDrafted, IsRecordingOf, next_inputs, next_outcome, sent_up_to}
use Rattle.oberon_past.specs.Live.{inputs_before}
use Rattle.oberon_past.specs.Run.{Run, sent_between, state_at}
use Rattle.oberon_past.specs.Past.{PastParts}
use Rattle.oberon_past.specs.declared.draft.Draft.{Draft}
use Rattle.oberon_past.specs.declared.draft.Drafted.TheVariants as drafted
use Rattle.oberon_past.specs.declared.draft_fault.DraftFault.{DraftFault}
use Rattle.oberon_past.specs.declared.draft_fault.DraftFault.TheVariants as fault
use Rattle.oberon_past.specs.inner.Drafting.{IsCheckpointFault, draft_fault}

-- ---- the run with the inputs before a count

pub outcome-before : (es : List Event) (n a b : ℕ) (first : State) → a ≤ b → b ≤ n
    → outcome_between (inputs_before n es) first a b ≡ outcome_between es first a b
outcome-before es n a b first on low =
    let here = before-run es n 0 a first (omega arith) in
    let there = before-run es n 0 b first (omega arith) in
    let sent = ap (λ (s : State). sent_of (inputs_before n es) a (b - a) s) here ∙ before-sent es n a (b - a) (state_from es first a) (omega arith) in
    λ i. record { state = there i; sent = sent i }

-- what a recording with these inputs defines
defined-is : (r : RecordingParts) (es : List Event) (n : ℕ) (first : State) (k : ℕ) → r.inputs ≡ inputs_before n es → (claimed r 0).state ≡ first
    → count_at r (k - 1) ≤ count_at r k → count_at r k ≤ n → defined r k ≡ outcome_between es first (count_at r (k - 1)) (count_at r k)
defined-is r es n first k inputs begins on low =
    ap (λ (l : List Event). outcome_between l (claimed r 0).state (count_at r (k - 1)) (count_at r k)) inputs
    ∙ ap (λ (s : State). outcome_between (inputs_before n es) s (count_at r (k - 1)) (count_at r k)) begins
    ∙ outcome-before es n (count_at r (k - 1)) (count_at r k) first on low

-- ---- the counts of checkpoints rise

module _ (r : RecordingParts) (lawful : IsLawfulWithDisk r) where
  up-to-last : (m j : ℕ) → j + m ≡ last_of r → count_at r j ≤ last_count r
  up-to-last zero j is =
      let same : j ≡ last_of r = omega (arith, is) in
      subst (λ (k : ℕ). count_at r j ≤ count_at r k) same (omega arith)
  up-to-last (suc m) j is =
      let next = lawful.rises j (omega (arith, is)) in
      let rest = up-to-last m (j + 1) (omega (arith, is)) in
      omega (arith, next, rest)

  pub low-last : (k : ℕ) → k < length r.checkpoints → count_at r k ≤ last_count r
  low-last k inside = up-to-last (last_of r - k) k (omega (arith, inside))

  pub rise : (k : ℕ) → k < length r.checkpoints → count_at r (k - 1) ≤ count_at r k
  rise zero inside = omega arith
  rise (suc k) inside =
      let same : k + 1 ≡ suc k = omega arith in
      let before : k ≡ suc k - 1 = omega arith in
      let next = lawful.rises k (omega (arith, inside)) in
      subst (λ (n : ℕ). count_at r n ≤ count_at r (suc k)) before (subst (λ (n : ℕ). count_at r k ≤ count_at r n) same (omega (arith, next)))

-- ---- bytes

pub sent-joined : (run : Run) (a b c : ℕ) → run.start ≤ a → a ≤ b → b ≤ c → sent_between run a b ++ sent_between run b c ≡ sent_between run a c
sent-joined run a b c begun on further =
    sent-on run.inputs a b c (state_at run a) on further (state_at run b) (sym (run-on run.inputs run.start a b run.first begun on (state_at run a) refl))

-- a run that begins at count 0
module _ (run : Run) (starts : run.start ≡ 0) where
  state-0 : (n : ℕ) → state_at run n ≡ state_from run.inputs run.first n
  state-0 n =
      let same : n - 0 ≡ n = omega arith in
      ap (λ (s : ℕ). run_of run.inputs s (n - s) run.first) starts ∙ ap (λ (k : ℕ). run_of run.inputs 0 k run.first) same

  sent-0 : (a b : ℕ) → sent_between run a b ≡ sent_in run.inputs run.first a b
  sent-0 a b = ap (λ (s : State). sent_of run.inputs a (b - a) s) (state-0 a)

-- ---- more of the bytes

module _ (run : Run) (d : Draft) (is : IsDraftOf run d) where
  begun : run.start ≤ last_count d.recording
  begun = omega (arith, is.recording.starts)

  pub sent-more : (n : ℕ) → d.at ≤ n → sent_up_to run d n ≡ sent_between run (last_count d.recording) n
  sent-more n on =
      ap (λ (l : List ℕ). l ++ sent_between run d.at n) is.sent ∙ sent-joined run (last_count d.recording) d.at n begun is.later on

  pub ran-on : (new : Draft) → (new.recording ≡ d.recording) × (d.at ≤ new.at) × (new.sent.items ≡ sent_up_to run d new.at) → IsDraftOf run new
  ran-on new (same, on, sent) = record {
    recording = subst (λ (r : RecordingParts). IsRecordingOf run r) (sym same) is.recording;
    later = subst (λ (r : RecordingParts). last_count r ≤ new.at) (sym same) (omega (arith, is.later, on));
    sent = sent ∙ sent-more new.at on ∙ ap (λ (r : RecordingParts). sent_between run (last_count r) new.at) (sym same);
  }

-- ---- one more checkpoint

module _ (run : Run) (d : Draft) (is : IsDraftOf run d) (lawful : IsLawfulWithDisk d.recording) (ordered : AreOrdered run.inputs) (n : ℕ) (on : d.at ≤ n)
    (new : Draft) (more : IsExtended d.recording (next_inputs run d.recording n) n (next_outcome run d n) new.recording)
    (at : new.at ≡ n) (none : new.sent.items ≡ []) where
  abbrev old : RecordingParts
  old = d.recording

  abbrev next : RecordingParts
  next = new.recording

  later : last_count old ≤ n
  later = omega (arith, is.later, on)

  last-is : last_of next ≡ length old.checkpoints
  last-is = omega (arith, more.more)

  last-count-is : last_count next ≡ n
  last-count-is = ap (λ (k : ℕ). count_at next k) last-is ∙ more.last_counts

  begins : (claimed next 0).state ≡ run.first
  begins = ap (λ (o : Outcome). o.state) (more.claims 0 lawful.some) ∙ is.recording.first

  inputs-are : next.inputs ≡ inputs_before n run.inputs
  inputs-are =
      more.inputs_more
      ∙ ap (λ (l : List Event). l ++ drop (length l) (inputs_before n run.inputs)) is.recording.inputs
      ∙ joined-before run.inputs (last_count old) n later ordered

  true-before : (k : ℕ) → k < length old.checkpoints → IsTrueAt next k
  true-before k inside =
      let low = low-last old lawful k inside in
      let up = rise old lawful k inside in
      let here = more.counts k inside in
      let before = more.counts (k - 1) (omega (arith, inside)) in
      more.claims k inside
      ∙ is.recording.truth k inside
      ∙ defined-is old run.inputs (last_count old) run.first k is.recording.inputs is.recording.first up low
      ∙ ap (λ (m : ℕ). outcome_between run.inputs run.first m (count_at old k)) (sym before)
      ∙ ap (λ (m : ℕ). outcome_between run.inputs run.first (count_at next (k - 1)) m) (sym here)
      ∙ sym (defined-is next run.inputs n run.first k inputs-are begins (omega (arith, up, here, before)) (omega (arith, low, here, later)))

  next-outcome-is : next_outcome run d n ≡ outcome_between run.inputs run.first (last_count old) n
  next-outcome-is =
      let starts = is.recording.starts in
      let state = state-0 run starts n in
      let sent = sent-more run d is n on ∙ sent-0 run starts (last_count old) n in
      λ i. record { state = state i; sent = sent i }

  true-last : IsTrueAt next (length old.checkpoints)
  true-last =
      let k : ℕ = length old.checkpoints in
      let here = more.last_counts in
      let before : count_at next (k - 1) ≡ last_count old = more.counts (k - 1) (omega (arith, lawful.some)) in
      more.last_claims
      ∙ next-outcome-is
      ∙ ap (λ (m : ℕ). outcome_between run.inputs run.first m n) (sym before)
      ∙ ap (λ (m : ℕ). outcome_between run.inputs run.first (count_at next (k - 1)) m) (sym here)
      ∙ sym (defined-is next run.inputs n run.first k inputs-are begins (omega (arith, before, here, later)) (omega (arith, here)))

  truth : (k : ℕ) → k < length next.checkpoints → IsTrueAt next k
  truth k inside = elim (cases_lt k (length old.checkpoints)) [
    | inl early ↦ true-before k early
    | inr late ↦
        let same : length old.checkpoints ≡ k = omega (arith, late, inside, more.more) in
        subst (λ (j : ℕ). IsTrueAt next j) same true-last
  ]

  pub extended-draft : IsDraftOf run new
  extended-draft = record {
    recording = record {
      starts = is.recording.starts;
      first = begins;
      inputs = inputs-are ∙ ap (λ (m : ℕ). inputs_before m run.inputs) (sym last-count-is);
      truth = truth;
    };
    later = omega (arith, last-count-is, at);
    sent = none ∙ sym (sent_of-none run.inputs (last_count next) (new.at - last_count next) (state_at run (last_count next)) (omega (arith, last-count-is, at)));
  }

-- ---- what a checkpoint says, and why there is none

-- the inputs that a recording does not have yet
pub next-slice : (run : Run) (r : RecordingParts) (n next taken len : ℕ) (events : List Event) → events ≡ run.inputs → IsNextAt events next n
    → len ≡ length r.inputs → taken ≡ min len next → slice_range events taken next ≡ next_inputs run r n
next-slice run r n next taken len events are at len-is taken-is =
    let split : taken + (next - taken) ≡ next = omega (arith, taken-is) in
    let sliced : slice_range events taken next ≡ drop taken (take next events) =
    sym (drop-take taken (next - taken) events) ∙ ap (λ (m : ℕ). drop taken (take m events)) split in
    let rest : drop taken (take next events) ≡ drop len (take next events) = elim (cases_lt next len) [
      | inl few ↦
          let all : taken ≡ next = omega (arith, taken-is, few) in
          drop_all taken (take next events) (omega (arith, all, length-take next events))
          ∙ sym (drop_all len (take next events) (omega (arith, few, length-take next events)))
      | inr enough ↦
          let same : taken ≡ len = omega (arith, taken-is, enough) in
          ap (λ (m : ℕ). drop m (take next events)) same
    ] in
    sliced ∙ rest
    ∙ ap (λ (m : ℕ). drop m (take next events)) len-is
    ∙ ap (λ (l : List Event). drop (length r.inputs) l) (take-before events next n at ∙ ap (λ (l : List Event). inputs_before n l) are)

-- a run on from the draft's count to that of the checkpoint gives what the checkpoint says
pub claim-is : (run : Run) (d : Draft) (n to end : ℕ) (inputs : List Event) (before after : State) (bytes sent : List ℕ) → inputs ≡ run.inputs
    → run.start ≤ d.at → d.at ≤ n → to ≡ n → end ≡ to → before ≡ state_at run d.at → after ≡ run_of inputs d.at (to - d.at) before
    → bytes ≡ sent_of inputs d.at (end - d.at) before → sent ≡ d.sent.items ++ bytes
    → record { state = after; sent = sent } ≡ next_outcome run d n
claim-is run d n to end inputs before after bytes sent are begun on to-is end-is before-is after-is bytes-are sent-is =
    let here : end ≡ n = omega (arith, to-is, end-is) in
    let state : after ≡ state_at run n =
    after-is
    ∙ ap (λ (l : List Event). run_of l d.at (to - d.at) before) are
    ∙ ap (λ (m : ℕ). run_of run.inputs d.at (m - d.at) before) to-is
    ∙ run-on run.inputs run.start d.at n run.first begun on before before-is in
    let there : bytes ≡ sent_between run d.at n =
    bytes-are
    ∙ ap (λ (l : List Event). sent_of l d.at (end - d.at) before) are
    ∙ ap (λ (m : ℕ). sent_of run.inputs d.at (m - d.at) before) here
    ∙ ap (λ (s : State). sent_of run.inputs d.at (n - d.at) s) before-is in
    let all : sent ≡ sent_up_to run d n = sent-is ∙ ap (λ (l : List ℕ). d.sent.items ++ l) there in
    λ i. record { state = state i; sent = all i }

-- a run that sends more bytes than there is room for
pub too-much : (run : Run) (d : Draft) (n end room : ℕ) (inputs : List Event) (before : State) → inputs ≡ run.inputs → before ≡ state_at run d.at
    → d.at ≤ end → end < n → room ≡ MAX_OUTPUT - length (output_of d.recording.checkpoints) - length d.sent.items
    → room < length (sent_of inputs d.at (end + 1 - d.at) before) → ¬ (FitsOutput d.recording (next_outcome run d n))
too-much run d n end room inputs before are before-is on further room-is full = λ fits.
    let some = ap (λ (l : List Event). length (sent_of l d.at (end + 1 - d.at) before)) are
    ∙ ap (λ (s : State). length (sent_of run.inputs d.at (end + 1 - d.at) s)) before-is in
    let grows = sent-grows run.inputs d.at (end + 1) n (state_at run d.at) (omega (arith, on)) (omega (arith, further)) in
    let joined = length-append d.sent.items (sent_between run d.at n) in
    omega (arith, fits, joined, grows, some, full, room-is)

pub extend-fault : (r : RecordingParts) (inputs : List Event) (n : ℕ) (claim : Outcome) (f : ExtendFault) → IsExtendFault r inputs n claim f
    → IsCheckpointFault r inputs n claim (draft_fault f)
extend-fault r inputs n claim extend.Pending is = λ both. is both.0
extend-fault r inputs n claim extend.Order is = λ both. is.1 both.1
extend-fault r inputs n claim extend.Inputs is = is.2
extend-fault r inputs n claim extend.Checkpoints is = is.3
extend-fault r inputs n claim extend.Output is = is.4
extend-fault r inputs n claim extend.Pages is = is.1
extend-fault r inputs n claim extend.Memory is = tt

checkpoint-fault : (p : PastParts) (d : Draft) (n : ℕ) (f : DraftFault) → n ≤ p.end
    → IsCheckpointFault d.recording (next_inputs p.run d.recording n) n (next_outcome p.run d n) f → IsDraftFault p d n f
checkpoint-fault p d n fault.Start inside is = is
checkpoint-fault p d n fault.Later inside is = absurd is
checkpoint-fault p d n fault.Order inside is = λ follows. is (follows.taken, follows.next)
checkpoint-fault p d n fault.Inputs inside is = is
checkpoint-fault p d n fault.Checkpoints inside is = is
checkpoint-fault p d n fault.Output inside is = is
checkpoint-fault p d n fault.Pages inside is = is
checkpoint-fault p d n fault.Memory inside is = inside

pub checkpoint-refused : (p : PastParts) (d : Draft) (n : ℕ) (f : DraftFault) (claim : Outcome) → n ≤ p.end → claim ≡ next_outcome p.run d n
    → IsCheckpointFault d.recording (next_inputs p.run d.recording n) n claim f → IsDraftFault p d n f
checkpoint-refused p d n f claim inside same is =
    checkpoint-fault p d n f inside (subst (λ (o : Outcome). IsCheckpointFault d.recording (next_inputs p.run d.recording n) n o f) same is)

-- a claim, by its parts
outcome-is : (given : Outcome) (state : State) (sent : List ℕ) → given.state.cpu ≡ state.cpu → given.state.devices ≡ state.devices
    → given.state.words ≡ state.words → given.sent ≡ sent → given ≡ record { state = state; sent = sent }
outcome-is given state sent cpu devices words sends =
    λ i. record { state = record { cpu = cpu i; devices = devices i; words = words i }; sent = sends i }

pub extended-so : (r : RecordingParts) (before inputs : List Event) (n : ℕ) (given : Outcome) (new : RecordingParts) (state : State) (sent : List ℕ)
    → IsExtended r before n given new → before ≡ inputs → given.state.cpu ≡ state.cpu → given.state.devices ≡ state.devices
    → given.state.words ≡ state.words → given.sent ≡ sent → IsExtended r inputs n (record { state = state; sent = sent }) new
extended-so r before inputs n given new state sent is same cpu devices words sends =
    subst (λ (o : Outcome). IsExtended r inputs n o new) (outcome-is given state sent cpu devices words sends)
    (subst (λ (l : List Event). IsExtended r l n given new) same is)

pub refused-so : (r : RecordingParts) (before inputs : List Event) (n : ℕ) (given : Outcome) (f : ExtendFault) (state : State) (sent : List ℕ)
    → IsExtendFault r before n given f → before ≡ inputs → given.state.cpu ≡ state.cpu → given.state.devices ≡ state.devices
    → given.state.words ≡ state.words → given.sent ≡ sent → IsCheckpointFault r inputs n (record { state = state; sent = sent }) (draft_fault f)
refused-so r before inputs n given f state sent is same cpu devices words sends =
    extend-fault r inputs n (record { state = state; sent = sent }) f
    (subst (λ (o : Outcome). IsExtendFault r inputs n o f) (outcome-is given state sent cpu devices words sends)
    (subst (λ (l : List Event). IsExtendFault r l n given f) same is))

-- ---- a draft that begins, and one that stays

pub begun-draft : (run : Run) (d : Draft) → run.start ≡ 0 → IsBegun run.first d.recording → d.at ≡ 0 → d.sent.items ≡ [] → IsDraftOf run d
begun-draft run d starts b at none =
    let r : RecordingParts = d.recording in
    let last : last_of r ≡ 0 = omega (arith, b.one) in
    let last-is : last_count r ≡ 0 = ap (λ (k : ℕ). count_at r k) last ∙ b.begins in
    let s : State = (claimed r 0).state in
    let empty : count_at r 0 - count_at r (0 - 1) ≡ 0 = omega (arith, b.begins) in
    let state = sym (run_of-none r.inputs 0 (count_at r 0) s b.begins) in
    let sent = ap (λ (o : Outcome). o.sent) b.claims
    ∙ sym (sent_of-none r.inputs (count_at r (0 - 1)) (count_at r 0 - count_at r (0 - 1)) (state_from r.inputs s (count_at r (0 - 1))) empty) in
    let first : IsTrueAt r 0 = λ i. record { state = state i; sent = sent i } in
    record {
      recording = record {
        starts = starts;
        first = ap (λ (o : Outcome). o.state) b.claims;
        inputs = b.inputs ∙ sym (none-before run.inputs (last_count r) (λ k inside. omega (arith, last-is)));
        truth = λ k inside.
            let zeroth : 0 ≡ k = omega (arith, inside, b.one) in
            subst (λ (j : ℕ). IsTrueAt r j) zeroth first;
      };
      later = omega (arith, last-is, at);
      sent = none ∙ sym (sent_of-none run.inputs (last_count r) (d.at - last_count r) (state_at run (last_count r)) (omega (arith, last-is, at)));
    }

pub same-draft : (run : Run) (d : Draft) (n : ℕ) → d.at ≤ n → IsDrafted run d n (drafted.More d)
same-draft run d n on =
    let none : sent_between run d.at d.at ≡ [] = sent_of-none run.inputs d.at (d.at - d.at) (state_at run d.at) (omega arith) in
    let same = ap (λ (l : List ℕ). d.sent.items ++ l) none ∙ append-nil d.sent.items in
    (refl, omega arith, on, sym same)
