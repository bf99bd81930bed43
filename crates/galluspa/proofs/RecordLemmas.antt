-- Recordings that are made while a machine runs are true.
use Rattle.std.proofs.Common.{◌≡◌, ◌∙◌, ◌<◌, ◌≤◌, ◌+◌, ◌-◌, ℕ, zero, suc, inl, inr, List, [], ◌++◌, ap, arith, length, subst, sym}
use Rattle.std.proofs.lemmas.Bool.{cases_lt}
use Rattle.std.proofs.lemmas.List.{append-nil}
use Rattle.risc_model.proofs.LawLemmas.{run_of-on}
use Rattle.risc_model.specs.InputOrder.{count_at as event_count}
use Rattle.risc_model.specs.MachineState.{State}
use Rattle.risc_model.specs.Replay.{run_of, sent_of}
use Rattle.risc_model.specs.declared.event.Event.{Event}
use Rattle.oberon_format.proofs.One.{same_recording_with_disk}
use Rattle.oberon_format.specs.Defined.{IsTrueAt, Outcome, claimed}
use Rattle.oberon_format.specs.Recording.{IsLawfulWithDisk, RecordingParts, count_at, last_of}
use Rattle.oberon_check.specs.declared.versions.Versions.TheVariants.{WithDisk}
use Rattle.oberon_check.proofs.Accepting.{accepted-text}
use Rattle.oberon_session.proofs.JoinedOrder.{each-count}
use Rattle.oberon_session.specs.Extended.{HasRoom, HasTakenAll, IsExtended, IsNext, last_count}
use Rattle.galluspa.specs.Advance.{HasRun}
use Rattle.galluspa.specs.Extend.{IsBeginning, IsExtension, claim_of}
use Rattle.galluspa.specs.Laws.{IsTrueUpTo, RecordLaw}
use Rattle.galluspa.specs.Raw.{state_of}
use Rattle.galluspa.specs.declared.raw.RawInput.{RawInput}
use Rattle.galluspa.specs.declared.raw.RawState.{RawState}
use Rattle.galluspa.proofs.ExtendLemmas.{same-events}
use Rattle.galluspa.proofs.FileLemmas.{file-text}
use Rattle.galluspa.proofs.FrameLemmas.{frame_law-holds}

-- what one run from a first state gives from one count up to another
abbrev given : List Event → State → ℕ → ℕ → Outcome
given es first from to = record { state = run_of es 0 to first; sent = sent_of es from (to - from) (run_of es 0 from first) }

module _ (r : RecordingParts) (lawful : IsLawfulWithDisk r) where
  counts-rise : (j d : ℕ) → j + d < length r.checkpoints → count_at r j ≤ count_at r (j + d)
  counts-rise j zero lt = let same : j + 0 ≡ j = omega arith in rw same (omega arith)
  counts-rise j (suc d) lt =
      let before = counts-rise j d (omega arith) in
      let step = lawful.rises (j + d) (omega arith) in
      let next : j + d + 1 ≡ j + suc d = omega arith in
      let on : count_at r (j + d) < count_at r (j + suc d) = subst (λ (n : ℕ). count_at r (j + d) < count_at r n) next step in
      omega (arith, before, on)

  -- a checkpoint is at no later count than the ones after it
  not-later : (j k : ℕ) → j ≤ k → k < length r.checkpoints → count_at r j ≤ count_at r k
  not-later j k le lt =
      let whole : j + (k - j) ≡ k = omega arith in
      subst (λ (n : ℕ). count_at r j ≤ count_at r n) whole (counts-rise j (k - j) (omega arith))

  module _ (events : List Event) (count : ℕ) (claim : Outcome) (new : RecordingParts) (truth : (k : ℕ) → k < length r.checkpoints → IsTrueAt r k)
      (past : HasTakenAll r) (next : IsNext r events count) (ext : IsExtended r events count claim new) where
    abbrev first : State
    first = (claimed r 0).state

    abbrev all : List Event
    all = r.inputs ++ events

    last-inside : last_of r < length r.checkpoints
    last-inside = omega (arith, lawful.some)

    first-new : (claimed new 0).state ≡ first
    first-new = ap (λ (o : Outcome). o.state) (ext.claims 0 lawful.some)

    -- no input that comes next is of a count before the last checkpoint's
    later : (n : ℕ) → n ≤ last_count r → (i : ℕ) → i < length events → n ≤ event_count events i
    later n le i lt =
        let low = each-count (λ (c : ℕ). last_count r ≤ c) events i lt (λ k d h. (next.between k d h).0) in
        omega (arith, low, le)

    earlier : (i : ℕ) → i < length r.inputs → event_count r.inputs i < last_count r
    earlier i lt = each-count (λ (c : ℕ). c < last_count r) r.inputs i lt past

    -- so the run up to there is the same with them
    state-with : (n : ℕ) → n ≤ last_count r → run_of r.inputs 0 n first ≡ run_of all 0 n first
    state-with n le =
        frame_law-holds.0 [] r.inputs events 0 n first (λ i lt. absurd (omega (arith, lt)))
        (λ i lt. let low = later n le i lt in omega (arith, low))

    sent-with : (from n : ℕ) → from ≤ n → n ≤ last_count r → (s : State) → sent_of r.inputs from (n - from) s ≡ sent_of all from (n - from) s
    sent-with from n begun le s =
        frame_law-holds.1 [] r.inputs events from (n - from) s (λ i lt. absurd (omega (arith, lt)))
        (λ i lt. let low = later n le i lt in omega (arith, low, begun))

    given-with : (from n : ℕ) → from ≤ n → n ≤ last_count r → given r.inputs first from n ≡ given all first from n
    given-with from n begun le =
        let state = state-with n le in
        let reached = state-with from (omega (arith, begun, le)) in
        let sent = sent-with from n begun le (run_of r.inputs 0 from first) ∙ ap (λ (x : State). sent_of all from (n - from) x) reached in
        λ i. record { state = state i; sent = sent i }

    -- what the new recording's run gives
    moved : (from to a b : ℕ) → a ≡ from → b ≡ to → given new.inputs (claimed new 0).state a b ≡ given all first from to
    moved from to a b from_is to_is =
        ap (λ (es : List Event). given es (claimed new 0).state a b) ext.inputs_more
        ∙ ap (λ (s : State). given all s a b) first-new
        ∙ ap (λ (n : ℕ). given all first n b) from_is
        ∙ ap (λ (n : ℕ). given all first from n) to_is

    true-before : (k : ℕ) → k < length r.checkpoints → IsTrueAt new k
    true-before k lt =
        let back : k - 1 < length r.checkpoints = omega (arith, lt) in
        let rises = not-later (k - 1) k (omega arith) lt in
        let bounded = not-later k (last_of r) (omega (arith, lt)) last-inside in
        ext.claims k lt ∙ truth k lt ∙ given-with (count_at r (k - 1)) (count_at r k) rises bounded
        ∙ sym (moved (count_at r (k - 1)) (count_at r k) (count_at new (k - 1)) (count_at new k) (ext.counts (k - 1) back) (ext.counts k lt))

    -- the last checkpoint's state, from which the claim's run goes on
    abbrev last-state : State
    last-state = (claimed r (last_of r)).state

    reached : last-state ≡ run_of all 0 (last_count r) first
    reached = ap (λ (o : Outcome). o.state) (truth (last_of r) last-inside) ∙ state-with (last_count r) (omega arith)

    module _ (state_is : claim.state ≡ run_of events (last_count r) (count - last_count r) last-state)
        (sent_is : claim.sent ≡ sent_of events (last_count r) (count - last_count r) last-state) where
      no-more : (i : ℕ) → i < length {A = Event} [] → last_count r + (count - last_count r) ≤ event_count [] i
      no-more i lt = absurd (omega (arith, lt))

      alone : r.inputs ++ (events ++ []) ≡ all
      alone = ap (λ (es : List Event). r.inputs ++ es) (append-nil events)

      -- the run from there on is the rest of the run from the first state
      on : run_of all (last_count r) (count - last_count r) (run_of all 0 (last_count r) first) ≡ run_of all 0 count first
      on =
          let begun : last_count r ≡ 0 + last_count r = omega arith in
          let whole : last_count r + (count - last_count r) ≡ count = omega (arith, next.later) in
          ap (λ (n : ℕ). run_of all n (count - last_count r) (run_of all 0 (last_count r) first)) begun
          ∙ sym (run_of-on all 0 (last_count r) (count - last_count r) first)
          ∙ ap (λ (n : ℕ). run_of all 0 n first) whole

      state-given : claim.state ≡ run_of all 0 count first
      state-given =
          state_is
          ∙ frame_law-holds.0 r.inputs events [] (last_count r) (count - last_count r) last-state earlier no-more
          ∙ ap (λ (es : List Event). run_of es (last_count r) (count - last_count r) last-state) alone
          ∙ ap (λ (s : State). run_of all (last_count r) (count - last_count r) s) reached
          ∙ on

      sent-given : claim.sent ≡ sent_of all (last_count r) (count - last_count r) (run_of all 0 (last_count r) first)
      sent-given =
          sent_is
          ∙ frame_law-holds.1 r.inputs events [] (last_count r) (count - last_count r) last-state earlier no-more
          ∙ ap (λ (es : List Event). sent_of es (last_count r) (count - last_count r) last-state) alone
          ∙ ap (λ (s : State). sent_of all (last_count r) (count - last_count r) s) reached

      true-last : IsTrueAt new (length r.checkpoints)
      true-last =
          let state = state-given in
          let sent = sent-given in
          let claim_is : claim ≡ given all first (last_count r) count = λ i. record { state = state i; sent = sent i } in
          ext.last_claims ∙ claim_is
          ∙ sym (moved (last_count r) count (count_at new (length r.checkpoints - 1)) (count_at new (length r.checkpoints)) (ext.counts (last_of r) last-inside) ext.last_counts)

      -- all claims of the recording with a checkpoint more are true
      pub true-more : (k : ℕ) → k < length new.checkpoints → IsTrueAt new k
      true-more k lt =
          elim (cases_lt k (length r.checkpoints)) [
            | inl less ↦ true-before k less
            | inr more ↦
                let last : length r.checkpoints ≡ k = omega (arith, ext.more) in
                subst (λ (n : ℕ). IsTrueAt new n) last true-last
          ]

-- the recording with a checkpoint more is true up to that checkpoint's state
extended-true : (text : List ℕ) (inputs : List RawInput) (old new : RawState) (old_words new_words sent new_text : List ℕ)
    → IsTrueUpTo text old old_words → HasRun inputs new.count old old_words new new_words sent
    → IsExtension text inputs new new_words sent new_text → IsTrueUpTo new_text new new_words
extended-true text inputs old new old_words new_words sent new_text live run ext =
    let r = live.recording in
    let same_old = same_recording_with_disk text ext.old r ext.is_text live.is_text in
    let same_inputs = same-events ext.events run.events (ext.are_events.written ∙ sym run.are_events.written) in
    let claim = claim_of new new_words sent in
    let room : HasRoom r run.events new.count claim =
    subst (λ (es : List Event). HasRoom r es new.count claim) same_inputs (subst (λ (x : RecordingParts). HasRoom x ext.events new.count claim) same_old ext.room) in
    let more : IsExtended r run.events new.count claim ext.new =
    subst (λ (es : List Event). IsExtended r es new.count claim ext.new) same_inputs
    (subst (λ (x : RecordingParts). IsExtended x ext.events new.count claim ext.new) same_old ext.extended) in
    let state_is =
    run.state_is
    ∙ ap (λ (n : ℕ). run_of run.events n (new.count - n) (state_of old old_words)) (sym live.count_is)
    ∙ ap (λ (s : State). run_of run.events (last_count r) (new.count - last_count r) s) (sym live.claims) in
    let sent_is =
    run.sent_is
    ∙ ap (λ (n : ℕ). sent_of run.events n (new.count - n) (state_of old old_words)) (sym live.count_is)
    ∙ ap (λ (s : State). sent_of run.events (last_count r) (new.count - last_count r) s) (sym live.claims) in
    let last : length r.checkpoints ≡ last_of ext.new = omega (arith, more.more) in
    record {
      recording = ext.new;
      is_text = file-text new_text ext.new ext.text_is;
      truth = true-more r live.is_text.is.lawful run.events new.count claim ext.new live.truth room.taken room.next more state_is sent_is;
      count_is = ap (λ (k : ℕ). count_at ext.new k) (sym last) ∙ more.last_counts;
      claims = ap (λ (k : ℕ). (claimed ext.new k).state) (sym last) ∙ ap (λ (o : Outcome). o.state) more.last_claims;
    }

-- the recording that begins with a state is true up to it
begun-true : (state : RawState) (words text : List ℕ) → IsBeginning state words text → IsTrueUpTo text state words
unfolding run_of sent_of
begun-true state words text begun =
    let r = begun.recording in
    let last : last_of r ≡ 0 = omega (arith, begun.begun.one) in
    let here : IsTrueAt r 0 =
    begun.begun.claims
    ∙ ap (λ (o : Outcome). record { state = o.state; sent = [] }) (sym begun.begun.claims)
    ∙ ap (λ (n : ℕ). given r.inputs (claimed r 0).state n n) (sym begun.begun.begins) in
    record {
      recording = r;
      is_text = file-text text r begun.text_is;
      truth = λ k lt. let first : 0 ≡ k = omega (arith, begun.begun.one, lt) in subst (λ (n : ℕ). IsTrueAt r n) first here;
      count_is = ap (λ (k : ℕ). count_at r k) last ∙ begun.begun.begins ∙ sym begun.begins;
      claims = ap (λ (k : ℕ). (claimed r k).state) last ∙ ap (λ (o : Outcome). o.state) begun.begun.claims;
    }

pub record_law-holds : RecordLaw
record_law-holds = (begun-true, extended-true, (λ text state words live. accepted-text WithDisk live.recording text live.is_text live.truth))
