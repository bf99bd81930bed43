-- Two runs of a caller, the second from the end of the first, are one.
use Rattle.std.proofs.Common.{◌≡◌, ◌∙◌, ◌<◌, ◌≤◌, ◌+◌, ◌-◌, ℕ, List, [], ◌∷◌, ◌++◌, ap, arith, get_or, length, map, refl, subst, sym}
use Rattle.std.proofs.lemmas.List.{append-nil, get_or-map, length-map, map-append}
use Rattle.std.specs.List.{All}
use Rattle.risc_model.proofs.LawLemmas.{run_of-on, sent_of-on}
use Rattle.risc_model.proofs.OrderLemmas.{count_at-is}
use Rattle.risc_model.specs.InputOrder.{count_at}
use Rattle.risc_model.specs.MachineState.{State}
use Rattle.risc_model.specs.Replay.{run_of, sent_of}
use Rattle.risc_model.specs.declared.event.Event.{Event}
use Rattle.oberon_session.proofs.JoinedOrder.{ordered-append}
use Rattle.galluspa.specs.Laws.{JoinLaw}
use Rattle.galluspa.specs.Raw.{raw_input, state_of}
use Rattle.galluspa.specs.declared.raw.RawInput.{RawInput}
use Rattle.galluspa.proofs.FrameLemmas.{frame_law-holds}

-- what holds of the count of each input holds of the count at each place of its events
raw-counts : (Q : ℕ → Type 0) (es : List Event) → All (λ (r : RawInput). Q r.count) (map raw_input es) → (i : ℕ) → i < length es → Q (count_at es i)
raw-counts Q [] each i lt = absurd (omega (arith, lt))
raw-counts Q (e ∷ es) each i lt =
    let here : (get_or (map raw_input (e ∷ es)) i (raw_input e)).count ≡ count_at (e ∷ es) i =
    ap (λ (r : RawInput). r.count) (get_or-map raw_input (e ∷ es) i e (raw_input e) lt) ∙ sym (count_at-is (e ∷ es) i e lt) in
    subst Q here (each i (raw_input e) (omega (arith, lt, length-map (e ∷ es) raw_input)))

module _ (xs ys : List Event) (from at end : ℕ) (s : State) (begun : from ≤ at) (on : at ≤ end)
    (before : (i : ℕ) → i < length xs → count_at xs i < at) (after : (i : ℕ) → i < length ys → at ≤ count_at ys i) where
  abbrev all : List Event
  all = xs ++ ys

  abbrev mid : State
  mid = run_of xs from (at - from) s

  here : from + (at - from) ≡ at
  here = omega (arith, begun)

  split : (at - from) + (end - at) ≡ end - from
  split = omega (arith, begun, on)

  none-before : (i : ℕ) → i < length {A = Event} [] → count_at [] i < from
  none-before i lt = absurd (omega (arith, lt))

  none-after : (i : ℕ) → i < length {A = Event} [] → at + (end - at) ≤ count_at [] i
  none-after i lt = absurd (omega (arith, lt))

  later : (i : ℕ) → i < length ys → from + (at - from) ≤ count_at ys i
  later i lt = let low = after i lt in omega (arith, low, here)

  alone : xs ++ (ys ++ []) ≡ all
  alone = ap (λ (es : List Event). xs ++ es) (append-nil ys)

  to-mid : mid ≡ run_of all from (at - from) s
  to-mid = frame_law-holds.0 [] xs ys from (at - from) s none-before later

  joined-state : run_of ys at (end - at) mid ≡ run_of all from (end - from) s
  joined-state =
      frame_law-holds.0 xs ys [] at (end - at) mid before none-after
      ∙ ap (λ (es : List Event). run_of es at (end - at) mid) alone
      ∙ ap (λ (x : State). run_of all at (end - at) x) to-mid
      ∙ ap (λ (n : ℕ). run_of all n (end - at) (run_of all from (at - from) s)) (sym here)
      ∙ sym (run_of-on all from (at - from) (end - at) s)
      ∙ ap (λ (n : ℕ). run_of all from n s) split

  rest-sent : sent_of ys at (end - at) mid ≡ sent_of all (from + (at - from)) (end - at) (run_of all from (at - from) s)
  rest-sent =
      frame_law-holds.1 xs ys [] at (end - at) mid before none-after
      ∙ ap (λ (es : List Event). sent_of es at (end - at) mid) alone
      ∙ ap (λ (x : State). sent_of all at (end - at) x) to-mid
      ∙ ap (λ (n : ℕ). sent_of all n (end - at) (run_of all from (at - from) s)) (sym here)

  joined-sent : sent_of xs from (at - from) s ++ sent_of ys at (end - at) mid ≡ sent_of all from (end - from) s
  joined-sent =
      ap (λ (l : List ℕ). l ++ sent_of ys at (end - at) mid) (frame_law-holds.1 [] xs ys from (at - from) s none-before later)
      ∙ ap (λ (l : List ℕ). sent_of all from (at - from) s ++ l) rest-sent
      ∙ sym (sent_of-on all from (at - from) (end - at) s)
      ∙ ap (λ (n : ℕ). sent_of all from n s) split

pub join_law-holds : JoinLaw
join_law-holds first second old mid new old_words mid_words new_words sent more earlier later run on =
    let xs = run.events in
    let ys = on.events in
    let before = raw-counts (λ (c : ℕ). c < mid.count) xs (subst (All (λ (r : RawInput). r.count < mid.count)) (sym run.are_events.written) earlier) in
    let after = raw-counts (λ (c : ℕ). mid.count ≤ c) ys (subst (All (λ (r : RawInput). mid.count ≤ r.count)) (sym on.are_events.written) later) in
    let s = state_of old old_words in
    record {
      events = xs ++ ys;
      are_events = record {
        written =
            map-append raw_input xs ys
            ∙ ap (λ (l : List RawInput). l ++ map raw_input ys) run.are_events.written
            ∙ ap (λ (l : List RawInput). first ++ l) on.are_events.written;
        ordered = ordered-append xs ys mid.count run.are_events.ordered on.are_events.ordered before after;
      };
      forward = omega (arith, run.forward, on.forward);
      count_is = refl;
      state_is =
          on.state_is
          ∙ ap (λ (x : State). run_of ys mid.count (new.count - mid.count) x) run.state_is
          ∙ joined-state xs ys old.count mid.count new.count s run.forward on.forward before after;
      sent_is =
          ap (λ (l : List ℕ). l ++ more) run.sent_is
          ∙ ap (λ (l : List ℕ). sent_of xs old.count (mid.count - old.count) s ++ l)
          (on.sent_is ∙ ap (λ (x : State). sent_of ys mid.count (new.count - mid.count) x) run.state_is)
          ∙ joined-sent xs ys old.count mid.count new.count s run.forward on.forward before after;
    }
