-- The inputs of a run: those before a count, and more after them. Neither changes an earlier state.
use Rattle.std.proofs.Common.{◌≡◌, ◌≢◌, ◌∙◌, ◌+◌, ◌-◌, ◌<◌, ◌≤◌, ℕ, suc, Bool, true, false, List, [], ◌∷◌, ◌++◌, ap, arith, drop, get_or, length, length-drop, length-take, map, nat_lt, refl, sym, take}
use Rattle.std.specs.Prelude.{◌==◌, if◌then◌else◌}
use Rattle.std.specs.List.{All, filter}
use Rattle.std.proofs.lemmas.Bool.{ltb-false, ltb-true, lt-ltb, le-ltb, ne_eqb}
use Rattle.std.proofs.lemmas.List.{append-nil, drop-map, get_or-drop, take-append-drop}
use Rattle.std.proofs.lemmas.List.Elements.{filter-append}
use Rattle.risc_devices.specs.DeviceState.{DeviceState}
use Rattle.risc_devices.specs.Input.{taken_input}
use Rattle.risc_model.specs.declared.event.Event.{Event}
use Rattle.risc_model.specs.InputOrder.{AreOrdered, IsNextAt, count_at}
use Rattle.risc_model.specs.MachineState.{State}
use Rattle.risc_model.specs.Replay.{fed, run_of, sent_of}
use Rattle.risc_model.proofs.FrameLemmas.{agree-run, agree-sent, fed-append}
use Rattle.risc_model.proofs.OrderLemmas.{count_at-take, counts-order}
use Rattle.risc_model.proofs.RunLemmas.{fed-others}
use Rattle.oberon_session.proofs.JoinedOrder.{each-count}
use Rattle.oberon_past.specs.Live.{AreSameUpTo, inputs_before}
use Rattle.oberon_past.specs.Run.{Run}

-- ---- the inputs before a count

first-fed : (e : Event) (es : List Event) (n m : ℕ) (d : DeviceState) → m < n → ((x : DeviceState) → fed (inputs_before n es) m x ≡ fed es m x)
    → (early : Bool) → nat_lt e.count n ≡ early → fed (inputs_before n (e ∷ es)) m d ≡ fed (e ∷ es) m d
first-fed e es n m d low others true is = rw is (others (if e.count == m then taken_input e.input d else d))
first-fed e es n m d low others false is =
    let late = ltb-false e.count n is in
    let other : e.count ≢ m = omega arith in
    rw (is, ne_eqb e.count m other) (others d)

before-fed : (es : List Event) (n m : ℕ) (d : DeviceState) → m < n → fed (inputs_before n es) m d ≡ fed es m d
before-fed [] n m d low = refl
before-fed (e ∷ es) n m d low = first-fed e es n m d low (λ x. before-fed es n m x low) (nat_lt e.count n) refl

pub before-run : (es : List Event) (n from k : ℕ) (s : State) → from + k ≤ n → run_of (inputs_before n es) from k s ≡ run_of es from k s
before-run es n from k s low = agree-run (inputs_before n es) es from k s (λ j d h. before-fed es n (from + j) d (omega arith))

pub before-states : (run : Run) (n : ℕ) → run.start ≤ n → AreSameUpTo n run (record run { inputs = inputs_before n run.inputs })
before-states run n begun = λ m low. before-run run.inputs n run.start (m - run.start) run.first (omega arith)

-- nor the bytes that it sends
pub before-sent : (es : List Event) (n from k : ℕ) (s : State) → from + k ≤ n → sent_of (inputs_before n es) from k s ≡ sent_of es from k s
before-sent es n from k s low = agree-sent (inputs_before n es) es from k s (λ j d h. before-fed es n (from + j) d (omega arith))

all-before : (es : List Event) (n : ℕ) → ((k : ℕ) → k < length es → count_at es k < n) → inputs_before n es ≡ es
all-before [] n early = refl
all-before (e ∷ es) n early =
    rw (lt-ltb e.count n (early 0 (omega arith))) (ap (λ (l : List Event). e ∷ l) (all-before es n (λ k h. early (suc k) (omega arith))))

pub none-before : (es : List Event) (n : ℕ) → ((k : ℕ) → k < length es → n ≤ count_at es k) → inputs_before n es ≡ []
none-before [] n late = refl
none-before (e ∷ es) n late = rw (le-ltb e.count n (late 0 (omega arith))) (none-before es n (λ k h. late (suc k) (omega arith)))

count_at-drop : (es : List Event) (first k : ℕ) → count_at (drop first es) k ≡ count_at es (first + k)
count_at-drop es first k =
    let counts : Event → ℕ = λ (e : Event). e.count in
    ap (λ (ns : List ℕ). get_or ns k 0) (sym (drop-map counts first es)) ∙ get_or-drop first (map counts es) k 0

-- they are the first inputs, up to the index of the first one of the count or later
pub take-before : (es : List Event) (next n : ℕ) → IsNextAt es next n → take next es ≡ inputs_before n es
take-before es next n is =
    let early : Event → Bool = λ (e : Event). nat_lt e.count n in
    let first : inputs_before n (take next es) ≡ take next es = all-before (take next es) n (λ k h.
    let low : k < next = omega (arith, h, length-take next es) in
    let before = is.before k low in
    let same = count_at-take es next k low in
    omega arith) in
    let rest : inputs_before n (drop next es) ≡ [] = none-before (drop next es) n (λ k h.
    let inside : next + k < length es = omega (arith, h, length-drop next es) in
    let later = is.rest (next + k) (omega arith) inside in
    let same = count_at-drop es next k in
    omega arith) in
    sym (ap (filter early) (sym (take-append-drop next es))
    ∙ filter-append early (take next es) (drop next es)
    ∙ ap (λ (l : List Event). inputs_before n (take next es) ++ l) rest
    ∙ append-nil (inputs_before n (take next es))
    ∙ first)

-- those before an earlier count are the first of them
first-before : (e : Event) (es : List Event) (a n : ℕ) → a ≤ n
    → inputs_before a es ++ drop (length (inputs_before a es)) (inputs_before n es) ≡ inputs_before n es
    → ((k : ℕ) → k < length (e ∷ es) → e.count ≤ count_at (e ∷ es) k) → (early : Bool) → nat_lt e.count a ≡ early
    → inputs_before a (e ∷ es) ++ drop (length (inputs_before a (e ∷ es))) (inputs_before n (e ∷ es)) ≡ inputs_before n (e ∷ es)
first-before e es a n low others up true is =
    let below = ltb-true e.count a is in
    rw (is, lt-ltb e.count n (omega arith)) (ap (λ (l : List Event). e ∷ l) others)
first-before e es a n low others up false is =
    let late = ltb-false e.count a is in
    let none = none-before (e ∷ es) a (λ k h. let least = up k h in omega arith) in
    ap (λ (l : List Event). l ++ drop (length l) (inputs_before n (e ∷ es))) none

joined-rising : (es : List Event) (a n : ℕ) → a ≤ n → ((j k : ℕ) → j ≤ k → k < length es → count_at es j ≤ count_at es k)
    → inputs_before a es ++ drop (length (inputs_before a es)) (inputs_before n es) ≡ inputs_before n es
joined-rising [] a n low up = refl
joined-rising (e ∷ es) a n low up =
    first-before e es a n low (joined-rising es a n low (λ j k h inside. up (suc j) (suc k) (omega arith) (omega arith)))
    (λ k inside. up 0 k (omega arith) inside) (nat_lt e.count a) refl

pub joined-before : (es : List Event) (a n : ℕ) → a ≤ n → AreOrdered es
    → inputs_before a es ++ drop (length (inputs_before a es)) (inputs_before n es) ≡ inputs_before n es
joined-before es a n low ordered = joined-rising es a n low (counts-order es ordered)

-- ---- more inputs

more-fed : (es more : List Event) (n m : ℕ) (d : DeviceState) → All (λ (e : Event). n ≤ e.count) more → m < n → fed (es ++ more) m d ≡ fed es m d
more-fed es more n m d late low =
    fed-append es more m d
    ∙ fed-others more m (fed es m d) (λ i lt.
    let after = each-count (λ (c : ℕ). n ≤ c) more i lt late in
    let other : count_at more i ≢ m = omega arith in
    other)

pub more-run : (es more : List Event) (n from k : ℕ) (s : State) → All (λ (e : Event). n ≤ e.count) more → from + k ≤ n → run_of (es ++ more) from k s ≡ run_of es from k s
more-run es more n from k s late low = agree-run (es ++ more) es from k s (λ j d h. more-fed es more n (from + j) d late (omega arith))

pub more-states : (run : Run) (more : List Event) (n : ℕ) → run.start ≤ n → All (λ (e : Event). n ≤ e.count) more
    → AreSameUpTo n run (record run { inputs = run.inputs ++ more })
more-states run more n begun late = λ m low. more-run run.inputs more n run.start (m - run.start) run.first late (omega arith)
