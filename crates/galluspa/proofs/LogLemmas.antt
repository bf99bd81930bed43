-- The calls of a range of a past: there is room for those that a run leaves, and another run can be followed from them.
use Rattle.std.proofs.Common.{◌≡◌, ◌+◌, ◌-◌, ◌<◌, ◌≤◌, ℕ, zero, suc, Bool, true, false, not, ◌&&◌, cond, List, ◌++◌, length, length-append, Option, None, Some, ap, arith, subst}
use Rattle.std.specs.List.{take_while}
use Rattle.std.specs.Option.{option_to_list}
use Rattle.std.proofs.lemmas.List.Folds.{length-prefix_len}
use Rattle.std.proofs.lemmas.List.Sums.{prefix_len-le-length}
use Rattle.risc_core.specs.Written.{branches}
use Rattle.risc_machine.specs.declared.call_log.CallLog.{CallLog}
use Rattle.risc_model.specs.declared.call.Call.{Call}
use Rattle.risc_model.specs.declared.call.Turn.{Turn}
use Rattle.risc_model.specs.declared.event.Event.{Event}
use Rattle.risc_model.specs.Calls.{ends, made, next_is, open_after, opened, staying}
use Rattle.risc_model.specs.MachineState.{State}
use Rattle.risc_model.specs.Replay.{begun_at}
use Rattle.risc_model.specs.Turns.{turns}
use Rattle.risc_model.specs.Visits.{jumps}
use Rattle.risc_model.proofs.CallLemmas.{open-none, open-suc, turn_at, turns-none, turns-suc}
use Rattle.oberon_past.specs.Calls.{IsCalled}
use Rattle.oberon_past.specs.declared.called.Called.{Called}
use Rattle.oberon_past.specs.declared.called.Called.TheVariants as called
use Rattle.oberon_past.specs.declared.called.Calls.{Calls}
use Rattle.oberon_past.specs.Run.{Run, state_at}
use Rattle.galluspa.specs.Calls.{AreLeftOpen}
use Rattle.galluspa.specs.inner.Following.{AreCallsFrom, AreHeld, AreLeft, IsCalledFrom}
use Rattle.galluspa.proofs.OpenLemmas.{left-open}

-- ---- a step makes at most one call, and one turn

one-most : {X : Type 0} (o : Option X) → length (option_to_list o) ≤ 1
one-most None = omega arith
one-most (Some x) = omega arith

staying-most : (b : Bool) (p : Call → Bool) (stack : List Call) → length (cond b (take_while p stack) stack) ≤ length stack
staying-most true p stack =
    let same = length-prefix_len p stack in
    let most = prefix_len-le-length p stack in
    omega arith
staying-most false p stack = omega arith

opened-most : (limit n : ℕ) (t : State) (stack : List Call) → length (opened limit n t stack) ≤ length stack + 1
unfolding staying
opened-most limit n t stack =
    let stay = staying-most (next_is branches t && jumps t) (λ call. not (ends limit t call)) stack in
    let one = one-most (made n t stack) in
    let sum = length-append (staying limit t stack) (option_to_list (made n t stack)) in
    omega arith

-- a run that has room before each step
fits : (limit : ℕ) (es : List Event) (from n : ℕ) (s : State) (calls : List Call) (room height : ℕ) → length calls ≤ height
    → ((k : ℕ) → k < n → length (turns limit es from k s calls) < room) → ((k : ℕ) → k < n → length (open_after limit es from k s calls) < height)
    → (length (turns limit es from n s calls) ≤ room) × (length (open_after limit es from n s calls) ≤ height)
fits limit es from zero s calls room height fit room_before height_before = (
  let none = ap (λ (l : List Turn). length l) (turns-none limit es from s calls) in omega arith,
  let same = ap (λ (l : List Call). length l) (open-none limit es from s calls) in omega arith,
)
fits limit es from (suc n) s calls room height fit room_before height_before =
    let t : State = begun_at es from (from + n) s in
    let now : List Call = open_after limit es from n s calls in
    let turn = turn_at limit (from + n) t now in (
      let before = room_before n (omega arith) in
          let same = ap (λ (l : List Turn). length l) (turns-suc limit es from n s calls) in
          let sum = length-append (turns limit es from n s calls) (option_to_list turn) in
          let one = one-most turn in
          omega arith,
      let before = height_before n (omega arith) in
          let same = ap (λ (l : List Call). length l) (open-suc limit es from n s calls) in
          let most = opened-most limit (from + n) t now in
          omega arith,
    )

-- ---- what is left

left-of : (run : Run) (limit from to : ℕ) (calls : List Call) (room height : ℕ) (left : Calls) → AreLeftOpen limit from calls → length calls ≤ height
    → AreCallsFrom run limit from to calls room height left → AreLeft limit room height left
left-of run limit from to calls room height left are fit is =
    let s : State = state_at run from in
    let within = fits limit run.inputs from (left.next - from) s calls room height fit is.room_before is.height_before in
    let turns_long = ap (λ (l : List Turn). length l) is.turns_are in
    let calls_long = ap (λ (l : List Call). length l) is.calls_are in
    record {
      are_open = left-open limit run.inputs from to s calls left.log.calls.items room height left.log.turns.items left.next is are;
      calls = omega (arith, within.1, calls_long);
      turns = omega (arith, within.0, turns_long);
    }

pub called-held : (run : Run) (end limit from to : ℕ) (calls : List Call) (room height : ℕ) (answer : Called) → AreLeftOpen limit from calls → length calls ≤ height
    → IsCalledFrom run end limit from to calls room height answer → AreHeld limit room height answer
called-held run end limit from to calls room height (called.Done left) are fit is = left-of run limit from to calls room height left are fit is.1
called-held run end limit from to calls room height (called.More left) are fit is = left-of run limit from left.next calls room height left are fit is.1
called-held run end limit from to calls room height (called.OutOfRange fault) are fit is = tt

-- ---- the answer for a log is that for its parts

of-log : (run : Run) (end from to : ℕ) (log : CallLog) (answer : Called) → IsCalled run end from to log answer
    → IsCalledFrom run end log.limit from to log.calls.items log.room log.height answer
of-log run end from to log (called.Done left) is = (is.0, is.1.followed)
of-log run end from to log (called.More left) is = (is.0, is.1.followed, is.2, is.4, is.3)
of-log run end from to log (called.OutOfRange fault) is = is

pub called-from : (run : Run) (end limit from to : ℕ) (calls : List Call) (room height : ℕ) (log : CallLog) (answer : Called) → log.limit ≡ limit
    → log.calls.items ≡ calls → log.room ≡ room → log.height ≡ height → IsCalled run end from to log answer
    → IsCalledFrom run end limit from to calls room height answer
called-from run end limit from to calls room height log answer limits present rooms heights is =
    subst (λ (n : ℕ). IsCalledFrom run end n from to calls room height answer) limits
    (subst (λ (l : List Call). IsCalledFrom run end log.limit from to l room height answer) present
    (subst (λ (n : ℕ). IsCalledFrom run end log.limit from to log.calls.items n height answer) rooms
    (subst (λ (n : ℕ). IsCalledFrom run end log.limit from to log.calls.items log.room n answer) heights
    (of-log run end from to log answer is))))
