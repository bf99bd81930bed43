-- Open calls that a caller gives, from the last one back.
use Rattle.std.proofs.Common.{◌≡◌, ℕ, zero, suc, ◌+◌, ◌-◌, ◌%◌, ◌^◌, ◌<◌, ◌≤◌, true, List, All, [], ◌∷◌, drop, inl, inr, sym, subst, arith}
use Rattle.std.proofs.lemmas.Bool.{cases_lt}
use Rattle.std.proofs.lemmas.List.Elements.{All-nil, All-cons, All-head, All-tail, All-drop}
use Rattle.risc_core.specs.declared.branch.TheConstants.{COUNTER_END}
use Rattle.risc_core.specs.Written.{links}
use Rattle.risc_model.specs.declared.call.Call.{Call}
use Rattle.risc_model.specs.declared.call.Turn.{Turn}
use Rattle.risc_model.specs.declared.event.Event.{Event}
use Rattle.risc_model.specs.MachineState.{State}
use Rattle.risc_model.specs.Calls.{next_is, call_from}
use Rattle.risc_model.specs.Turns.{IsFollowed, IsStack}
use Rattle.risc_model.proofs.TurnLemmas.{run-each}
use Rattle.oberon_past.proofs.CallsFollowed.{open-left}
use Rattle.galluspa.specs.Calls.{AreLeftOpen, IsPossible}
use Rattle.galluspa.specs.inner.Following.{IsAsDeep}

-- R14 of a call is at most k, if it is one of the stack
abbrev IsUpTo : ℕ → ℕ → Call → Type 0
IsUpTo limit k call = call.sp ≤ limit → call.sp ≤ k

-- these calls may be the last open ones: `least` is the least of their counts and that up to which the run is, and `highest` the
-- highest R14 of the stack among them
pub record IsSeen (limit count least highest : ℕ) (later : List Call) : Type 0 where
  pub are_open : AreLeftOpen limit count later
  pub below : (k : ℕ) → k < least → (k < count) × All (λ c. k < c.count) later
  pub least_is : (k : ℕ) → k < count → All (λ c. k < c.count) later → k < least
  pub above : (k : ℕ) → highest ≤ k → All (IsUpTo limit k) later
  pub highest_is : (k : ℕ) → All (IsUpTo limit k) later → highest ≤ k

pub seen-none : (limit count : ℕ) → IsSeen limit count count 0 []
seen-none limit count = record {
  are_open = record { are_open = record { stack = tt; earlier = All-nil (λ c. c.count < count) }; possible = All-nil IsPossible };
  below = λ k less. (less, All-nil (λ c. k < c.count));
  least_is = λ k less all. less;
  above = λ k high. All-nil (IsUpTo limit k);
  highest_is = λ k all. omega arith;
}

joined : (limit : ℕ) (call : Call) (later : List Call) → All (λ c. call.count < c.count) later → All (IsUpTo limit call.sp) later
    → All (λ c. (call.count < c.count) × (c.sp ≤ limit → c.sp ≤ call.sp)) later
joined limit call [] counts deep = All-nil (λ c. (call.count < c.count) × (c.sp ≤ limit → c.sp ≤ call.sp))
joined limit call (c ∷ later) counts deep =
    All-cons (λ c. (call.count < c.count) × (c.sp ≤ limit → c.sp ≤ call.sp)) c later
    (All-head (λ c. call.count < c.count) c later counts, All-head (IsUpTo limit call.sp) c later deep)
    (joined limit call later (All-tail (λ c. call.count < c.count) c later counts) (All-tail (IsUpTo limit call.sp) c later deep))

counts-of : (limit : ℕ) (call : Call) (later : List Call) → All (λ c. (call.count < c.count) × (c.sp ≤ limit → c.sp ≤ call.sp)) later → All (λ c. call.count < c.count) later
counts-of limit call [] both = All-nil (λ c. call.count < c.count)
counts-of limit call (c ∷ later) both =
    All-cons (λ c. call.count < c.count) c later (All-head (λ c. (call.count < c.count) × (c.sp ≤ limit → c.sp ≤ call.sp)) c later both).0
    (counts-of limit call later (All-tail (λ c. (call.count < c.count) × (c.sp ≤ limit → c.sp ≤ call.sp)) c later both))

depths-of : (limit : ℕ) (call : Call) (later : List Call) → All (λ c. (call.count < c.count) × (c.sp ≤ limit → c.sp ≤ call.sp)) later → All (IsUpTo limit call.sp) later
depths-of limit call [] both = All-nil (IsUpTo limit call.sp)
depths-of limit call (c ∷ later) both =
    All-cons (IsUpTo limit call.sp) c later (All-head (λ c. (call.count < c.count) × (c.sp ≤ limit → c.sp ≤ call.sp)) c later both).1
    (depths-of limit call later (All-tail (λ c. (call.count < c.count) × (c.sp ≤ limit → c.sp ≤ call.sp)) c later both))

-- the call before them
pub seen-next : (limit count least highest new : ℕ) (call : Call) (later : List Call) → (call.count < least) × (highest ≤ call.sp) × IsPossible call
    → IsAsDeep limit call.sp highest new → IsSeen limit count least highest later → IsSeen limit count call.count new (call ∷ later)
seen-next limit count least highest new call later before deep seen =
    let all = seen.below call.count before.0 in
    let low = seen.above call.sp before.1 in
    record {
      are_open = record {
        are_open = record {
          stack = (joined limit call later all.1 low, seen.are_open.are_open.stack);
          earlier = All-cons (λ c. c.count < count) call later all.0 seen.are_open.are_open.earlier;
        };
        possible = All-cons IsPossible call later before.2 seen.are_open.possible;
      };
      below = λ k less.
          let rest = seen.below k (omega (arith, before.0)) in
          (rest.0, All-cons (λ c. k < c.count) call later less rest.1);
      least_is = λ k less counts. All-head (λ c. k < c.count) call later counts;
      above = λ k high. elim (cases_lt limit call.sp) [
        | inl beyond ↦
            let same = deep.1 beyond in
            All-cons (IsUpTo limit k) call later (λ h. absurd (omega (arith, h, beyond))) (seen.above k (omega (arith, same)))
        | inr within ↦
            let same = deep.0 within in
            All-cons (IsUpTo limit k) call later (λ h. omega (arith, same)) (seen.above k (omega (arith, same, before.1)))
      ];
      highest_is = λ k counts. elim (cases_lt limit call.sp) [
        | inl beyond ↦
            let same = deep.1 beyond in
            let rest = seen.highest_is k (All-tail (IsUpTo limit k) call later counts) in
            omega (arith, same, rest)
        | inr within ↦
            let same = deep.0 within in
            let here = All-head (IsUpTo limit k) call later counts within in
            omega (arith, same, here)
      ];
    }

-- a call that is open with them comes before them so
pub open-before : (limit count least highest : ℕ) (call : Call) (later : List Call) → AreLeftOpen limit count (call ∷ later) → IsSeen limit count least highest later
    → (call.count < least) × (highest ≤ call.sp) × IsPossible call
open-before limit count least highest call later are seen = (
  seen.least_is call.count (All-head (λ c. c.count < count) call later are.are_open.earlier) (counts-of limit call later are.are_open.stack.0),
  seen.highest_is call.sp (depths-of limit call later are.are_open.stack.0),
  All-head IsPossible call later are.possible,
)

stack-drop : (limit n : ℕ) (calls : List Call) → IsStack limit calls → IsStack limit (drop n calls)
stack-drop limit zero calls is = is
stack-drop limit (suc n) [] is = tt
stack-drop limit (suc n) (call ∷ later) is = stack-drop limit n later is.1

pub open-drop : (limit count n : ℕ) (calls : List Call) → AreLeftOpen limit count calls → AreLeftOpen limit count (drop n calls)
open-drop limit count n calls are = record {
  are_open = record {
    stack = stack-drop limit n calls are.are_open.stack;
    earlier = All-drop (λ c. c.count < count) n calls are.are_open.earlier;
  };
  possible = All-drop IsPossible n calls are.possible;
}

-- ---- what a run leaves

made-possible : (n : ℕ) (t : State) → next_is links t ≡ true → IsPossible (call_from n t)
made-possible n t linking =
    let inside : t.cpu.pc < 2 ^ 18 = search arith in
    (inside, let e : (t.cpu.pc + 1) % COUNTER_END ≡ t.cpu.pc + 1 = omega (arith, inside) in e)

-- the calls that a run leaves open can be given to the next one
pub left-open : (limit : ℕ) (es : List Event) (from to : ℕ) (s : State) (calls left : List Call) (room height : ℕ) (turns : List Turn) (next : ℕ)
    → IsFollowed limit es from to s calls room height turns left next → AreLeftOpen limit from calls → AreLeftOpen limit next left
left-open limit es from to s calls left room height turns next followed are = record {
  are_open = open-left limit es from to s calls left room height turns next followed are.are_open;
  possible = subst (All IsPossible) (sym followed.calls_are) (run-each IsPossible made-possible limit es from (next - from) s calls are.possible);
}
