-- Calls of parts of a range.
use Rattle.std.proofs.Common.{◌≡◌, ◌∙◌, ◌⊎◌, ◌+◌, ◌-◌, ◌<◌, ◌≤◌, ℕ, List, [], ap, arith, length, subst, sym}
use Rattle.std.specs.List.{All}
use Rattle.risc_machine.specs.declared.call_log.CallLog.{CallLog}
use Rattle.risc_model.specs.declared.call.Call.{Call}
use Rattle.risc_model.specs.declared.call.Turn.{Turn}
use Rattle.risc_model.specs.declared.event.Event.{Event}
use Rattle.risc_model.specs.Calls.{open_after}
use Rattle.risc_model.specs.MachineState.{State}
use Rattle.risc_model.specs.Turns.{IsFollowed, turns}
use Rattle.risc_model.proofs.CallLemmas.{open-none, turns-none}
use Rattle.risc_model.proofs.TurnLemmas.{run-before, stack-run}
use Rattle.oberon_past.specs.Calls.{AreCalls, AreOpen}
use Rattle.oberon_past.specs.Run.{Run, state_at}

-- the calls that a run leaves open can be given to the next one
pub open-left : (limit : ℕ) (es : List Event) (from to : ℕ) (s : State) (calls left : List Call) (room height : ℕ) (followed : List Turn) (next : ℕ)
    → IsFollowed limit es from to s calls room height followed left next → AreOpen limit from calls → AreOpen limit next left
open-left limit es from to s calls left room height followed next is are =
    let n : ℕ = next - from in
    let whole : from + n ≡ next = omega (arith, is.inside.0) in
    let P : List Call → Type 0 = λ l. AreOpen limit next l in
    subst P (sym is.calls_are) (record {
      stack = stack-run limit es from n s calls are.stack are.earlier;
      earlier = subst (λ (k : ℕ). All (λ (c : Call). c.count < k) (open_after limit es from n s calls)) whole (run-before limit es from n s calls are.earlier);
    })

module _ (run : Run) (from : ℕ) (log : CallLog) (are : AreOpen log.limit from log.calls.items) where
  -- ---- no step
  pub calls-none : (to : ℕ) → from ≡ to → log.turns.items ≡ [] → AreCalls run from to log (record { log = log; next = to })
  calls-none to same fresh =
      let n : ℕ = to - from in
      let none : n ≡ 0 = omega (arith, same) in
      let s : State = state_at run from in
      record {
        followed = record {
          turns_are = fresh ∙ sym (ap (λ (k : ℕ). turns log.limit run.inputs from k s log.calls.items) none ∙ turns-none log.limit run.inputs from s log.calls.items);
          calls_are = sym (ap (λ (k : ℕ). open_after log.limit run.inputs from k s log.calls.items) none ∙ open-none log.limit run.inputs from s log.calls.items);
          inside = (omega (arith, same), omega arith);
          room_before = λ k less. absurd (omega (arith, less, none));
          height_before = λ k less. absurd (omega (arith, less, none));
          ends = λ less. absurd (omega (arith, less));
        };
        are_open = subst (λ (k : ℕ). AreOpen log.limit k log.calls.items) same are;
      }

  -- ---- a part of the range that is followed
  module _ (end : ℕ) (left : CallLog) (next : ℕ) (s : State) (es : List Event) (s_is : s ≡ state_at run from) (es_is : es ≡ run.inputs)
      (followed : IsFollowed log.limit es from end s log.calls.items log.room log.height left.turns.items left.calls.items next) where
    here : IsFollowed log.limit run.inputs from end (state_at run from) log.calls.items log.room log.height left.turns.items left.calls.items next
    here =
        subst
        (λ (l : List Event). IsFollowed log.limit l from end (state_at run from) log.calls.items log.room log.height left.turns.items left.calls.items next) es_is
        (subst (λ (t : State). IsFollowed log.limit es from end t log.calls.items log.room log.height left.turns.items left.calls.items next) s_is followed)

    -- up to another end, if the log is full before it
    pub calls-up_to : (to : ℕ) → next ≤ to → (next < to → (length left.turns.items ≡ log.room) ⊎ (length left.calls.items ≡ log.height))
        → AreCalls run from to log (record { log = left; next = next })
    calls-up_to to inside full = record {
      followed = record {
        turns_are = here.turns_are;
        calls_are = here.calls_are;
        inside = (here.inside.0, inside);
        room_before = here.room_before;
        height_before = here.height_before;
        ends = full;
      };
      are_open = open-left log.limit run.inputs from end (state_at run from) log.calls.items left.calls.items log.room log.height left.turns.items next here are;
    }
