-- How long a run is in procedures, those that they call among them, and how often one calls another (this project's own choice). Words
-- have groups, such as those of one procedure: `group` gives the number of a word's group.
use Rattle.std.specs.Prelude.{ℕ, zero, suc, ◌+◌, ◌==◌, ◌&&◌, Bool, List, Option, None, Some}
use Rattle.std.specs.List.{list_any}
use Rattle.risc_model.specs.declared.call.Call.{Call}
use Rattle.risc_model.specs.declared.event.Event.{Event}
use Rattle.risc_model.specs.MachineState.{State}
use Rattle.risc_model.specs.Replay.{begun_at}
use Rattle.risc_model.specs.Visits.{one_if}
use Rattle.risc_model.specs.Calls.{made, open_after}

-- the sum of f over n steps from a count on: of the count, the state before its instruction, after the machine took the inputs of the
-- count, and the calls that are open then
unfoldable pub sum_with_calls : (ℕ → State → List Call → ℕ) → ℕ → List Event → ℕ → ℕ → State → List Call → ℕ
sum_with_calls f limit es from zero s stack = 0
sum_with_calls f limit es from (suc n) s stack =
    sum_with_calls f limit es from n s stack
    + f (from + n) (begun_at es from (from + n) s) (open_after limit es from n s stack)

-- a call into a group, and one out of a group into another
abbrev pub goes_into : (ℕ → ℕ) → ℕ → Call → Bool
goes_into group g call = group call.to == g

abbrev pub goes_between : (ℕ → ℕ) → ℕ → ℕ → Call → Bool
goes_between group g h call = group call.at == g && group call.to == h

-- instructions done while a call into the group g is open: the call's own is not among them, and the return's is. An instruction counts
-- once, however many such calls are open
abbrev pub inclusive : (ℕ → ℕ) → ℕ → ℕ → List Event → ℕ → ℕ → State → List Call → ℕ
inclusive group g limit es from n s stack =
    sum_with_calls (λ m t calls. one_if (t.cpu.stop == 0 && list_any (goes_into group g) calls)) limit es from n s stack

-- the same of calls out of the group g into the group h
abbrev pub inclusive_between : (ℕ → ℕ) → ℕ → ℕ → ℕ → List Event → ℕ → ℕ → State → List Call → ℕ
inclusive_between group g h limit es from n s stack =
    sum_with_calls (λ m t calls. one_if (t.cpu.stop == 0 && list_any (goes_between group g h) calls)) limit es from n s stack

-- 1 if a call is made that is as a test says
abbrev pub one_if_made : (Call → Bool) → Option Call → ℕ
one_if_made test None = 0
one_if_made test (Some call) = one_if (test call)

-- calls out of the group g into the group h
abbrev pub calls_between : (ℕ → ℕ) → ℕ → ℕ → ℕ → List Event → ℕ → ℕ → State → List Call → ℕ
calls_between group g h limit es from n s stack =
    sum_with_calls (λ m t calls. one_if_made (goes_between group g h) (made m t calls)) limit es from n s stack
