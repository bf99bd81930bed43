-- Calls, and which are open at a count (this project's own choice: the architecture has no procedures). By the convention of Project
-- Oberon a branch with link calls, R15 is the return address, and R14 the stack pointer, which falls as the stack grows.
use Rattle.std.specs.Prelude.{ℕ, zero, suc, ◌+◌, ◌^◌, ◌%◌, ◌==◌, ◌&&◌, ◌||◌, nat_lt, nat_le, Bool, not, List, ◌++◌}
use Rattle.std.specs.Prelude.{slice_index, Option, None, Some, if◌then◌else◌}
use Rattle.std.specs.List.{take_while, list_any}
use Rattle.std.specs.Option.{option_to_list}
use Rattle.risc_core.specs.declared.branch.TheConstants.{COUNTER_END}
use Rattle.risc_core.specs.declared.flags.Flags.{Flags}
use Rattle.risc_core.specs.declared.instruction.Instr.{Instr}
use Rattle.risc_core.specs.Instruction.{instruction_of}
use Rattle.risc_core.specs.Written.{branches, links}
use Rattle.risc_model.specs.declared.call.Call.{Call}
use Rattle.risc_model.specs.declared.event.Event.{Event}
use Rattle.risc_model.specs.Exec.{exec}
use Rattle.risc_model.specs.MachineState.{CpuState, State}
use Rattle.risc_model.specs.Replay.{begun_at}
use Rattle.risc_model.specs.Visits.{jumps}

-- R14
abbrev pub stack_pointer : CpuState → ℕ
stack_pointer c = slice_index c.r 14

-- the next instruction is as a test says, by its flags; a stopped machine does none, and beyond RAM none is fetched
abbrev pub next_is : (Instr → Flags → Bool) → State → Bool
next_is test s =
    s.cpu.stop == 0 && nat_lt s.cpu.pc (2 ^ 18) && test (instruction_of (slice_index s.words s.cpu.pc)) s.cpu.flags

-- the call that a branch with link is at a count
abbrev pub call_from : ℕ → State → Call
call_from n s =
    record { count = n; at = s.cpu.pc; to = (exec s).0.cpu.pc; back = (s.cpu.pc + 1) % COUNTER_END; sp = stack_pointer s.cpu }

-- the next branch returns from a call: it goes to the call's return word, and R14 is what it was at the call
abbrev pub returns_from : State → Call → Bool
returns_from s call = stack_pointer s.cpu == call.sp && (exec s).0.cpu.pc == call.back

-- the next branch makes a call again: it is the same branch, and R14 is the same, so the machine left the call without a return
abbrev pub makes_again : State → Call → Bool
makes_again s call = stack_pointer s.cpu == call.sp && s.cpu.pc == call.at && next_is links s

-- the next branch finds R14 above what it was at a call: the memory of the caller is given up, as a trap does. A stack pointer above a
-- limit, which is the highest one of the stack, belongs to another stack: a switch to that gives up nothing
abbrev pub gives_up : ℕ → State → Call → Bool
gives_up limit s call = nat_lt call.sp (stack_pointer s.cpu) && nat_le (stack_pointer s.cpu) limit

-- the next branch, which is taken, ends a call
abbrev pub ends : ℕ → State → Call → Bool
ends limit s call = gives_up limit s call || returns_from s call || makes_again s call

-- those of the open calls, oldest first, that are open after the next instruction. With a call, all end that were made after it. A branch
-- to the next word ends none
unfoldable pub staying : ℕ → State → List Call → List Call
staying limit s stack = if next_is branches s && jumps s then take_while (λ call. not (ends limit s call)) stack else stack

-- the call that the next instruction makes, if any. A branch with link that returns from an open call makes none; nor does one to
-- the next word, which reads the program counter
unfoldable pub made : ℕ → State → List Call → Option Call
made n s stack =
    if next_is links s && not (returns_from s (call_from n s)) && not (list_any (returns_from s) stack)
    then Some (call_from n s)
    else None

-- the calls that are open after the instruction of a count, from those that are open before it
abbrev pub opened : ℕ → ℕ → State → List Call → List Call
opened limit n s stack = staying limit s stack ++ option_to_list (made n s stack)

-- the calls that are open after n steps from a count on, oldest first: the stack. Some are open at the first count
unfoldable pub open_after : ℕ → List Event → ℕ → ℕ → State → List Call → List Call
open_after limit es from zero s stack = stack
open_after limit es from (suc n) s stack =
    opened limit (from + n) (begun_at es from (from + n) s) (open_after limit es from n s stack)
