-- What the step of a count does, as a trace tells it: the word of its instruction, what this accesses, the byte that it sends, and the
-- inputs that the machine takes before it. The processor and the devices before the step are those of its state.
use Rattle.std.specs.Prelude.{ℕ, ◌≡◌, ◌≤◌, ◌+◌, ◌-◌, ◌*◌, ◌/◌, ◌%◌, ◌^◌, ◌==◌, ◌&&◌, nat_lt, List, [], Option, None, Some, drop, take}
use Rattle.std.specs.Prelude.{length, slice_index, if◌then◌else◌}
use Rattle.std.specs.List.{filter}
use Rattle.risc_core.specs.Word.{field}
use Rattle.risc_devices.specs.DeviceWords.{read_value}
use Rattle.risc_model.specs.declared.event.Event.{Event}
use Rattle.risc_model.specs.Exec.{exec}
use Rattle.risc_model.specs.InputOrder.{IsNextAt}
use Rattle.risc_model.specs.MachineState.{CpuState, State}
use Rattle.risc_model.specs.Replay.{feed}
use Rattle.risc_search.specs.declared.access.Access.{Access}
use Rattle.risc_search.specs.declared.effect.Accessed.{Accessed}
use Rattle.risc_search.specs.declared.effect.Effect.{Effect}
use Rattle.risc_search.specs.Access.{next_access}

-- the word of the next instruction; a stopped machine does none, and beyond RAM none is fetched
unfoldable pub next_word : CpuState → List ℕ → Option ℕ
next_word cpu words = if cpu.stop == 0 && nat_lt cpu.pc (2 ^ 18) then Some (slice_index words cpu.pc) else None

-- the word that has the byte with an address of RAM or of a device: a device word is what a load of it reads
unfoldable pub word_with : State → ℕ → ℕ
word_with s address =
    if nat_lt address (2 ^ 20)
    then slice_index s.words (address / 4)
    else read_value s.devices ((address - (2 ^ 24 - 64)) / 4)

-- the value of the bytes of an access, as a load of them gives it
abbrev pub loaded : State → Access → ℕ
loaded s access = word_with s access.first / 2 ^ (8 * (access.first % 4)) % 2 ^ (8 * access.count)

-- the value that a store has for the bytes of an access: so much of the register that its word names
abbrev pub stored : State → Access → ℕ
stored s access = slice_index s.cpu.r (field (slice_index s.words s.cpu.pc) 24 4) % 2 ^ (8 * access.count)

-- an access with the value of its bytes before the instruction and after it. A load leaves them; a store to a device passes it the value
abbrev pub accessed_in : State → Access → Accessed
accessed_in s access = record {
  access = access;
  old = loaded s access;
  new = if access.stores then stored s access else loaded s access;
}

-- so for what may be none
abbrev pub accessed_by : State → Option Access → Option Accessed
accessed_by s None = None
accessed_by s (Some access) = Some (accessed_in s access)

-- the inputs that a machine takes at a count; a stopped one takes none
abbrev pub taken_at : List Event → ℕ → State → List Event
taken_at es n s = if s.cpu.stop == 0 then filter (λ e. e.count == n) es else []

-- what the step of a count from a state does. A device word is read after the inputs of the count are taken, since the instruction comes
-- after them. An instruction whose address is nowhere stops the machine and accesses nothing. The inputs that are taken are a part of
-- the list, which begins at the first one of this count or of a later one
pub record IsEffect (effect : Effect) (es : List Event) (n : ℕ) (s : State) : Type 0 where
  pub word_is : effect.word ≡ next_word s.cpu s.words
  pub accessed_is : effect.accessed ≡ accessed_by (feed es n s) (next_access s.cpu s.words)
  pub sent_is : effect.sent ≡ (exec (feed es n s)).1
  pub inputs_begin : IsNextAt es effect.inputs_from n
  pub inputs_are : take effect.inputs_count (drop effect.inputs_from es) ≡ taken_at es n s
  pub inputs_within : effect.inputs_from + effect.inputs_count ≤ length es
