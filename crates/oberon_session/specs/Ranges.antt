-- The ranges and the order of a session's numbers, as tests. All limits are this project's own choice, except the end of program
-- counters.
use Rattle.std.specs.Prelude.{ℕ, ◌^◌, ◌&&◌, ◌==◌, nat_le, nat_lt, Bool, true, List, [], ◌∷◌, length, map, if◌then◌else◌}
use Rattle.std.specs.List.{list_all}
use Rattle.risc_core.specs.declared.branch.TheConstants.{COUNTER_END}
use Rattle.risc_devices.specs.DeviceState.{is_phase}
use Rattle.risc_devices.specs.InputKind.{is_input_with_disk}
use Rattle.oberon_session.specs.Draft.{Draft, InputNumbers, PageText, Start}
use Rattle.risc_model.specs.declared.inputs.TheConstants.{MAX_COUNT}
use Rattle.recording_limits.specs.declared.limits.TheConstants.{LAST_CHECKPOINT, MAX_EVENTS, MAX_EVENTS_WITH_DISK}

-- ---- ranges

-- a timer's rate and phase: two words, of which the phase is below the rate, or 0 if the rate is 0
abbrev pub timer_fits : ℕ → ℕ → Bool
timer_fits rate phase = nat_lt rate (2 ^ 32) && nat_lt phase (2 ^ 32) && is_phase rate phase

-- words, a program counter, four flags, the timer's rate and phase, and an answer of the disk
abbrev pub start_fits : Start → Bool
start_fits start =
    list_all (λ register. nat_lt register (2 ^ 32)) start.registers
    && nat_lt start.h (2 ^ 32)
    && nat_lt start.pc COUNTER_END
    && nat_lt start.flags 16
    && timer_fits start.rate start.phase
    && nat_lt start.disk (2 ^ 32)

-- one of the 1,024 page slots, and digits of at most 1,024 bytes
abbrev pub page_fits : PageText → Bool
page_fits page = nat_lt page.at 1024 && nat_le (length page.hex) 2048

-- a count that a recording may have, and a value that the kind takes
abbrev pub input_fits : InputNumbers → Bool
input_fits input = nat_le input.count MAX_COUNT && is_input_with_disk input.kind input.value

-- the most inputs of a session: as many as a file has that has a disk, or none
abbrev pub max_inputs : ℕ → ℕ
max_inputs version = if version == 3 then MAX_EVENTS_WITH_DISK else MAX_EVENTS

-- a count that a recording may have after checkpoint 0
abbrev pub count_fits : ℕ → Bool
count_fits count = nat_le 1 count && nat_le count MAX_COUNT

-- each number is in its range, and no list is too long
unfoldable pub in_range : Draft → Bool
in_range draft =
    start_fits draft.start
    && (nat_le (length draft.pages) 1024 && list_all page_fits draft.pages)
    && (nat_le (length draft.inputs) (max_inputs draft.version) && list_all input_fits draft.inputs)
    && (nat_le (length draft.checkpoints) LAST_CHECKPOINT && list_all count_fits draft.checkpoints)

-- ---- order

-- the test holds of each number and the next one
abbrev pub of_neighbours : (ℕ → ℕ → Bool) → List ℕ → Bool
of_neighbours test [] = true
of_neighbours test (x ∷ []) = true
of_neighbours test (x ∷ y ∷ ys) = test x y && of_neighbours test (y ∷ ys)

abbrev pub rises : List ℕ → Bool
rises = of_neighbours nat_lt

abbrev pub never_falls : List ℕ → Bool
never_falls = of_neighbours nat_le

abbrev pub slots_of : List PageText → List ℕ
slots_of pages = map (λ page. page.at) pages

abbrev pub input_counts : List InputNumbers → List ℕ
input_counts inputs = map (λ input. input.count) inputs

-- the slots of pages rise, the counts of inputs never fall, and the counts of checkpoints rise
unfoldable pub in_order : Draft → Bool
in_order draft = rises (slots_of draft.pages) && never_falls (input_counts draft.inputs) && rises draft.checkpoints
