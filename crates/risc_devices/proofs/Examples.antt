-- Worked examples of the definitions, computed.
use Rattle.std.proofs.Common.{◌≡◌, ℕ, true, false, [], ◌∷◌, Some, None, refl}
use Rattle.risc_devices.specs.DeviceState.{DeviceState, zero_devices as idle, is_phase}
use Rattle.risc_devices.specs.DeviceWords.{read_value, after_read, after_write, sent_byte}
use Rattle.risc_devices.specs.Input.{taken_value, is_input, is_input_with_disk, is_mouse}
use Rattle.risc_devices.specs.Ticks.{ticked, ticked_times}
use Rattle.risc_devices.specs.KeyCodes.{joined}
use Rattle.risc_devices.specs.Picture.{picture_head, dot}
use Rattle.risc_devices.specs.declared.kind.Kind.TheVariants.{Key, Serial, Disk}

-- the mouse word's mask, and each bit that is not in it
mask : is_mouse 0x073FF3FF ≡ true
unfolding is_mouse
mask = refl

bits_10_and_11 : ((is_mouse 0x00000400) ∷ (is_mouse 0x00000800) ∷ []) ≡ (false ∷ false ∷ [])
unfolding is_mouse
bits_10_and_11 = refl

bits_22_and_23 : ((is_mouse 0x00400000) ∷ (is_mouse 0x00800000) ∷ []) ≡ (false ∷ false ∷ [])
unfolding is_mouse
bits_22_and_23 = refl

bits_27_and_31 : ((is_mouse 0x08000000) ∷ (is_mouse 0x80000000) ∷ []) ≡ (false ∷ false ∷ [])
unfolding is_mouse
bits_27_and_31 = refl

-- parts that no input changes
no_inputs : ((is_input 6 0) ∷ (is_input 0 0) ∷ (is_input 2 4096) ∷ (is_input 4 256) ∷ (is_input 5 256) ∷ []) ≡ (false ∷ false ∷ false ∷ false ∷ false ∷ [])
unfolding is_input
no_inputs = refl

-- an answer is any word, and an input with a disk alone; the disk has no input that is not one
disk_inputs : ((is_input 6 0) ∷ (is_input_with_disk 6 0) ∷ (is_input_with_disk 6 0xFFFFFFFF) ∷ (is_input_with_disk 6 0x100000000) ∷ (is_input_with_disk 7 0) ∷ (is_input_with_disk 5 255) ∷ []) ≡ (false ∷ true ∷ true ∷ false ∷ false ∷ true ∷ [])
unfolding is_input is_input_with_disk
disk_inputs = refl

-- a key waits, is shown beside the mouse, is read and is gone
key_shown : read_value (taken_value Key 0x41 idle) 6 ≡ 0x10000000
unfolding read_value taken_value joined
key_shown = refl

key_read : read_value (taken_value Key 0x41 idle) 7 ≡ 0x41
unfolding read_value taken_value joined
key_read = refl

key_gone : after_read (taken_value Key 0x41 idle) 7 ≡ idle
unfolding after_read taken_value joined
key_gone = refl

no_key : ((read_value idle 6) ∷ (read_value idle 7) ∷ []) ≡ (0 ∷ 0 ∷ [])
unfolding read_value
no_key = refl

-- a byte comes on the serial line, and is read twice
byte_came : ((read_value (taken_value Serial 0x55 idle) 3) ∷ (read_value (taken_value Serial 0x55 idle) 2) ∷ []) ≡ (3 ∷ 0x55 ∷ [])
unfolding read_value taken_value
byte_came = refl

byte_read : ((read_value (after_read (taken_value Serial 0x55 idle) 2) 3) ∷ (read_value (after_read (taken_value Serial 0x55 idle) 2) 2) ∷ []) ≡ (2 ∷ 0x55 ∷ [])
unfolding read_value after_read taken_value
byte_read = refl

-- a byte is sent, and one lights the LEDs
byte_sent : sent_byte 2 0x141 ≡ Some 0x41
unfolding sent_byte
byte_sent = refl

nothing_sent : sent_byte 1 0x141 ≡ None
unfolding sent_byte
nothing_sent = refl

leds_lit : after_write idle 1 0x1A5 ≡ record idle { leds = 0xA5 }
unfolding after_write
leds_lit = refl

-- the disk has not answered; its answer is read again and again, also after a write to its words
no_answer : ((read_value idle 4) ∷ (read_value idle 5) ∷ []) ≡ (255 ∷ 1 ∷ [])
unfolding read_value
no_answer = refl

answered : read_value (after_write (after_write (after_read (taken_value Disk 0x12345678 idle) 4) 4 0x40) 5 5) 4 ≡ 0x12345678
unfolding read_value after_read after_write taken_value
answered = refl

-- the leftmost dot of the lowest line of a display of one word
corner : ((dot (1 ∷ []) 0 0) ∷ (dot (1 ∷ []) 1 0) ∷ []) ≡ (1 ∷ 0 ∷ [])
corner = refl

-- `P4`, a line feed, `1024 768`, a line feed
head : picture_head ≡ 80 ∷ 52 ∷ 10 ∷ 49 ∷ 48 ∷ 50 ∷ 52 ∷ 32 ∷ 55 ∷ 54 ∷ 56 ∷ 10 ∷ []
head = refl

-- devices with this timer, rate and phase
abbrev timer_of : ℕ → ℕ → ℕ → DeviceState
timer_of timer rate phase = record idle { timer = timer; rate = rate; phase = phase }

-- a timer of ten instructions a millisecond, after 25 of them; one of rate 1; one in its last phase; one of rate 0
counting : ticked_times 25 (timer_of 0 10 0) ≡ timer_of 2 10 5
unfolding ticked_times ticked
counting = refl

each_instruction : ticked_times 3 (timer_of 7 1 0) ≡ timer_of 10 1 0
unfolding ticked_times ticked
each_instruction = refl

last_phase : ticked (timer_of 0xFFFFFFFF 0xFFFFFFFF 0xFFFFFFFE) ≡ timer_of 0 0xFFFFFFFF 0
unfolding ticked
last_phase = refl

still : ticked (timer_of 7 0 0) ≡ timer_of 7 0 0
unfolding ticked
still = refl

-- the phases of a rate
phases : ((is_phase 0 0) ∷ (is_phase 0 1) ∷ (is_phase 1 0) ∷ (is_phase 1 1) ∷ (is_phase 10 9) ∷ (is_phase 10 10) ∷ []) ≡ (true ∷ false ∷ true ∷ false ∷ true ∷ false ∷ [])
unfolding is_phase
phases = refl
