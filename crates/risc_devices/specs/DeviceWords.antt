-- What the sixteen device words read, and what reads and writes of them do ("Project Oberon" 2013, the hardware chapters, for
-- words 0 to 3, 6 and 7). This project's own choice are: that word 4 reads what an input set, and the constant of word 5; the zeros
-- of words 8 to 15, and of word 7 if no key code waits; that the serial line is always ready to send, and that the byte received
-- stays readable; and that writes to words other than 1 and 2 do nothing. So what a program writes to the SPI bus is seen outside
-- the machine alone, where a disk answers it by inputs.
use Rattle.std.specs.Prelude.{ℕ, ◌+◌, ◌%◌, ◌^◌, false, ◌==◌, if◌then◌else◌, drop, Option, Some, None}
use Rattle.risc_devices.specs.DeviceState.{DeviceState}
use Rattle.risc_devices.specs.KeyCodes.{oldest, key_bit}
use Rattle.risc_devices.specs.declared.words.TheConstants.{TIMER, SWITCHES, LEDS, SERIAL_DATA, SERIAL_STATUS}
use Rattle.risc_devices.specs.declared.words.TheConstants.{SPI_DATA, SPI_STATUS, MOUSE, KEYBOARD}

-- the word that a read of a device word returns: 0 the timer, in milliseconds; 1 the buttons and switches; 2 the serial line's
-- byte; 3 whether a byte was received (bit 0), and that one may be sent (bit 1), which is always set; 4 what the disk answered
-- last; 5 the constant 1; 6 the mouse word, with bit 28 set if and only if a key code waits; 7 the oldest key code; 8 to 15 zero
unfoldable pub read_value : DeviceState → ℕ → ℕ
read_value d word =
    if word == TIMER then d.timer
    else if word == SWITCHES then d.switches
    else if word == SERIAL_DATA then d.serial
    else if word == SERIAL_STATUS then 2 + (if d.received then 1 else 0)
    else if word == SPI_DATA then d.disk
    else if word == SPI_STATUS then 1
    else if word == MOUSE then d.mouse + key_bit d.keys
    else if word == KEYBOARD then oldest d.keys
    else 0

-- the devices after a read of a device word: a read of word 2 clears "received" and keeps the byte, and a read of word 7 takes
-- the oldest key code out of the queue
unfoldable pub after_read : DeviceState → ℕ → DeviceState
after_read d word =
    if word == SERIAL_DATA then record d { received = false }
    else if word == KEYBOARD then record d { keys = drop 1 d.keys }
    else d

-- the devices after a write of a value to a device word: a write to word 1 sets the LEDs to bits 7 to 0 of the value
unfoldable pub after_write : DeviceState → ℕ → ℕ → DeviceState
after_write d word value = if word == LEDS then record d { leds = value % 2 ^ 8 } else d

-- the byte that a write of a value to a device word sends: for word 2, bits 7 to 0 of the value
unfoldable pub sent_byte : ℕ → ℕ → Option ℕ
sent_byte word value = if word == SERIAL_DATA then Some (value % 2 ^ 8) else None
