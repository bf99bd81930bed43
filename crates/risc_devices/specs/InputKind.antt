-- The kinds of inputs, their numbers, and the values that an input of each kind may have (this project's own choice).
use Rattle.std.specs.Prelude.{ℕ, ◌/◌, ◌%◌, ◌^◌, Bool, ◌&&◌, ◌||◌, ◌==◌, nat_lt, IsTrue}
use Rattle.risc_devices.specs.declared.kind.Kind.{Kind}
use Rattle.risc_devices.specs.declared.kind.Kind.TheVariants.{Timer, Switches, Mouse, Key, Serial, Disk}
use Rattle.risc_devices.specs.declared.kinds.TheConstants.{TIMER, SWITCHES, MOUSE, KEY, SERIAL, DISK}

-- the number of a kind
abbrev pub kind_number : Kind → ℕ
kind_number Timer = TIMER
kind_number Switches = SWITCHES
kind_number Mouse = MOUSE
kind_number Key = KEY
kind_number Serial = SERIAL
kind_number Disk = DISK

-- a mouse word has x in bits 0 to 9, y in bits 12 to 21, three keys in bits 24 to 26, and no other bit: all its bits are in the
-- mask 073FF3FF
unfoldable pub is_mouse : ℕ → Bool
is_mouse word = nat_lt (word % 2 ^ 12) (2 ^ 10) && nat_lt (word / 2 ^ 12 % 2 ^ 12) (2 ^ 10) && nat_lt (word / 2 ^ 24) (2 ^ 3)

-- the inputs of a machine without a disk, by the number of their kind and their value: a timer has any word, the buttons and
-- switches are below 4,096, a mouse word is within its mask, a key code and a byte of the serial line are below 256
unfoldable pub is_input : ℕ → ℕ → Bool
is_input kind value =
    (kind == TIMER && nat_lt value (2 ^ 32))
    || (kind == SWITCHES && nat_lt value (2 ^ 12))
    || (kind == MOUSE && is_mouse value)
    || (kind == KEY && nat_lt value (2 ^ 8))
    || (kind == SERIAL && nat_lt value (2 ^ 8))

-- the same as a statement: there is an input of this kind's number and this value
abbrev pub IsInput : ℕ → ℕ → Type 0
IsInput kind value = IsTrue (is_input kind value)

-- the inputs of a machine with a disk: these, and any word that the disk answers
unfoldable pub is_input_with_disk : ℕ → ℕ → Bool
is_input_with_disk kind value = is_input kind value || (kind == DISK && nat_lt value (2 ^ 32))

-- the same as a statement
abbrev pub IsInputWithDisk : ℕ → ℕ → Type 0
IsInputWithDisk kind value = IsTrue (is_input_with_disk kind value)
