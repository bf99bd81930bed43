-- From which parts an instruction computes what it writes (this project's own choice): its operands, what it loads, the carry if it takes
-- part, and the register of the address of a load or store. A link, and a constant, come from none. Left out is what made the run come
-- to the instruction, and the condition of a branch.
use Rattle.std.specs.Prelude.{ℕ, ◌<◌, ◌≤◌, ◌-◌, ◌*◌, ◌^◌, ◌==◌, ◌||◌, ◌&&◌, nat_lt, Bool, List, [], ◌∷◌, slice_index, if◌then◌else◌, ⊤}
use Rattle.risc_core.specs.declared.address.Place.{Place}
use Rattle.risc_core.specs.declared.address.Place.TheVariants.{Ram, Device, Nowhere}
use Rattle.risc_core.specs.declared.instruction.Instr.{Instr}
use Rattle.risc_core.specs.declared.instruction.Instr.TheVariants.{Reg, Imm, Load, Store, BranchReg, BranchOff}
use Rattle.risc_core.specs.declared.operations.TheConstants.{MOV, ADD, SUB, DIV}
use Rattle.risc_core.specs.Arithmetic.{and_word}
use Rattle.risc_core.specs.Place.{address_of, lane_of, target_of}
use Rattle.risc_devices.specs.DeviceState.{DeviceState, serial_number}
use Rattle.risc_devices.specs.KeyCodes.{oldest}
use Rattle.risc_devices.specs.declared.kinds.TheConstants as kinds
use Rattle.risc_devices.specs.declared.words.TheConstants as words
use Rattle.risc_model.specs.MachineState.{State}
use Rattle.risc_search.specs.Condition.{register_value}
use Rattle.risc_search.specs.declared.register.Register.{Register as RegisterOf}
use Rattle.risc_search.specs.declared.register.Register.TheVariants.{Numbered, Auxiliary, Flags}
use Rattle.oberon_past.specs.declared.part.Part.{Part}
use Rattle.oberon_past.specs.declared.part.Part.TheVariants.{Register, Word, Leds, Inputs, Stop}

-- ---- values

-- what inputs of a kind set: one number, but the waiting key codes, oldest first
unfoldable pub set_by : ℕ → DeviceState → List ℕ
set_by kind d =
    if kind == kinds.TIMER then d.timer ∷ []
    else if kind == kinds.SWITCHES then d.switches ∷ []
    else if kind == kinds.MOUSE then d.mouse ∷ []
    else if kind == kinds.KEY then d.keys
    else if kind == kinds.SERIAL then serial_number d ∷ []
    else if kind == kinds.DISK then d.disk ∷ []
    else []

-- the word of RAM with a number; 0 if there is no such word
abbrev pub word_in : List ℕ → ℕ → ℕ
word_in words number = if nat_lt number (2 ^ 18) then slice_index words number else 0

-- the values of a part: those of its bits that the mask names
unfoldable pub values_of : Part → State → List ℕ
values_of (Register register mask) s = and_word (register_value register s.cpu) mask ∷ []
values_of (Word number mask) s = and_word (word_in s.words number) mask ∷ []
values_of Leds s = s.devices.leds ∷ []
values_of (Inputs kind) s = set_by kind s.devices
values_of Stop s = s.cpu.stop ∷ []

-- the value of a part: of key codes the oldest, or 0 if none waits
abbrev pub value_of : Part → State → ℕ
value_of part s = oldest (values_of part s)

-- a register that there is, and a mask that names bits of it
abbrev pub IsRegister : RegisterOf → ℕ → Type 0
IsRegister (Numbered number) mask = (number < 16) × (0 < mask)
IsRegister Auxiliary mask = 0 < mask
IsRegister Flags mask = (0 < mask) × (mask < 16)

-- a part that there is
abbrev pub IsPart : Part → Type 0
IsPart (Register register mask) = IsRegister register mask
IsPart (Word number mask) = (number < 2 ^ 18) × (0 < mask)
IsPart Leds = ⊤
IsPart (Inputs kind) = (1 ≤ kind) × (kind ≤ 6)
IsPart Stop = ⊤

-- ---- the parts from which an instruction computes

-- all bits of one of R0 to R15
abbrev pub register_part : ℕ → Part
register_part number = Register (Numbered number) (2 ^ 32 - 1)

-- the carry takes part in a sum or a difference if u is set
abbrev pub has_carry : ℕ → Bool → Bool
has_carry op u = u && (op == ADD || op == SUB)

-- C is 2 in the number of the flags
abbrev pub carry_part : Part
carry_part = Register Flags 2

-- what a move to a register moves: the operand, the flags or H
abbrev pub moved_part : Bool → Bool → ℕ → Part
moved_part u v c = if u then (if v then Register Flags 15 else Register Auxiliary (2 ^ 32 - 1)) else register_part c

-- the bits of a word that a load or a store accesses: all, or those of a byte
abbrev pub accessed_bits : Bool → ℕ → ℕ
accessed_bits byte lane = if byte then 255 * 2 ^ (8 * lane) else 2 ^ 32 - 1

-- the kind of inputs that sets what a device word reads; 0 if the word reads a constant. The mouse word also says whether a key waits
abbrev pub kind_read : ℕ → ℕ
kind_read word =
    if word == words.TIMER then kinds.TIMER
    else if word == words.SWITCHES then kinds.SWITCHES
    else if word == words.SERIAL_DATA || word == words.SERIAL_STATUS then kinds.SERIAL
    else if word == words.SPI_DATA then kinds.DISK
    else if word == words.MOUSE then kinds.MOUSE
    else if word == words.KEYBOARD then kinds.KEY
    else 0

-- what a device word reads, before other parts
abbrev pub device_parts : ℕ → List Part → List Part
device_parts word others =
    if word == words.MOUSE then Inputs kinds.MOUSE ∷ Inputs kinds.KEY ∷ others
    else if kind_read word == 0 then others
    else Inputs (kind_read word) ∷ others

-- what a load loads from a place, and then the register of its address
unfoldable pub loaded_parts : Place → ℕ → Bool → ℕ → List Part
loaded_parts (Ram word) lane byte base = Word word (accessed_bits byte lane) ∷ register_part base ∷ []
loaded_parts (Device word) lane byte base = device_parts word (register_part base ∷ [])
loaded_parts Nowhere lane byte base = register_part base ∷ []

-- the operands of an operation, the first of them register b, and the carry if it takes part. Operations after DIV compute nothing
abbrev pub operand_parts : ℕ → Bool → ℕ → List Part → List Part
operand_parts op u b others =
    if nat_lt DIV op then []
    else if has_carry op u then register_part b ∷ carry_part ∷ others
    else register_part b ∷ others

-- the parts from which an instruction computes what it writes, by the registers before it
unfoldable pub origins_of : Instr → List ℕ → List Part
origins_of (Reg op u v a b c) r =
    if op == MOV then moved_part u v c ∷ [] else operand_parts op u b (register_part c ∷ [])
origins_of (Imm op u v a b im) r = if op == MOV then [] else operand_parts op u b []
origins_of (Load byte a b off) r =
    loaded_parts (target_of (address_of (slice_index r b) off)) (lane_of (address_of (slice_index r b) off)) byte b
origins_of (Store byte a b off) r = register_part a ∷ register_part b ∷ []
origins_of (BranchReg cond link c) r = []
origins_of (BranchOff cond link off) r = []

-- ---- the bits that an instruction writes

-- which flags an instruction that writes flags writes, as a mask: a sum or a difference all four, others N and Z alone
unfoldable pub flags_written : Instr → ℕ
flags_written (Reg op u v a b c) = if op == ADD || op == SUB then 15 else 12
flags_written (Imm op u v a b im) = if op == ADD || op == SUB then 15 else 12
flags_written _ = 12

-- which bits of its word a store writes, by the registers before it; others write none
unfoldable pub bits_stored : Instr → List ℕ → ℕ
bits_stored (Store byte a b off) r = accessed_bits byte (lane_of (address_of (slice_index r b) off))
bits_stored _ r = 0

-- which bits of a register an instruction that writes it writes: R0 to R15 and H are written whole
abbrev pub register_bits : RegisterOf → ℕ → Instr → ℕ
register_bits (Numbered number) mask i = mask
register_bits Auxiliary mask i = mask
register_bits Flags mask i = and_word (flags_written i) mask

-- the bits of a part that an instruction that writes it writes: of a register or of a word those that the mask of the part names. It
-- leaves the others as they are, so that they come from an earlier write
abbrev pub bits_written : Part → Instr → List ℕ → ℕ
bits_written (Register register mask) i r = register_bits register mask i
bits_written (Word number mask) i r = and_word (bits_stored i r) mask
bits_written Leds i r = 255
bits_written (Inputs kind) i r = 0
bits_written Stop i r = 2 ^ 32 - 1
