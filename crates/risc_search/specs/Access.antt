-- The bytes that an instruction loads or stores, by their addresses (Project Oberon 2013, hardware chapters). Those of the device
-- words are accessed as those of RAM are: a byte, or all four bytes of a word.
use Rattle.std.specs.Prelude.{ℕ, ◌+◌, ◌-◌, ◌*◌, ◌^◌, ◌==◌, ◌&&◌, nat_lt, Bool, true, false}
use Rattle.std.specs.Prelude.{List, slice_index, Option, None, Some, if◌then◌else◌}
use Rattle.risc_core.specs.declared.address.Place.{Place}
use Rattle.risc_core.specs.declared.address.Place.TheVariants.{Ram, Device, Nowhere}
use Rattle.risc_core.specs.declared.instruction.Instr.{Instr}
use Rattle.risc_core.specs.declared.instruction.Instr.TheVariants.{Reg, Imm, Load, Store, BranchReg, BranchOff}
use Rattle.risc_core.specs.Instruction.{instruction_of}
use Rattle.risc_core.specs.Place.{address_of, target_of, lane_of}
use Rattle.risc_model.specs.MachineState.{CpuState}
use Rattle.risc_search.specs.declared.access.Access.{Access}

-- the byte in a lane of a word, or all four bytes of the word, whose first byte has the address `base`
abbrev pub part_of_word : Bool → Bool → ℕ → ℕ → Access
part_of_word stores byte base lane =
    if byte
    then record { stores = stores; first = base + lane; count = 1 }
    else record { stores = stores; first = base; count = 4 }

-- an access to a target: to a word of RAM, or to one of the 16 device words, which are the highest 64 bytes
unfoldable pub access_to : Bool → Bool → Place → ℕ → Option Access
access_to stores byte (Ram word) lane = Some (part_of_word stores byte (4 * word) lane)
access_to stores byte (Device word) lane = Some (part_of_word stores byte (2 ^ 24 - 64 + 4 * word) lane)
access_to stores byte Nowhere lane = None

-- an access to the address of a register and an offset
abbrev pub access_at : Bool → Bool → ℕ → Option Access
access_at stores byte address = access_to stores byte (target_of address) (lane_of address)

-- what an instruction accesses, by the registers before it
unfoldable pub accessed : Instr → List ℕ → Option Access
accessed (Reg op u v a b c) r = None
accessed (Imm op u v a b im) r = None
accessed (Load byte a b off) r = access_at false byte (address_of (slice_index r b) off)
accessed (Store byte a b off) r = access_at true byte (address_of (slice_index r b) off)
accessed (BranchReg cond link c) r = None
accessed (BranchOff cond link off) r = None

-- the next instruction; a stopped machine does none, and beyond RAM none is fetched
unfoldable pub next_instruction : CpuState → List ℕ → Option Instr
next_instruction cpu words =
    if cpu.stop == 0 && nat_lt cpu.pc (2 ^ 18) then Some (instruction_of (slice_index words cpu.pc)) else None

-- what the next instruction accesses; a stopped machine does none, and beyond RAM none is fetched
unfoldable pub next_access : CpuState → List ℕ → Option Access
next_access cpu words =
    if cpu.stop == 0 && nat_lt cpu.pc (2 ^ 18) then accessed (instruction_of (slice_index words cpu.pc)) cpu.r else None
