-- Worked examples of the definitions, computed outright.
use Rattle.std.proofs.Common.{◌≡◌, [], ◌∷◌, true, false, refl, slice_index}
use Rattle.risc_core.specs.Branch.{is_taken, link_value, register_target}
use Rattle.risc_model.specs.Lane.{lane_byte, with_lane}
use Rattle.risc_model.specs.MachineState.{CpuState}
use Rattle.risc_model.specs.Exec.{branched}

-- a byte load of lane 2, and a byte store to lane 1
third_byte : lane_byte 2 0x44332211 ≡ 0x33
third_byte = refl

second_byte : with_lane 1 0xAA 0x44332211 ≡ 0x4433AA11
second_byte = refl

-- a linking branch to R15, which holds 40 hexadecimal: it goes to word 16, and R15 is 0C afterwards
abbrev before : CpuState
before = record {
  r = 0 ∷ 0 ∷ 0 ∷ 0 ∷ 0 ∷ 0 ∷ 0 ∷ 0 ∷ 0 ∷ 0 ∷ 0 ∷ 0 ∷ 0 ∷ 0 ∷ 0 ∷ 0x40 ∷ [];
  h = 0;
  pc = 2;
  flags = record { n = false; z = true; c = false; v = false };
  stop = 0;
}

linked : (branched 7 true (register_target (slice_index before.r 15)) before).pc ≡ 16
unfolding branched is_taken link_value register_target
linked = refl

link : slice_index (branched 7 true (register_target (slice_index before.r 15)) before).r 15 ≡ 0x0C
unfolding branched is_taken link_value register_target
link = refl
