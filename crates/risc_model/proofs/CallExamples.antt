-- Worked examples of calls, computed outright.
use Rattle.std.proofs.Common.{◌≡◌, ℕ, [], ◌∷◌, List, true, false, refl, None, Some}
use Rattle.risc_core.specs.Branch.{is_taken, link_value, register_target, offset_target}
use Rattle.risc_core.specs.Written.{branches, links}
use Rattle.risc_devices.specs.DeviceState.{DeviceState}
use Rattle.risc_devices.specs.Ticks.{ticked}
use Rattle.risc_model.specs.declared.call.Call.{Call}
use Rattle.risc_model.specs.MachineState.{State}
use Rattle.risc_model.specs.Exec.{exec, counted, fetched, perform, branched}
use Rattle.risc_model.specs.Calls.{staying, made}

-- a machine at the word pc with these words; R14 and R15 are as given
abbrev machine : ℕ → ℕ → ℕ → DeviceState → List ℕ → State
machine pc sp link d words = record {
  cpu = record {
    r = 0 ∷ 0 ∷ 0 ∷ 0 ∷ 0 ∷ 0 ∷ 0 ∷ 0 ∷ 0 ∷ 0 ∷ 0 ∷ 0 ∷ 0 ∷ 0 ∷ sp ∷ link ∷ [];
    h = 0;
    pc = pc;
    flags = record { n = false; z = true; c = false; v = false };
    stop = 0;
  };
  devices = d;
  words = words;
}

-- BL to word 4; B LNK; BL LNK; BL to the next word; BLNE to word 0; B to word 0
abbrev program : List ℕ
program = 0xF7000003 ∷ 0xC700000F ∷ 0xD700000F ∷ 0xF7000000 ∷ 0xF93FFFFB ∷ 0xE73FFFFA ∷ []

abbrev call : ℕ → ℕ → Call
call count sp = record { count = count; at = 0; to = 4; back = 1; sp = sp }

-- the branch with link at word 0 is a call of word 4, which returns to word 1
calls : (d : DeviceState) → made 7 (machine 0 0x100 0 d program) [] ≡ Some (call 7 0x100)
unfolding made exec counted fetched perform branched branches links is_taken offset_target link_value ticked
calls d = refl

-- B LNK, at the same R14, returns from it; and with a lower R14 it does not
returns : (d : DeviceState) → staying 0xFFFF (machine 1 0x100 4 d program) (call 7 0x100 ∷ []) ≡ []
unfolding staying exec counted fetched perform branched branches links is_taken register_target link_value ticked
returns d = refl

stays : (d : DeviceState) → staying 0xFFFF (machine 1 0xF8 4 d program) (call 7 0x100 ∷ []) ≡ call 7 0x100 ∷ []
unfolding staying exec counted fetched perform branched branches links is_taken register_target link_value ticked
stays d = refl

-- with a call all end that were made after it: here that of word 9, too
both : (d : DeviceState) → staying 0xFFFF (machine 1 0x100 4 d program)
    (call 7 0x100 ∷ record { count = 8; at = 9; to = 1; back = 10; sp = 0x100 } ∷ []) ≡ []
unfolding staying exec counted fetched perform branched branches links is_taken register_target link_value ticked
both d = refl

-- BL LNK goes back to word 1: it returns, and makes no call
none-made : (d : DeviceState) → made 9 (machine 2 0x100 4 d program) (call 7 0x100 ∷ []) ≡ None
unfolding made exec counted fetched perform branched branches links is_taken register_target link_value ticked
none-made d = refl

-- with no such call open, it makes one
one-made : (d : DeviceState) → made 9 (machine 2 0x100 4 d program) []
    ≡ Some (record { count = 9; at = 2; to = 1; back = 3; sp = 0x100 })
unfolding made exec counted fetched perform branched branches links is_taken register_target link_value ticked
one-made d = refl

-- a branch with link to the next word makes none
next-word : (d : DeviceState) → made 9 (machine 3 0x100 4 d program) [] ≡ None
unfolding made exec counted fetched perform branched branches links is_taken offset_target link_value ticked
next-word d = refl

-- nor does one that is not taken
not-taken : (d : DeviceState) → made 9 (machine 4 0x100 4 d program) [] ≡ None
unfolding made exec counted fetched perform branched branches links is_taken offset_target link_value ticked
not-taken d = refl

-- R14 has risen: a jump ends the call; above the limit it does not
unwound : (d : DeviceState) → staying 0xFFFF (machine 5 0x104 4 d program) (call 7 0x100 ∷ []) ≡ []
unfolding staying exec counted fetched perform branched branches links is_taken offset_target link_value ticked
unwound d = refl

switched : (d : DeviceState) → staying 0x103 (machine 5 0x104 4 d program) (call 7 0x100 ∷ []) ≡ call 7 0x100 ∷ []
unfolding staying exec counted fetched perform branched branches links is_taken offset_target link_value ticked
switched d = refl

-- the same call is made again: the one before it ends
again : (d : DeviceState) → staying 0xFFFF (machine 0 0x100 4 d program) (call 7 0x100 ∷ []) ≡ []
unfolding staying exec counted fetched perform branched branches links is_taken offset_target link_value ticked
again d = refl
