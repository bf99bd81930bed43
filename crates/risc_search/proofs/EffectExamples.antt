-- Worked examples of what a step does, proved from the definitions.
use Rattle.std.proofs.Common.{◌≡◌, ℕ, List, [], ◌∷◌, Option, None, Some, false, true, refl}
use Rattle.risc_devices.specs.DeviceState.{zero_devices}
use Rattle.risc_devices.specs.DeviceWords.{read_value}
use Rattle.risc_core.specs.Place.{address_of, lane_of, target_of}
use Rattle.risc_model.specs.MachineState.{State}
use Rattle.risc_search.specs.Access.{access_to, accessed, next_access}
use Rattle.risc_search.specs.Effects.{accessed_by, next_word, word_with}

-- a machine that stands at a word, with R1 = 12345678, and the words 0 and 89ABCDEF after it
at : ℕ → ℕ → State
at word stop = record {
  cpu = record {
    r = 0 ∷ (0x12345678 ∷ (0xFFFFC4 ∷ (0 ∷ (0 ∷ (0 ∷ (0 ∷ (0 ∷ (0 ∷ (0 ∷ (0 ∷ (0 ∷ (0 ∷ (0 ∷ (0 ∷ (0 ∷ [])))))))))))))));
    h = 0;
    pc = 0;
    flags = record { n = false; z = false; c = false; v = false };
    stop = stop;
  };
  devices = record zero_devices { switches = 0x123 };
  words = word ∷ (0 ∷ (0x89ABCDEF ∷ []));
}

-- ST R1, R0, 8: a store of a word
stores-word : accessed_by (at 0xA1000008 0) (next_access (at 0xA1000008 0).cpu (at 0xA1000008 0).words)
    ≡ Some (record { access = record { stores = true; first = 8; count = 4 }; old = 0x89ABCDEF; new = 0x12345678 })
unfolding at next_access accessed access_to address_of target_of lane_of word_with
stores-word = refl

-- STB R1, R0, 9: a store of a byte, to lane 1 of its word
stores-byte : accessed_by (at 0xB1000009 0) (next_access (at 0xB1000009 0).cpu (at 0xB1000009 0).words)
    ≡ Some (record { access = record { stores = true; first = 9; count = 1 }; old = 0xCD; new = 0x78 })
unfolding at next_access accessed access_to address_of target_of lane_of word_with
stores-byte = refl

-- LD R1, R2, 0: a load of the switches
loads-device : accessed_by (at 0x81200000 0) (next_access (at 0x81200000 0).cpu (at 0x81200000 0).words)
    ≡ Some (record { access = record { stores = false; first = 0xFFFFC4; count = 4 }; old = 0x123; new = 0x123 })
unfolding at next_access accessed access_to address_of target_of lane_of word_with read_value
loads-device = refl

-- LD R1, R2, -256: an address that is nowhere
nowhere : next_access (at 0x812FFF00 0).cpu (at 0x812FFF00 0).words ≡ None
unfolding at next_access accessed access_to address_of target_of lane_of
nowhere = refl

-- a stopped machine
stopped : next_word (at 0xA1000008 2).cpu (at 0xA1000008 2).words ≡ None
unfolding at next_word
stopped = refl
