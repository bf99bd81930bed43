-- The first part in which two outcomes differ: states, each with the bytes that were sent on the way to it.
-- The parts and their order are this project's own choice.
use Rattle.std.specs.Prelude.{ℕ, ◌≡◌, ◌==◌, ◌&&◌, nat_eq, Bool, true, false, List, [], ◌∷◌, ◌++◌, Option, Some, MatchOption, All}
use Rattle.std.specs.Prelude.{slice_index}
use Rattle.std.specs.Bool.{beq}
use Rattle.std.specs.Cmp.Lexicographic.{pointwise}
use Rattle.risc_pages.specs.Pages.{page_at}
use Rattle.risc_devices.specs.DeviceState.{DeviceState}
use Rattle.risc_model.specs.MachineState.{CpuState, Flags as FlagsState}
use Rattle.oberon_format.specs.Defined.{Outcome}
use Rattle.oberon_format.specs.FirstFault.{Rule, each, first_broken}
use Rattle.oberon_check.specs.declared.part.Part.{Part}
use Rattle.oberon_check.specs.declared.part.Part.TheVariants.{R, H, Pc, Flags, Stop, Timer, Rate, Phase, Switches, Leds, Mouse}
use Rattle.oberon_check.specs.declared.part.Part.TheVariants.{Serial, Keys, Disk, Sent, Page}

-- whether the four flags are the same
abbrev pub same_flags : FlagsState → FlagsState → Bool
same_flags f g = beq f.n g.n && beq f.z g.z && beq f.c g.c && beq f.v g.v

-- the registers, each with the test whether it is the same
abbrev pub register_parts : List ℕ → List ℕ → List (Rule Part)
register_parts a b = each 16 (λ i. (slice_index a i == slice_index b i, R i) ∷ [])

-- the other parts of the processor
abbrev pub control_parts : CpuState → CpuState → List (Rule Part)
control_parts a b =
    (a.h == b.h, H)
    ∷ (a.pc == b.pc, Pc)
    ∷ (same_flags a.flags b.flags, Flags)
    ∷ (a.stop == b.stop, Stop)
    ∷ []

-- the parts of the processor
abbrev pub cpu_parts : CpuState → CpuState → List (Rule Part)
cpu_parts a b = register_parts a.r b.r ++ control_parts a b

-- the parts of the devices. The part of the serial line is its byte and the flag "received"
abbrev pub device_parts : DeviceState → DeviceState → List (Rule Part)
device_parts a b =
    (a.timer == b.timer, Timer)
    ∷ (a.rate == b.rate, Rate)
    ∷ (a.phase == b.phase, Phase)
    ∷ (a.switches == b.switches, Switches)
    ∷ (a.leds == b.leds, Leds)
    ∷ (a.mouse == b.mouse, Mouse)
    ∷ (a.serial == b.serial && beq a.received b.received, Serial)
    ∷ (pointwise nat_eq a.keys b.keys, Keys)
    ∷ (a.disk == b.disk, Disk)
    ∷ []

-- the pages of the memory: page p has the words 256 * p to 256 * p + 255
abbrev pub page_parts : List ℕ → List ℕ → List (Rule Part)
page_parts a b = each 1024 (λ p. (pointwise nat_eq (page_at a p) (page_at b p), Page p) ∷ [])

-- all parts in their order: processor, devices, the bytes sent, and pages
abbrev pub parts : Outcome → Outcome → List (Rule Part)
parts x y =
    cpu_parts x.state.cpu y.state.cpu
    ++ (device_parts x.state.devices y.state.devices
    ++ (pointwise nat_eq x.sent y.sent, Sent)
    ∷ page_parts x.state.words y.state.words)

-- the first part whose test fails
unfoldable pub first_difference : Outcome → Outcome → Option Part
first_difference x y = first_broken (parts x y)

-- this is the first part in which the two differ, or `None` if they are the same outcome
abbrev pub IsDifference : Outcome → Outcome → Option Part → Type 0
IsDifference x y part = MatchOption part (x ≡ y) (λ p. first_difference x y ≡ Some p)

-- the same without a computation: the part's own test fails, and the test of each part before it holds
pub record IsFirstDifference (x y : Outcome) (part : Part) : Type 0 where
  pub before : List (Rule Part)
  pub after : List (Rule Part)
  pub split : parts x y ≡ before ++ (false, part) ∷ after
  pub same : All (λ rule. rule.0 ≡ true) before
