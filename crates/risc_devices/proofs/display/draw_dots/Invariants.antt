use Rattle.std.proofs.Common.{◌<◌, ℕ, ◌/◌, ◌%◌}
use Rattle.std.specs.Prelude.{slice_index}
use Rattle.risc_devices.specs.Picture.{HasDots}
use Rattle.risc_devices.proofs.display.draw_dots.Given as goal

-- the bytes so far have their dots
abbrev pub invariant-loop-at : goal.invariant-loop-at
invariant-loop-at l = (k : ℕ) → k < l.at → HasDots l.words (k / 128) (k % 128) (slice_index l.dots k)
