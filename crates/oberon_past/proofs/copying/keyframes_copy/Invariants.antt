use Rattle.std.proofs.Common.{◌≡◌, map, take}
use Rattle.oberon_format.specs.CheckpointParts.{checkpoint_parts}
use Rattle.oberon_past.proofs.copying.keyframes_copy.Given as goal

abbrev pub invariant-loop-keyframe : goal.invariant-loop-keyframe
invariant-loop-keyframe l = map checkpoint_parts l.copies.items ≡ map checkpoint_parts (take l.keyframe-index l.keyframes)
