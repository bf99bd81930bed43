use Rattle.std.proofs.Common.{ℕ, ◌*◌, ◌<◌}
use Rattle.oberon_format.specs.Recording.{count_at}
use Rattle.oberon_shards.proofs.border.border.Given as goal

abbrev pub invariant-loop-segment : goal.invariant-loop-segment
invariant-loop-segment l = (s : ℕ) → s < l.segment → l.of * count_at l.r s < l.index * l.steps
