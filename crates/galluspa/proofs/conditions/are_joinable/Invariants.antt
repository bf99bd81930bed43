use Rattle.std.proofs.Common.{map}
use Rattle.galluspa.specs.Conditions.{is_joined}
use Rattle.galluspa.proofs.ConditionLemmas.{IsCounted}
use Rattle.galluspa.proofs.conditions.are_joinable.Given as goal

abbrev pub invariant-loop-raw : goal.invariant-loop-raw
invariant-loop-raw l = IsCounted (map is_joined l.raws) l.raw-index l.joined
