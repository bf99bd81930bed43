use Rattle.std.proofs.Common.{take}
use Rattle.galluspa.specs.Conditions.{AreEachConditions}
use Rattle.galluspa.proofs.conditions.are_each_conditions.Given as goal

abbrev pub invariant-loop-raw : goal.invariant-loop-raw
invariant-loop-raw l = AreEachConditions (take l.raw-index l.raws)
