use Rattle.std.proofs.Common.{◌≡◌, Some, map, take}
use Rattle.galluspa.specs.Conditions.{clause_of}
use Rattle.galluspa.proofs.conditions.conditions_of.Given as goal

abbrev pub invariant-loop-raw : goal.invariant-loop-raw
invariant-loop-raw l = map clause_of (take l.raw-index l.raws) ≡ map (λ c. Some c) l.conditions.items
