-- The law of the defaults.
use Rattle.std.specs.Prelude.{◌≡◌, [], ◌∷◌, Some, codes}
use Rattle.oberon_check.specs.declared.versions.Versions.TheVariants.{WithoutDisk}
use Rattle.oberon_cli.specs.declared.arguments.Request.TheVariants.{Check}
use Rattle.oberon_cli.specs.Asked.{request_in}

-- no arguments, like `check` alone, ask for a check of a recording without a disk by 2 workers in jobs of one segment
abbrev pub DefaultsLaw : Type 0
DefaultsLaw = (request_in [] ≡ Some (Check WithoutDisk 2 1)) × (request_in (codes "check" ∷ []) ≡ Some (Check WithoutDisk 2 1))
