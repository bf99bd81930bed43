use Rattle.std.proofs.Common.{◌<◌, ◌^◌, refl}
use Rattle.std.proofs.lemmas.List.Elements.{All-replicate}
use Rattle.risc_tests.proofs.pages.full_of.Goals as goal

pub invariant_of-result : goal.invariant_of-result
invariant_of-result c = record { whole = refl; fit = All-replicate (λ w. w < 2 ^ 32) 256 _ c.ranges.word.fits }
