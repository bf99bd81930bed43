use Rattle.std.proofs.Common.{◌<◌, ◌^◌, refl, lit<}
use Rattle.std.proofs.lemmas.List.Elements.{All-replicate}
use Rattle.format_tests.proofs.tests.parts.pool_of.Goals as goal

pub invariant_of-push : goal.invariant_of-push
invariant_of-push c = record { whole = refl; fit = All-replicate (λ w. w < 2 ^ 32) 256 _ (lit< tt) }
