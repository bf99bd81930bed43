use Rattle.std.proofs.Common.{◌<◌, ◌^◌, refl, lit<}
use Rattle.std.proofs.lemmas.List.Elements.{All-replicate}
use Rattle.risc_pages.specs.Tables.{zero_numbers}
use Rattle.risc_pages.proofs.table.Table.zeros.Goals as goal

pub invariant_of-result : goal.invariant_of-result
invariant_of-result c = record { count = refl; fit = All-replicate (λ n. n < 2 ^ 32) 1024 0 (lit< tt) }

pub returns : goal.returns
unfolding zero_numbers
returns c = refl
