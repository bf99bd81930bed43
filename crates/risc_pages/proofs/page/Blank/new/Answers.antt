use Rattle.std.proofs.Common.{◌<◌, ◌^◌, refl, lit<}
use Rattle.std.proofs.lemmas.List.Elements.{All-replicate}
use Rattle.risc_pages.specs.Pages.{zero_page}
use Rattle.risc_pages.proofs.page.Blank.new.Goals as goal

pub invariant_of-page : goal.invariant_of-page
invariant_of-page c = record { whole = refl; fit = All-replicate (λ w. w < 2 ^ 32) 256 0 (lit< tt) }

pub invariant_of-result : goal.invariant_of-result
unfolding zero_page
invariant_of-result c = record { blank = refl }
