-- The number at the end of a part's name.
use Rattle.std.specs.Prelude.{ℕ, List, []}
use Rattle.std.specs.Fmt.{decimal}
use Rattle.oberon_check.specs.declared.part.Part.{Part}
use Rattle.oberon_check.specs.declared.part.Part.TheVariants.{R, Page}

-- the number of a register or a page, in decimal; other parts have none
abbrev pub part_number : Part → List ℕ
part_number (R i) = decimal i
part_number (Page slot) = decimal slot
part_number _ = []
