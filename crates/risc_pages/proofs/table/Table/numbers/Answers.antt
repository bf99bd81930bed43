use Rattle.std.proofs.Common.{arith}
use Rattle.risc_pages.proofs.table.Table.numbers.Goals as goal

pub returns : goal.returns
returns c = search arith
