use Rattle.oberon_past.proofs.Beginning.{no-table}
use Rattle.oberon_past.proofs.past.pages_of.Goals as goal

pub from_table-requires : goal.from_table-requires
from_table-requires c = rw (c.zeros.ensures, c.new-pool.ensures) no-table.named
