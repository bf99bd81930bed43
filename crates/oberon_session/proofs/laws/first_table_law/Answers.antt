use Rattle.oberon_session.proofs.FirstTables.{first-table-law}
use Rattle.oberon_session.proofs.laws.first_table_law.Goals as goal

pub returns : goal.returns
returns c = first-table-law
