use Rattle.std.proofs.Common.{rules}
use Rattle.risc_pages.proofs.slot.Slot.change.Goals as goal

pub returns-in-Owned-clause-some : goal.returns-in-Owned-clause-some
returns-in-Owned-clause-some c = search rules
