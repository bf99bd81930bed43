use Rattle.std.proofs.Common.{arith}
use Rattle.risc_pages.proofs.slot.Slot.page.Goals as goal

pub returns-in-Owned : goal.returns-in-Owned
returns-in-Owned c = search arith
