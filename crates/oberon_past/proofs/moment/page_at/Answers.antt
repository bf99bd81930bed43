use Rattle.std.proofs.Common.{arith}
use Rattle.oberon_past.proofs.Pages.{page-read}
use Rattle.oberon_past.proofs.moment.page_at.Goals as goal

pub returns : goal.returns
returns c =
    page-read c.args.memory.now.words c.loop-i.words c.args.slot c.owned-owned.ensures.memory.words c.requires c.loop-i.invariant.len
    (λ k d lt. c.loop-i.invariant.each k d (omega arith))
