use Rattle.std.proofs.Common.{arith}
use Rattle.galluspa.proofs.calls.follow.Goals as goal

pub returns-clause-held : goal.returns-clause-held
returns-clause-held c =
    let held = c.in_ok-follow_parts.ensures.run.held in
    (omega (arith, held.0, c.in_ok-log.ensures.height), omega (arith, held.1, c.in_ok-log.ensures.room))
