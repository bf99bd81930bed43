use Rattle.std.proofs.Common.{sym, ◌∙◌}
use Rattle.risc_machine.proofs.FollowerLemmas.{jump-unchanged}
use Rattle.risc_machine.proofs.follower.Follower.changes.Goals as goal

pub returns : goal.returns
returns c = λ none is s jump.
    jump-unchanged c.args.self.now.limit c.args.jump.now c.args.self.now.calls.now s _ _ jump (c.follow.ensures.stay is) (c.follow.ensures.calls is) (sym c.changes.ensures ∙ none)
