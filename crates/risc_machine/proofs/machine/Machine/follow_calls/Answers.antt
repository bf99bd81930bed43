use Rattle.std.proofs.Common.{List, IfOk, subst, arith}
use Rattle.risc_model.specs.declared.event.Event.{Event}
use Rattle.risc_model.specs.Turns.{IsFollowed}
use Rattle.risc_machine.proofs.FollowingLemmas.{if-followed}
use Rattle.risc_machine.proofs.machine.Machine.follow_calls.Goals as goal

pub returns-clause-followed : goal.returns-clause-followed
returns-clause-followed c =
    let f = c.follow.ensures in
    let log = c.args.log.now in
    let new = c.follow.new.log in
    let all = if-followed c.follow.result c.events.result.now c.args.from c.args.to c.args.self.now.state log new f.reached c.requires.fresh f.bounds f.within f.full f.followed in
    subst (λ (es : List Event). IfOk c.follow.result (IsFollowed log.limit es c.args.from c.args.to c.args.self.now.state log.calls.items log.room log.height new.turns.items new.calls.items)) c.events.ensures.events all

pub returns-clause-within : goal.returns-clause-within
returns-clause-within c =
    let f = c.follow.ensures in
    (omega (arith, f.within.calls, f.bounds.height), omega (arith, f.within.turns, f.bounds.room))
