use Rattle.std.proofs.Common.{◌≤◌, ℕ, List, arith, length, length-take, take}
use Rattle.risc_model.specs.declared.call.Call.{Call}
use Rattle.galluspa.proofs.LogLemmas.{called-from, called-held}
use Rattle.galluspa.proofs.past_calls.calls_in.Goals as goal

pub returns-clause-held : goal.returns-clause-held
returns-clause-held c =
    let a = c.args in
    let p = a.past.now in
    let calls : List Call = take a.count a.calls.now in
    let height : ℕ = length a.calls.now in
    let fit : length calls ≤ height = omega (arith, length-take a.count a.calls.now) in
    let log = c.in_ok-log.ensures in
    called-held p.run p.end a.limit a.from a.to calls a.room height c.in_ok-called.called (c.are_open.ensures.0 c.if-not-are_open.false) fit
    (called-from p.run p.end a.limit a.from a.to calls a.room height c.in_ok-log.log c.in_ok-called.called log.limit log.calls log.room log.height
    c.in_ok-called.ensures.called)
