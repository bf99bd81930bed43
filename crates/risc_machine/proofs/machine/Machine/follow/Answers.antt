use Rattle.std.proofs.Common.{◌+◌, ◌-◌, ℕ, not, List, ap, sym, ◌∙◌, arith}
use Rattle.risc_model.specs.declared.event.Event.{Event}
use Rattle.risc_model.specs.MachineState.{CpuState, State}
use Rattle.risc_model.specs.Replay.{feed}
use Rattle.risc_model.proofs.RunLemmas.{run_of-none, run_of-over}
use Rattle.risc_model.proofs.VisitLemmas.{feed-cpu}
use Rattle.risc_machine.specs.Allocation.{Held}
use Rattle.risc_machine.specs.inner.Follows.{HasFollowed}
use Rattle.risc_machine.specs.inner.Observers.{IsQuiet}
use Rattle.risc_machine.proofs.DueLemmas.{fed-between}
use Rattle.risc_machine.proofs.FollowingLemmas.{bounds-then, followed-none, followed-on, followed-quiet, followed-stopped, room-within, same-bounds, stack-on}
use Rattle.risc_machine.proofs.KeepLemmas.{Keeps-same}
use Rattle.risc_machine.proofs.StepLemmas.{quiet-fault, quiet-whole}
use Rattle.risc_machine.proofs.machine.Machine.follow.Goals as goal

pub loop-at-init : goal.loop-at-init
loop-at-init c =
    let s : State = c.args.self.now.state in
    let log = c.args.log.now in
    record {
      reached = (omega arith, c.requires.range);
      state = ap (λ (h : Held). h.state) c.self.view_is ∙ sym (run_of-none _ _ _ _ (omega arith));
      followed = followed-none c.args.events.now c.args.from (c.args.from - c.args.from) s log (omega arith) c.requires.room;
      kept = Keeps-same _ _ (ap (λ (h : Held). h.owned) c.self.view_is) (ap (λ (h : Held). h.base) c.self.view_is);
      reserved = c.requires.reserved;
      within = room-within log c.requires.room;
      bounds = same-bounds log;
    }

-- a stopped machine stays as it is, and so do the open calls
pub returns-then-is_stopped-clause-state : goal.returns-then-is_stopped-clause-state
returns-then-is_stopped-clause-state c =
    let loop = c.loop-at.invariant in
    run_of-over _ _ c.loop-at.at _ _ _ loop.reached.0 loop.reached.1 loop.state (c.is_stopped.ensures.is ∙ ap not c.if-is_stopped.true)

pub returns-then-is_stopped-clause-followed : goal.returns-then-is_stopped-clause-followed
returns-then-is_stopped-clause-followed c =
    let loop = c.loop-at.invariant in
    let es : List Event = c.args.events.now in
    let s : State = c.args.self.now.state in
    let t : State = c.loop-at.self.state in
    followed-on es c.args.from c.loop-at.at c.args.to s t c.args.log.now c.loop-at.log c.loop-at.log loop.reached.0 loop.reached.1 loop.state loop.bounds loop.followed
    (followed-stopped es c.loop-at.at (c.args.to - c.loop-at.at) t c.loop-at.log (c.is_stopped.ensures.is ∙ ap not c.if-is_stopped.true) (c.is_full.ensures.room c.if-is_full.false))

pub follow_quiet-requires-clause-runs : goal.follow_quiet-requires-clause-runs
follow_quiet-requires-clause-runs c =
    ap (λ (x : State). x.cpu.stop) c.take_inputs_at-next.ensures.state
    ∙ ap (λ (p : CpuState). p.stop) (feed-cpu c.args.events.now c.loop-at.at c.loop-at.self.state)
    ∙ c.is_stopped.ensures.runs c.if-is_stopped.false

pub follow_quiet-requires-clause-stack : goal.follow_quiet-requires-clause-stack
follow_quiet-requires-clause-stack c =
    let loop = c.loop-at.invariant in
    (stack-on c.args.events.now c.args.from c.loop-at.at _ c.args.log.now c.loop-at.log loop.reached.0 loop.bounds loop.followed c.requires.stack c.requires.earlier).0

pub follow_quiet-requires-clause-earlier : goal.follow_quiet-requires-clause-earlier
follow_quiet-requires-clause-earlier c =
    let loop = c.loop-at.invariant in
    (stack-on c.args.events.now c.args.from c.loop-at.at _ c.args.log.now c.loop-at.log loop.reached.0 loop.bounds loop.followed c.requires.stack c.requires.earlier).1

pub returns-in-Err-clause-err : goal.returns-in-Err-clause-err
returns-in-Err-clause-err c =
    let loop = c.loop-at.invariant in
    let es : List Event = c.args.events.now in
    let at : ℕ = c.loop-at.at in
    let t : State = c.loop-at.self.state in
    let taken = c.take_inputs_at-next.ensures.state in
    let quiet : IsQuiet es at c.quiet_until-end.result = λ k d low high.
    fed-between es c.take_inputs_at-next.result (at + 1) c.quiet_until-end.result k d c.take_inputs_at-next.ensures.next c.quiet_until-end.ensures.next (omega arith) high in
    quiet-fault es _ at _ c.in-Err.fault.at _ _ _ loop.reached.0 (taken ∙ ap (λ (x : State). feed es at x) loop.state) quiet c.in-Err.ensures.range.0 c.in-Err.ensures.range.1 c.in-Err.ensures.err

pub loop-at-preserved : goal.loop-at-preserved
loop-at-preserved c =
    let loop = c.loop-at.invariant in
    let es : List Event = c.args.events.now in
    let from : ℕ = c.args.from in
    let at : ℕ = c.loop-at.at in
    let next : ℕ = c.in-Ok.reached in
    let s : State = c.args.self.now.state in
    let t : State = c.loop-at.self.state in
    let further = c.in-Ok.ensures.further in
    let taken = c.take_inputs_at-next.ensures.state in
    let quiet : IsQuiet es at next = λ k d low high.
    fed-between es c.take_inputs_at-next.result (at + 1) c.quiet_until-end.result k d c.take_inputs_at-next.ensures.next c.quiet_until-end.ensures.next (omega arith) (omega (arith, high, further.1)) in
    let more : HasFollowed es at (next - at) t c.loop-at.log c.follow_quiet.new.log =
    followed-quiet es at next (next - at) t _ c.loop-at.log c.follow_quiet.new.log taken quiet (omega (arith, further.0)) c.in-Ok.ensures.followed in
    record {
      reached = (omega (arith, loop.reached.0, further.0), omega (arith, further.1, c.quiet_until-end.ensures.inside));
      state = quiet-whole es _ at next _ _ _ loop.reached.0 (taken ∙ ap (λ (x : State). feed es at x) loop.state) quiet further.0 c.in-Ok.ensures.state;
      followed = followed-on es from at next s t c.args.log.now c.loop-at.log c.follow_quiet.new.log loop.reached.0 (omega (arith, further.0)) loop.state loop.bounds loop.followed more;
      kept = record {
        owned = λ page h. c.in-Ok.ensures.kept.owned page (c.take_inputs_at-next.ensures.kept.owned page (loop.kept.owned page h));
        base = c.in-Ok.ensures.kept.base ∙ c.take_inputs_at-next.ensures.kept.base ∙ loop.kept.base;
      };
      reserved = c.in-Ok.ensures.reserved;
      within = c.in-Ok.ensures.within;
      bounds = bounds-then _ _ _ loop.bounds c.in-Ok.ensures.bounds;
    }
