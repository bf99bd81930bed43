use Rattle.std.proofs.Common.{◌∙◌, ◌+◌, ◌-◌, ap, arith, sym}
use Rattle.risc_model.specs.Exec.{exec}
use Rattle.risc_model.specs.MachineState.{State}
use Rattle.risc_model.specs.Replay.{feed}
use Rattle.risc_search.proofs.ConcernLemmas.{ignored-none, ignored-state}
use Rattle.risc_model.proofs.RunLemmas.{run_of-more, run_of-none}
use Rattle.risc_search.proofs.IdleLemmas.{passed-more}
use Rattle.risc_search.proofs.StepLemmas.{one-run}
use Rattle.risc_search.proofs.search.Search.advance.Goals as goal

pub returns-then-at-due-clause-state : goal.returns-then-at-due-clause-state
returns-then-at-due-clause-state c = c.in_ok-met.ensures.state ∙ sym (one-run c.args.self.now.inputs.now c.args.at c.args.machine.now.state)

pub returns-then-at-due-clause-passed : goal.returns-then-at-due-clause-passed
returns-then-at-due-clause-passed c =
    let es = c.args.self.now.inputs.now in
    let at = c.args.at in
    let s = c.args.machine.now.state in
    passed-more c.args.self.now.conditions.now es at at 0 s s c.in_ok-met.met (omega arith) (sym (run_of-none es at (at - at) s (omega arith))) (λ n after inside. absurd (omega arith)) c.in_ok-met.ensures.met

pub returns-then-steps-room-clause-state : goal.returns-then-steps-room-clause-state
returns-then-steps-room-clause-state c =
    ignored-state c.args.self.now.inputs.now c.args.at c.args.due c.run_unwatched-steps.result c.args.machine.now.state c.run_unwatched-steps.new.self.state c.requires.quiet (omega (arith, c.run_unwatched-steps.ensures.inside, c.room-room.ensures.inside)) c.run_unwatched-steps.ensures.state

pub returns-then-steps-room-clause-passed : goal.returns-then-steps-room-clause-passed
returns-then-steps-room-clause-passed c =
    ignored-none c.args.self.now.conditions.now c.args.self.now.concerns c.args.self.now.inputs.now c.args.at c.args.due c.run_unwatched-steps.result c.args.machine.now.state c.requires.concerns c.requires.quiet (omega (arith, c.run_unwatched-steps.ensures.inside, c.room-room.ensures.inside)) c.run_unwatched-steps.ensures.unwatched

pub returns-clause-state : goal.returns-clause-state
returns-clause-state c =
    let es = c.args.self.now.inputs.now in
    let at = c.args.at in
    let s = c.args.machine.now.state in
    let t = c.run_unwatched-steps.new.self.state in
    let steps = c.run_unwatched-steps.result in
    let unwatched = ignored-state es at c.args.due steps s t c.requires.quiet (omega (arith, c.run_unwatched-steps.ensures.inside, c.room-room.ensures.inside)) c.run_unwatched-steps.ensures.state in
    c.in_ok-met-2.ensures.state ∙ ap (λ (x : State). (exec (feed es (at + steps) x)).0) unwatched ∙ sym (run_of-more es at (at + steps) s (omega arith))

pub returns-clause-passed : goal.returns-clause-passed
returns-clause-passed c =
    let es = c.args.self.now.inputs.now in
    let at = c.args.at in
    let s = c.args.machine.now.state in
    let t = c.run_unwatched-steps.new.self.state in
    let steps = c.run_unwatched-steps.result in
    let unwatched = ignored-state es at c.args.due steps s t c.requires.quiet (omega (arith, c.run_unwatched-steps.ensures.inside, c.room-room.ensures.inside)) c.run_unwatched-steps.ensures.state in
    let none = ignored-none c.args.self.now.conditions.now c.args.self.now.concerns es at c.args.due steps s c.requires.concerns c.requires.quiet (omega (arith, c.run_unwatched-steps.ensures.inside, c.room-room.ensures.inside)) c.run_unwatched-steps.ensures.unwatched in
    passed-more c.args.self.now.conditions.now es at (at + steps) 0 s t c.in_ok-met-2.met (omega arith) unwatched none c.in_ok-met-2.ensures.met
