use Rattle.std.proofs.Common.{◌≡◌, ◌∙◌, ℕ, List, Option, ap, arith, slice_get, sym}
use Rattle.std.proofs.lemmas.Result.{IfOk-weaker}
use Rattle.risc_model.specs.Exec.{exec}
use Rattle.risc_model.specs.MachineState.{State}
use Rattle.risc_model.specs.Replay.{feed}
use Rattle.risc_search.proofs.StepLemmas.{one-run, one-sent, quiet-feed, sent-first}
use Rattle.risc_search.proofs.effect.step.Goals as goal

pub returns-then-is_quiet-clause-done : goal.returns-then-is_quiet-clause-done
returns-then-is_quiet-clause-done c =
    let s = c.args.machine.now.state in
    IfOk-weaker c.step.result _ _ (λ sent did. ap (λ (x : State). exec x) (quiet-feed c.args.inputs.now c.args.at s (c.requires.quiet c.if-is_quiet.true)) ∙ did) c.step.ensures.exec

pub returns-clause-done : goal.returns-clause-done
returns-clause-done c =
    let es = c.args.inputs.now in
    let at = c.args.at in
    let s = c.args.machine.now.state in
    let state = c.in-Ok.ensures.state ∙ one-run es at s in
    let sent = sent-first c.run.new.sent.items _ _ (one-sent es at s _ _ c.new-sent.ensures.items c.in-Ok.ensures.sent) (c.copied.ensures ∙ c.first.ensures.value ∙ ap (λ (xs : List ℕ). slice_get xs 0) c.deref.ensures.value) in
    λ i. (sym state i, sym sent i)
