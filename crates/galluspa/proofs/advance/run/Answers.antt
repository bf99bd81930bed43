use Rattle.std.proofs.Common.{arith}
use Rattle.std.proofs.lemmas.Result.{IfOk-weaker, IfErr-weaker}
use Rattle.galluspa.proofs.AdvanceLemmas.{no-run}
use Rattle.galluspa.proofs.advance.run.Goals as goal

pub returns-clause-run : goal.returns-clause-run
returns-clause-run c =
    IfOk-weaker c.run_parts.result _ _ (λ sent run. record {
      events = c.in_ok-inputs.inputs;
      are_events = c.in_ok-inputs.ensures;
      forward = omega (arith, c.if-to-state.false);
      count_is = run.count_is;
      state_is = run.state_is;
      sent_is = run.sent_is;
    }) c.run_parts.ensures.run

pub returns-clause-in_range : goal.returns-clause-in_range
returns-clause-in_range c =
    IfOk-weaker c.run_parts.result _ _ (λ _ _. record {
      is_whole = c.in-Some.ensures.whole;
      forward = omega (arith, c.if-to-state.false);
      in_order = (c.in_ok-inputs.inputs, c.in_ok-inputs.ensures);
    }) c.run_parts.ensures.run

pub returns-clause-refused : goal.returns-clause-refused
returns-clause-refused c =
    IfErr-weaker c.run_parts.result _ _ (λ refusal refused.
    no-run _ _ _ _ _ _ refusal
    (record { is_whole = c.in-Some.ensures.whole; forward = omega (arith, c.if-to-state.false); in_order = (c.in_ok-inputs.inputs, c.in_ok-inputs.ensures) })
    c.in_ok-inputs.ensures refused) c.run_parts.ensures.refused
