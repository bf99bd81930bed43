use Rattle.std.proofs.Common.{◌≡◌, ◌≢◌, ◌-◌, ◌∙◌, ℕ, List, Option, ap, arith, sym}
use Rattle.risc_model.specs.declared.event.Event.{Event}
use Rattle.risc_model.specs.Exec.{exec}
use Rattle.risc_model.specs.MachineState.{CpuState, State}
use Rattle.risc_model.specs.Replay.{feed}
use Rattle.risc_search.specs.Access.{next_access}
use Rattle.risc_search.specs.Effects.{accessed_by, next_word}
use Rattle.risc_search.proofs.EffectLemmas.{inputs-of}
use Rattle.risc_search.proofs.effect.step_with_effect.Goals as goal
use Rattle.risc_search.proofs.effect.step_with_effect.Goals.{then-cpu-eq0, else-cpu-eq0}

pub returns-clause-effect : goal.returns-clause-effect
returns-clause-effect c =
    let es = c.args.inputs.now in
    let at = c.args.at in
    let s = c.args.machine.now.state in
    let stop = ap (λ (cpu : CpuState). cpu.stop) c.cpu-2.ensures.cpu in
    record {
      word_is = c.next_word-word.ensures
          ∙ ap (λ (cpu : CpuState). next_word cpu c.memory.result.now.words) c.cpu.ensures.cpu
          ∙ ap (λ (words : List ℕ). next_word s.cpu words) c.memory.ensures.words;
      accessed_is = c.accessed_by-accessed.ensures ∙ ap (λ (events : List Event). accessed_by (feed events at s) (next_access s.cpu s.words)) c.events.ensures.events;
      sent_is = sym (ap (λ (o : State × Option ℕ). o.1) c.in_ok-sent.ensures.done);
      inputs_begin = c.requires.next;
      inputs_are = inputs-of es c.args.next c.args.end at c.if-cpu-eq0.inputs_count s c.requires.next c.requires.end (λ runs.
          elim c.if-cpu-eq0.branch [
            | then-cpu-eq0 w ↦ w.inputs_count-is
            | else-cpu-eq0 w ↦ absurd (w.if-cpu-eq0.false (stop ∙ runs))
          ]) (λ stops.
          elim c.if-cpu-eq0.branch [
            | then-cpu-eq0 w ↦ absurd (stops (sym stop ∙ w.if-cpu-eq0.true))
            | else-cpu-eq0 w ↦ w.inputs_count-is
          ]);
      inputs_within = elim c.if-cpu-eq0.branch [
        | then-cpu-eq0 w ↦ omega (arith, w.inputs_count-is, c.requires.next.inside, c.requires.end.inside)
        | else-cpu-eq0 w ↦ omega (arith, w.inputs_count-is, c.requires.next.inside)
      ];
    }
