use Rattle.std.proofs.Common.{◌∙◌, ◌-◌, ℕ, ap, subst, sym}
use Rattle.risc_model.specs.MachineState.{State}
use Rattle.risc_model.specs.Replay.{run_of}
use Rattle.risc_search.specs.Hits.{AreFirstHits}
use Rattle.galluspa.specs.Raw.{state_of}
use Rattle.galluspa.proofs.hits.hits_of_machine.Goals as goal

pub returns-clause-hits : goal.returns-clause-hits
returns-clause-hits c =
    let es = c.args.inputs.now in
    let from = c.args.state.now.count in
    let hits = c.in_ok-found.found.list.items in
    let next = c.in_ok-found.found.next in
    let found = c.in_ok-found.ensures in
    let done = c.in_ok-write_machine.ensures in
    record {
      hits_are = subst (λ (n : ℕ). AreFirstHits c.args.conditions.now es from c.args.to (state_of c.args.state.now c.args.words.now) c.args.room hits n) (sym done.count)
          (subst (λ (s : State). AreFirstHits c.args.conditions.now es from c.args.to s c.args.room hits next) c.requires.state found.hits);
      state_is = done.state ∙ found.state ∙ ap (λ (s : State). run_of es from (next - from) s) c.requires.state ∙ ap (λ (n : ℕ). run_of es from (n - from) (state_of c.args.state.now c.args.words.now)) (sym done.count);
      written = done.written;
    }
