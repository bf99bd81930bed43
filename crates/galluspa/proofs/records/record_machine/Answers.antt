use Rattle.std.proofs.Common.{◌≡◌, ◌+◌, ◌∙◌, ℕ, List, suc, add-zero, ap, arith, length-set, refl, subst, sym}
use Rattle.risc_model.specs.declared.event.Event.{Event}
use Rattle.risc_model.specs.Exec.{exec}
use Rattle.risc_model.specs.InputOrder.{IsNextAt}
use Rattle.risc_model.specs.MachineState.{State}
use Rattle.risc_model.specs.Replay.{feed, run_of}
use Rattle.risc_model.proofs.RunLemmas.{run_of-none, run_of-suc}
use Rattle.risc_search.proofs.EffectLemmas.{effect-count}
use Rattle.galluspa.specs.Records.{IsRecord}
use Rattle.galluspa.specs.declared.records.RawRecord.{RawRecord}
use Rattle.galluspa.proofs.ClaimLemmas.{filled-more, kept-more}
use Rattle.galluspa.proofs.RecordedLemmas.{record-is}
use Rattle.galluspa.proofs.records.record_machine.Goals as goal

pub loop-index-init : goal.loop-index-init
loop-index-init c =
    let from : ℕ = c.args.from in
    let P : List Event → Type 0 = λ (es : List Event). IsNextAt es c.first_from-next.result (from + 0) in
    record {
      count = refl;
      state = sym (run_of-none c.args.inputs.now from 0 c.args.machine.now.state refl);
      base = refl;
      next = subst P c.events-events.ensures.events (rw add-zero c.first_from-next.ensures);
      each = λ i d h. absurd (omega arith);
      rest = λ i d h. refl;
    }

pub raw_record-requires : goal.raw_record-requires
raw_record-requires c =
    effect-count c.in-Ok.effect c.args.inputs.now (c.args.from + c.loop-index.index) c.loop-index.machine.state c.in-Ok.ensures.effect

pub loop-index-preserved : goal.loop-index-preserved
loop-index-preserved c =
    let so_far = c.loop-index.invariant in
    let es : List Event = c.args.inputs.now in
    let from : ℕ = c.args.from in
    let k : ℕ = c.loop-index.index in
    let s : State = c.args.machine.now.state in
    let m : State = c.loop-index.machine.state in
    let r : RawRecord = c.raw_record.result in
    let records : List RawRecord = c.loop-index.records in
    let P : List Event → Type 0 = λ (events : List Event). IsNextAt events c.inputs_after-end.result (from + k + 1) in
    let Q : ℕ → Type 0 = λ (n : ℕ). IsNextAt es c.inputs_after-end.result n in
    let R : State → Type 0 = λ (t : State). IsRecord r es (from + k) t in
    let here : from + k + 1 ≡ from + (k + 1) = omega arith in
    let is : IsRecord r es (from + k) m =
    record-is r c.state_of-state.result c.in-Ok.effect es (from + k) m c.raw_record.ensures.state c.raw_record.ensures.effect c.raw_record.ensures.plain
    c.state_of-state.ensures.count (c.state_of-state.ensures.cpu ∙ c.cpu.ensures.cpu) (c.state_of-state.ensures.devices ∙ c.devices.ensures)
    c.state_of-state.ensures.cpu_range c.state_of-state.ensures.devices_range c.state_of-state.ensures.padded c.in-Ok.ensures.effect in
    record {
      count = length-set records k r ∙ so_far.count;
      state = c.in-Ok.ensures.state
          ∙ ap (λ (t : State). (exec (feed es (from + k) t)).0) so_far.state
          ∙ sym (run_of-suc es from k s)
          ∙ ap (λ (n : ℕ). run_of es from n s) (let e : suc k ≡ k + 1 = omega arith in e);
      base = c.step_with_effect.ensures.kept.base ∙ so_far.base;
      next = subst Q here (subst P c.events-events.ensures.events c.inputs_after-end.ensures);
      each = filled-more (λ i x. IsRecord x es (from + i) (run_of es from i s)) records k r (omega (arith, so_far.count, c.loop-index-test.true)) (subst R so_far.state is) so_far.each;
      rest = kept-more c.args.records.now records k r so_far.rest;
    }

-- memory ran out in a step: the records before it are written
pub returns-in_default-clause-first : goal.returns-in_default-clause-first
returns-in_default-clause-first c = record {
  count = c.loop-index.index;
  each = c.loop-index.invariant.each;
  rest = c.loop-index.invariant.rest;
}
