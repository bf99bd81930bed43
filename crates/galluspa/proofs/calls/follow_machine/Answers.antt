use Rattle.std.proofs.Common.{◌≡◌, ◌∙◌, ◌-◌, ℕ, List, ap, length, subst, sym}
use Rattle.risc_model.specs.MachineState.{State}
use Rattle.risc_model.specs.Replay.{run_of}
use Rattle.risc_model.specs.Turns.{IsFollowed}
use Rattle.galluspa.specs.Calls.{AreLeftOpen}
use Rattle.galluspa.specs.Raw.{cpu_of, devices_of, state_of}
use Rattle.galluspa.specs.declared.raw.RawState.{RawState}
use Rattle.galluspa.proofs.OpenLemmas.{left-open}
use Rattle.galluspa.proofs.WordLemmas.{slots_inside, with_pages-delta}
use Rattle.galluspa.proofs.calls.follow_machine.Goals as goal

-- a state is equal to another part by part
of_parts : (state : RawState) (words : List ℕ) (s : State) → cpu_of state ≡ s.cpu → devices_of state ≡ s.devices → words ≡ s.words → state_of state words ≡ s
of_parts state words s cpu devices same = λ i. record { cpu = cpu i; devices = devices i; words = same i }

pub write_delta-requires-clause-slots : goal.write_delta-requires-clause-slots
write_delta-requires-clause-slots c = slots_inside _ _ c.in_ok-cpu.delta.changed.items c.in_ok-cpu.ensures.differences

pub returns-clause-run : goal.returns-clause-run
returns-clause-run c =
    let es = c.args.inputs.now in
    let from : ℕ = c.args.state.now.count in
    let next : ℕ = c.in-Ok.reached in
    let log = c.args.log.now in
    let left = c.follow_calls.new.log in
    let s : State = state_of c.args.state.now c.args.words.now in
    let count = sym c.state_of.ensures.count in
    let F : State → ℕ → Type 0 = λ t n. IsFollowed log.limit es from c.args.to t log.calls.items log.room log.height left.turns.items left.calls.items n in
    let followed : F s next = subst (λ (t : State). F t next) c.requires.state c.in-Ok.ensures.followed in
    let ran = c.in-Ok.ensures.state ∙ ap (λ (t : State). run_of es from (next - from) t) c.requires.state ∙ ap (λ (n : ℕ). run_of es from (n - from) s) count in
    let base = c.in-Ok.ensures.kept.base ∙ c.requires.base in
    let whole = ap (λ (l : List ℕ). length l) (sym c.memory.ensures.words) ∙ c.owned-owned.ensures.memory.words in
    let words = c.write_delta.ensures
    ∙ with_pages-delta c.args.words.now _ c.in_ok-cpu.delta.changed.items c.requires.words whole (rw base at c.in_ok-cpu.ensures.delta) (rw base at c.in_ok-cpu.ensures.differences) in
    record {
      followed = subst (λ (n : ℕ). F s n) count followed;
      state_is = of_parts c.state_of.result _ _ (c.state_of.ensures.cpu ∙ c.in_ok-cpu.ensures.cpu) (c.state_of.ensures.devices ∙ c.in_ok-cpu.ensures.devices) words ∙ ran;
      written = record {
        is_whole = record {
          whole = ap (λ (l : List ℕ). length l) words ∙ whole;
          cpu = c.state_of.ensures.cpu_range;
          devices = c.state_of.ensures.devices_range;
        };
        padded = c.state_of.ensures.padded;
      };
      held = c.in-Ok.ensures.within;
      are_open = subst (λ (n : ℕ). AreLeftOpen log.limit n left.calls.items) count
          (left-open log.limit es from c.args.to s log.calls.items left.calls.items log.room log.height left.turns.items next followed c.requires.are_open);
    }
