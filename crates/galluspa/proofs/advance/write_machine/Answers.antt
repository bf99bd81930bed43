use Rattle.std.proofs.Common.{◌≡◌, ◌∙◌, ℕ, List, ap, length, sym}
use Rattle.risc_model.specs.MachineState.{State}
use Rattle.galluspa.specs.Raw.{cpu_of, devices_of, state_of}
use Rattle.galluspa.specs.declared.raw.RawState.{RawState}
use Rattle.galluspa.proofs.WordLemmas.{slots_inside, with_pages-delta}
use Rattle.galluspa.proofs.advance.write_machine.Goals as goal

-- a state is equal to another part by part
of_parts : (state : RawState) (words : List ℕ) (s : State) → cpu_of state ≡ s.cpu → devices_of state ≡ s.devices → words ≡ s.words → state_of state words ≡ s
of_parts state words s cpu devices same = λ i. record { cpu = cpu i; devices = devices i; words = same i }

pub write_delta-requires-clause-slots : goal.write_delta-requires-clause-slots
write_delta-requires-clause-slots c = slots_inside _ _ c.in_ok-cpu.delta.changed.items c.in_ok-cpu.ensures.differences

pub returns-clause-state : goal.returns-clause-state
returns-clause-state c =
    let base = c.requires.base in
    let whole = ap (λ (l : List ℕ). length l) (sym c.memory.ensures.words) ∙ c.owned-owned.ensures.memory.words in
    let words = c.write_delta.ensures
    ∙ with_pages-delta c.args.words.now _ c.in_ok-cpu.delta.changed.items c.requires.words whole (rw base at c.in_ok-cpu.ensures.delta) (rw base at c.in_ok-cpu.ensures.differences) in
    of_parts c.state_of.result _ _ (c.state_of.ensures.cpu ∙ c.in_ok-cpu.ensures.cpu) (c.state_of.ensures.devices ∙ c.in_ok-cpu.ensures.devices) words

pub returns-clause-written : goal.returns-clause-written
returns-clause-written c =
    let base = c.requires.base in
    let whole = ap (λ (l : List ℕ). length l) (sym c.memory.ensures.words) ∙ c.owned-owned.ensures.memory.words in
    let words = c.write_delta.ensures
    ∙ with_pages-delta c.args.words.now _ c.in_ok-cpu.delta.changed.items c.requires.words whole (rw base at c.in_ok-cpu.ensures.delta) (rw base at c.in_ok-cpu.ensures.differences) in
    record {
      is_whole = record {
        whole = ap (λ (l : List ℕ). length l) words ∙ whole;
        cpu = c.state_of.ensures.cpu_range;
        devices = c.state_of.ensures.devices_range;
      };
      padded = c.state_of.ensures.padded;
    }
