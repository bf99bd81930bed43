use Rattle.std.proofs.Common.{◌∙◌, ℕ, List, ap, length, sym}
use Rattle.galluspa.proofs.WordLemmas.{slots_inside, with_pages-delta}
use Rattle.galluspa.proofs.records.move_to.Goals as goal

pub write_delta-requires-clause-slots : goal.write_delta-requires-clause-slots
write_delta-requires-clause-slots c = slots_inside _ _ c.in_ok-cpu.delta.changed.items c.in_ok-cpu.ensures.differences

pub returns-clause-moved : goal.returns-clause-moved
returns-clause-moved c =
    let base = c.requires.base in
    let whole = ap (λ (l : List ℕ). length l) (sym c.memory.ensures.words) ∙ c.owned-owned.ensures.memory.words in
    let words = c.write_delta.ensures
    ∙ with_pages-delta c.args.words.now _ c.in_ok-cpu.delta.changed.items c.requires.words whole (rw base at c.in_ok-cpu.ensures.delta) (rw base at c.in_ok-cpu.ensures.differences) in
    let cpu = c.state_of.ensures.cpu ∙ c.in_ok-cpu.ensures.cpu in
    let devices = c.state_of.ensures.devices ∙ c.in_ok-cpu.ensures.devices in
    record {
      count_is = c.state_of.ensures.count;
      state_is = λ i. record { cpu = cpu i; devices = devices i; words = words i };
      written = record {
        is_whole = record {
          whole = ap (λ (l : List ℕ). length l) words ∙ whole;
          cpu = c.state_of.ensures.cpu_range;
          devices = c.state_of.ensures.devices_range;
        };
        padded = c.state_of.ensures.padded;
      };
    }
