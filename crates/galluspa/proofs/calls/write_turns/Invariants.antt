use Rattle.std.proofs.Common.{◌≡◌, ◌≤◌, ℕ, map, take, drop}
use Rattle.galluspa.specs.Calls.{raw_turn}
use Rattle.galluspa.proofs.calls.write_turns.Given as goal

abbrev pub invariant-loop-index : goal.invariant-loop-index
invariant-loop-index l = record {
  front : take l.index l.out ≡ map raw_turn (take l.index l.turns);
  rest : (n : ℕ) → l.index ≤ n → drop n l.out ≡ drop n l.fn.out;
}
