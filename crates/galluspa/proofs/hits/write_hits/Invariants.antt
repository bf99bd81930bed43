use Rattle.std.proofs.Common.{◌≡◌, ◌<◌, ◌≤◌, ℕ, get_or, length}
use Rattle.galluspa.specs.declared.conditions.RawHit.{RawHit}
use Rattle.galluspa.proofs.HitLemmas.{IsWrittenAt}
use Rattle.galluspa.proofs.hits.write_hits.Given as goal

abbrev pub invariant-loop-index : goal.invariant-loop-index
invariant-loop-index l = record {
  count : length l.out ≡ length l.initial.out;
  each : (k : ℕ) (e : RawHit) → k < l.index → IsWrittenAt l.hits k (get_or l.out k e);
  rest : (k : ℕ) (e : RawHit) → length l.hits ≤ k → get_or l.out k e ≡ get_or l.initial.out k e;
}
