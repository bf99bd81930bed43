use Rattle.std.proofs.Common.{◌<◌, ℕ}
use Rattle.risc_search.specs.inner.Observed.{DiffersAt}
use Rattle.risc_search.proofs.stored_word.StoredWord.differs.Given as goal

abbrev pub invariant-loop-index : goal.invariant-loop-index
invariant-loop-index l = (k : ℕ) → k < l.index → ¬ (DiffersAt l.bytes l.mask l.self k)
