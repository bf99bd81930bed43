use Rattle.std.proofs.Common.{◌<◌, ℕ}
use Rattle.std.specs.Prelude.{IsTrue}
use Rattle.risc_search.specs.Clauses.{begins}
use Rattle.risc_search.specs.inner.Concerns.{CoversFrom}
use Rattle.risc_search.proofs.concerns.Concerns.of.Given as goal

abbrev pub invariant-loop-index : goal.invariant-loop-index
invariant-loop-index l = (first : ℕ) → first < l.index → IsTrue (begins l.conditions first) → CoversFrom l.concerns l.conditions first
