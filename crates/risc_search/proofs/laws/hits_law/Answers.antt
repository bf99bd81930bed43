use Rattle.std.proofs.Common.{arith, refl}
use Rattle.risc_search.proofs.HitLemmas.{hits-append, hits-from, hits-same}
use Rattle.risc_search.proofs.laws.hits_law.Goals as goal

pub returns : goal.returns
returns c = (
  λ conditions es from low high s xs ys first second. hits-same conditions es from low high s xs ys first second,
  λ conditions es from mid to s xs ys before after first second.
      hits-append conditions es from s from mid to xs ys before after first (hits-from conditions es from mid s _ mid to ys before (omega arith) refl second),
)
