use Rattle.std.proofs.Common.{arith}
use Rattle.risc_search.proofs.HitLemmas.{hits-append, hits-from}
use Rattle.oberon_past.specs.Run.{state_at}
use Rattle.oberon_past.proofs.Searches.{first-rest, last-rest, state-between}
use Rattle.oberon_past.proofs.laws.search_law.Goals as goal

pub returns : goal.returns
returns c = λ run conditions from at to start before after.
    let s = state_at run from in
    let on = state-between run from at start before in (
      λ hit searched rest. first-rest conditions run.inputs s from at to (state_at run at) hit before on searched.2 rest,
      λ hit searched rest. last-rest conditions run.inputs s from at to hit after searched.2 rest,
      λ xs ys first second.
          hits-append conditions run.inputs from s from at to xs ys before after first
          (hits-from conditions run.inputs from at s (state_at run at) at to ys before (omega arith) on second),
    )
