use Rattle.std.proofs.Common.{refl}
use Rattle.std.proofs.lemmas.Result.{err_from_is_err_and}
use Rattle.oberon_session.proofs.value.pass_other.Goals as goal

pub returns-in_err-finish : goal.returns-in_err-finish
returns-in_err-finish g c =
    let from = err_from_is_err_and c.from_residual.result c.from_residual.ensures.1 in
    rw (from.1, from.2) (λ depth ts at. c.in_err-finish.ensures depth ts at)

pub returns : goal.returns
returns g c = λ depth ts at.
    let one = c.in_ok-finish.ensures depth ts at in
    (one.0, one.1, (one.2, refl))
