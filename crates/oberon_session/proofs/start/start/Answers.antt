use Rattle.std.proofs.Common.{Some, ap}
use Rattle.std.proofs.lemmas.Result.{err_from_is_err_and}
use Rattle.oberon_session.specs.declared.head.Head.TheVariants as head
use Rattle.oberon_session.specs.inner.Taken.{IsAfterHead}
use Rattle.oberon_session.proofs.Members.{no-start}
use Rattle.oberon_session.proofs.Taking.{not-object, object-read, object-refused, takes-weaker}
use Rattle.oberon_session.proofs.start.start.Goals as goal

pub returns-in_err-take_all-in-Object : goal.returns-in_err-take_all-in-Object
returns-in_err-take_all-in-Object c =
    let at : IsAfterHead c.args.depth c.args.reader.now c.take_head.new.reader (head.Object c.in-Object.inside) = rw c.in-Object.is at c.in_ok-head.ensures.ok in
    let from = err_from_is_err_and c.from_residual-in_err-take_all-in-Object.result c.from_residual-in_err-take_all-in-Object.ensures.1 in
    rw (from.1, from.2) (λ no.
    let wrong = c.in_err-take_all-in-Object.ensures no in
    (wrong.0, object-refused _ _ _ _ at.0 at.1 wrong.1))

pub returns-in_ok-take_all-in-Object : goal.returns-in_ok-take_all-in-Object
returns-in_ok-take_all-in-Object c =
    let at : IsAfterHead c.args.depth c.args.reader.now c.take_head.new.reader (head.Object c.in-Object.inside) = rw c.in-Object.is at c.in_ok-head.ensures.ok in
    let all = c.in_ok-take_all-in-Object.ensures in
    (_, object-read _ _ _ _ _ _ at.0 at.1 all.1, ap Some all.2)

pub returns-in_default : goal.returns-in_default
returns-in_default c =
    takes-weaker _ _ _ _ _ (λ json found h. rw h.1 (no-start json (not-object json _ h.0 c.in_default.not-Object)))
    (c.pass_other.ensures c.args.depth c.args.reader.now c.in_ok-head.ensures.ok)
