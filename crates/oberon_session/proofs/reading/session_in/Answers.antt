use Rattle.std.proofs.lemmas.Result.{IfErr-weaker}
use Rattle.std.specs.Prelude.{IfOk, Result, Ok, Err}
use Rattle.oberon_session.proofs.Table.{breaks-of, known-draft, newer-draft}
use Rattle.oberon_session.proofs.reading.session_in.Goals as goal

pub returns-then-draft-newest-clause-err : goal.returns-then-draft-newest-clause-err
returns-then-draft-newest-clause-err c =
    let found = c.in_ok-draft.ensures in
    (found.0, found.1, newer-draft c.args.newest found.0 _ found.2 c.if-draft-newest.true)

of-three : {T E : Type 0} {P Q R S : T → Type 0} (r : Result T E) → IfOk r P → IfOk r Q → IfOk r R → ((x : T) → P x → Q x → R x → S x) → IfOk r S
of-three (Ok x) p q s all = all x p q s
of-three (Err e) p q s all = tt

pub returns-clause-ok : goal.returns-clause-ok
returns-clause-ok c =
    let found = c.in_ok-draft.ensures in
    let draft = known-draft c.args.newest found.0 _ found.2 c.if-draft-newest.false in
    of-three c.session_of.result c.session_of.ensures.range c.session_of.ensures.order c.session_of.ensures.described
    (λ session range order described. (found.0, found.1, (_, draft, range, order, described)))

pub returns-clause-err : goal.returns-clause-err
returns-clause-err c =
    let found = c.in_ok-draft.ensures in
    IfErr-weaker c.session_of.result _ _ (breaks-of c.args.newest _ found.0 _ found.1 (known-draft c.args.newest found.0 _ found.2 c.if-draft-newest.false)) c.session_of.ensures.err
