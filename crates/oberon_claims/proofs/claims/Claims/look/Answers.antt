use Rattle.std.proofs.Common.{sym, ap, ◌∙◌, arith}
use Rattle.oberon_claims.specs.Pass.{BookId, PassRecord}
use Rattle.oberon_claims.proofs.Steps.{may_look}
use Rattle.oberon_claims.proofs.claims.Claims.look.Goals as goal

pub load-requires : goal.load-requires
load-requires c =
    let i = c.self.invariant in
    let p = c.pass.invariant in
    let same = ap (λ (h : PassRecord). h.book) c.pass.view_is ∙ c.requires.book ∙ sym c.self.view_is in
    (ap (λ (b : BookId). b.table) same, omega arith, may_look _ _ _ _ (omega arith))

pub returns-clause-joins : goal.returns-clause-joins
returns-clause-joins c = search arith

pub returns-clause-none : goal.returns-clause-none
returns-clause-none c = search arith
