use Rattle.std.proofs.Common.{sym, ap, ◌∙◌, arith, Bool, cond}
use Rattle.oberon_claims.specs.Pass.{BookId, PassRecord}
use Rattle.oberon_claims.proofs.Steps.{may_take}
use Rattle.oberon_claims.proofs.claims.Claims.claim.Goals as goal

pub fetch_add-found-requires : goal.fetch_add-found-requires
fetch_add-found-requires c =
    let i = c.self.invariant in
    let p = c.pass.invariant in
    let same = ap (λ (h : PassRecord). h.book) c.pass.view_is ∙ c.requires.book ∙ sym c.self.view_is in
    let unmarked = p.2 ∙ ap (λ (b : Bool). cond b 1 0) c.if-pass.false in
    (ap (λ (b : BookId). b.table) same, omega arith, may_take _ _ _ _ (ap (λ (b : BookId). b.jobs) same ∙ sym i.0) unmarked (omega arith))

pub invariant_of-pass : goal.invariant_of-pass
invariant_of-pass c = search arith

pub invariant_of-pass-else-found-from : goal.invariant_of-pass-else-found-from
invariant_of-pass-else-found-from c = search arith

pub returns-then-found-from-clause-above : goal.returns-then-found-from-clause-above
returns-then-found-from-clause-above c = search arith
