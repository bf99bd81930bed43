use Rattle.std.proofs.Common.{sym, ap, ◌∙◌, arith}
use Rattle.oberon_claims.specs.Pass.{BookId, PassRecord}
use Rattle.oberon_claims.proofs.Steps.{may_tell}
use Rattle.oberon_claims.proofs.claims.Claims.tell.Goals as goal

pub fetch_min-requires : goal.fetch_min-requires
fetch_min-requires c =
    let i = c.self.invariant in
    let p = c.pass.invariant in
    let same = ap (λ (h : PassRecord). h.book) c.pass.view_is ∙ c.requires.book ∙ sym c.self.view_is in
    (ap (λ (b : BookId). b.table) same, omega arith, may_tell _ _ _ _ _ (omega (arith, c.from.ensures, c.ranges.segment.fits)) (omega arith))

pub returns : goal.returns
returns c = search arith
