use Rattle.std.proofs.Common.{◌∙◌, ap, arith, inr, sym}
use Rattle.oberon_past.proofs.Keyframes.{longer-same}
use Rattle.oberon_past.proofs.Staying.{stayed}
use Rattle.oberon_past.specs.Past.{PastParts}
use Rattle.oberon_past.proofs.past.Past.run.Goals as goal

pub returns-then-to-self-2-clause-ran : goal.returns-then-to-self-2-clause-ran
returns-then-to-self-2-clause-ran c =
    let end = ap (λ (p : PastParts). p.end) c.self.view_is in
    stayed c.args.self.now c.args.self.now (longer-same c.args.self.now) c.args.to c.args.room (omega (arith, end, c.if-to-self.false)) _ c.new.ensures.items
    (sym (c.if-to-self-2.true ∙ end))

pub returns-then-not-branch-clause-ran : goal.returns-then-not-branch-clause-ran
returns-then-not-branch-clause-ran c =
    let end = ap (λ (p : PastParts). p.end) c.self.view_is in
    let longer = c.in_ok-approach.ensures.longer in
    let before = c.if-to-self-2.false in
    stayed c.args.self.now c.approach-2.new.self longer c.args.to c.args.room (omega (arith, end, c.if-to-self.false)) _ c.new-then-not-branch.ensures.items
    (omega (arith, end, longer.end, c.if-to-self.false, before), inr (c.in_ok-approach.ensures.more c.if-not-branch.true))
