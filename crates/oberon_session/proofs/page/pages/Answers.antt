use Rattle.std.proofs.Common.{◌∙◌, ap, sym}
use Rattle.oberon_session.specs.Draft.{pages_of}
use Rattle.oberon_session.proofs.Members.{no-pages-of}
use Rattle.oberon_session.proofs.Taking.{not-array, takes-array, takes-weaker}
use Rattle.oberon_session.specs.declared.head.Head.TheVariants as head
use Rattle.oberon_session.specs.inner.Taken.{IsAfterHead}
use Rattle.oberon_session.proofs.page.pages.Goals as goal

pub returns-in-Array : goal.returns-in-Array
returns-in-Array c =
    let at : IsAfterHead c.args.depth c.args.reader.now c.take_head.new.reader (head.Array c.in-Array.inside) = rw c.in-Array.is at c.in_ok-head.ensures.ok in
    takes-weaker _ _ _ _ _ (λ json found h. h.2 ∙ sym (ap pages_of h.1)) (takes-array c.take_head.new.reader _ _ _ _ _ at.0 _ at.1 c.pages_inside.ensures)

pub returns-in_default : goal.returns-in_default
returns-in_default c =
    takes-weaker _ _ _ _ _ (λ json found h. rw h.1 (no-pages-of json (not-array json _ h.0 c.in_default.not-Array)))
    (c.pass_other.ensures c.args.depth c.args.reader.now c.in_ok-head.ensures.ok)
