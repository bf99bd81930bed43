use Rattle.std.proofs.Common.{◌<◌, ◌^◌, length-set, refl, ap, ◌∙◌}
use Rattle.std.proofs.lemmas.List.Elements.{All-set}
use Rattle.risc_pages.specs.declared.page.Page.{Page}
use Rattle.risc_pages.specs.declared.slot.Slot.TheVariants.{Owned}
use Rattle.risc_pages.proofs.slot.copy_on_write.Goals as goal

pub returns-clause-ok : goal.returns-clause-ok
returns-clause-ok c = record {
  own = Owned c.in_ok-own.own;
  items = c.put.ensures;
  owned = refl;
  content_is = ap (λ (z : Page). z.words) c.in_ok-own.ensures.ok;
}

pub invariant_of-page : goal.invariant_of-page
invariant_of-page c = record {
  whole = length-set c.args.base.now.words c.args.index c.args.word ∙ c.args.base.now.whole;
  fit = All-set (λ word. word < 2 ^ 32) c.args.base.now.words c.args.index c.args.word c.ranges.word.fits c.args.base.now.fit;
}
