use Rattle.std.proofs.Common.{◌≡◌, ◌∙◌, ◌<◌, None, ap, arith, length, sym}
use Rattle.std.proofs.lemmas.Result.{err_from_is_err_and}
use Rattle.json.specs.Json.{after_end_array}
use Rattle.oberon_session.specs.Draft.{page_of}
use Rattle.oberon_session.specs.Shape.{each}
use Rattle.oberon_session.specs.inner.Drafts.{page_view}
use Rattle.oberon_session.proofs.Members.{one-more-read, with_item-map}
use Rattle.oberon_session.proofs.Taking.{list-before, one-shorter, taken-all, taken-more, taken-refused}
use Rattle.oberon_session.proofs.page.pages_inside.Goals as goal

pub returns-in_err-item : goal.returns-in_err-item
returns-in_err-item c =
    let going : (after_end_array c.items.reader ≡ None) × (c.take_end_array.new.self ≡ c.items.reader) = grind arith in
    let from = err_from_is_err_and c.from_residual.result c.from_residual.ensures.1 in
    rw (from.1, from.2) (λ no.
    let wrong = c.in_err-item.ensures no in
    (wrong.0, taken-refused _ _ c.items.invariant.0 _ c.items.invariant.1 going.0 (rw (← going.1) wrong.1)))

pub items-smaller : goal.items-smaller
items-smaller c =
    let going : (after_end_array c.items.reader ≡ None) × (c.take_end_array.new.self ≡ c.items.reader) = grind arith in
    let one = c.in_ok-item.ensures in
    let less : length c.page.new.reader < length c.items.reader = rw (← going.1) (one-shorter _ _ _ one.0 one.1) in
    less

pub items-preserved : goal.items-preserved
items-preserved c =
    let going : (after_end_array c.items.reader ≡ None) × (c.take_end_array.new.self ≡ c.items.reader) = grind arith in
    let one = c.in_ok-item.ensures in (
      _,
      taken-more _ _ c.items.invariant.0 _ c.items.invariant.1 _ one.0 going.0 (rw (← going.1) one.1),
      one-more-read page_of c.items.invariant.0 one.0 _ _ _ (with_item-map page_view _ _ _ c.in_ok-found.ensures.ok) c.items.invariant.2 one.2,
    )

pub returns : goal.returns
returns c =
    let all = taken-all _ _ c.items.invariant.0 _ c.items.invariant.1 _ (grind arith) in
    (_, all, c.items.invariant.2 ∙ ap (each page_of) (sym (list-before c.items.invariant.0)))
