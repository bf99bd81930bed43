use Rattle.std.proofs.Common.{◌≡◌, ◌+◌, ◌<◌, ◌∙◌, ℕ, ap, arith, length, map, refl, sym, take}
use Rattle.std.specs.Prelude.{slice_index}
use Rattle.std.proofs.lemmas.Grind.{common_steps}
use Rattle.std.proofs.lemmas.List.{length-map, length_push}
use Rattle.oberon_session.proofs.PagesStored.{numbered-more, numbered-none}
use Rattle.oberon_session.proofs.Mapped.{at-mapped}
use Rattle.oberon_session.specs.Parts.{placed_view}
use Rattle.oberon_session.specs.Recorded.{first_stored}
use Rattle.oberon_session.specs.SessionParts.{slots_in}
use Rattle.oberon_session.specs.declared.digits.PlacedPage.{PlacedPage}
use Rattle.oberon_session.proofs.storing.store_first.Goals as goal

pub loop-page-init : goal.loop-page-init
loop-page-init c = record {
  pages = rw c.new-pool.ensures refl;
  count = rw c.new-pool.ensures refl;
  numbers = c.zeros-table.ensures ∙ sym (numbered-none (map placed_view c.args.pages.now));
}

pub loop-page-preserved : goal.loop-page-preserved
loop-page-preserved c =
    let pages = c.args.pages.now in
    let i : ℕ = c.loop-page.page-index in
    let lt : i < length pages = c.loop-page-test.true in
    let at : slice_index (slots_in (map placed_view pages)) i ≡ c.page-item.result.at =
    at-mapped (λ (page : _). page.at) placed_view pages i c.page-item.result lt ∙ sym (ap (λ (page : PlacedPage). page.at) c.page-item.is) in
    let pushed = ap length c.in_ok-push.ensures.ok ∙ length_push c.loop-page.pool c.page-item.result.page.words in
    let many : c.len.result ≡ i + 1 = omega (arith, c.len.ensures.count, pushed, c.loop-page.invariant.count) in
    record {
      pages = grind (arith, common_steps);
      count = sym c.len.ensures.count ∙ many;
      numbers = rw (c.set.ensures, many, c.loop-page.invariant.numbers) (numbered-more (map placed_view pages) i c.page-item.result.at (sym at));
    }

pub returns : goal.returns
unfolding first_stored
returns c =
    let end : c.loop-page.page-index ≡ length c.args.pages.now = omega arith in
    let all : c.loop-page.page-index ≡ length (map placed_view c.args.pages.now) = end ∙ sym (length-map c.args.pages.now placed_view) in
    let whole : take c.loop-page.page-index c.args.pages.now ≡ c.args.pages.now = grind (arith, common_steps) in
    rw (c.loop-page.invariant.pages, c.loop-page.invariant.numbers, whole, all) refl
