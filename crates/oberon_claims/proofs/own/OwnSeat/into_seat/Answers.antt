use Rattle.std.proofs.Common.{◌≡◌, List, sym, ap, ◌∙◌}
use mathlib.Core.Option.{Option, some-injective}
use lib.ListN.{get_elem?}
use Rattle.atomic_table.specs.declared.badge.Badge.{Badge}
use Rattle.oberon_claims.specs.declared.book.View.{View}
use Rattle.oberon_claims.specs.inner.Own.{OwnRecord}
use Rattle.oberon_claims.proofs.own.OwnSeat.into_seat.Goals as goal

-- the badge that is taken out is the badge that was put in
badge_is : (c : goal.After-free) → c.take-badge.result ≡ c.self.inside.table.shared.key.value
badge_is c =
    let f = c.close-closed.ensures.values.2 in
    some-injective _ _ (sym c.take-badge.ensures.value ∙ f.4 0 c.self.inside.table.shared.key.value (ap (λ (l : List (Option (Badge View))). get_elem? l 0) f.1))

views_are : (c : goal.After-free) → c.take-badge.result.views ≡ c.args.self.views
views_are c = ap (λ (b : Badge View). b.views) (badge_is c) ∙ ap (λ (o : OwnRecord). o.views) c.self.view_is

pub into_seat-requires : goal.into_seat-requires
into_seat-requires c = (c.requires.0, views_are c ∙ c.requires.1)

pub returns-clause-table : goal.returns-clause-table
returns-clause-table c = c.into_seat.ensures.0 ∙ ap (λ (b : Badge View). b.table_id) (badge_is c.before) ∙ ap (λ (o : OwnRecord). o.table) c.self.view_is

pub returns-clause-view : goal.returns-clause-view
returns-clause-view c = let e = c.into_seat.ensures in (sym (views_are c.before) ∙ e.2, e.3)
