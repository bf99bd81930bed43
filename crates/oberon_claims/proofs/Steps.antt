-- Each step that a seat makes keeps the invariant of the table, and so is allowed.
use Rattle.std.proofs.Common.{◌≡◌, ℕ, ◌+◌, ◌%◌, ◌^◌, ◌<◌, ◌≤◌, List, length, min, sym, refl, ◌∙◌, subst, arith, lt_of_not-le}
use Rattle.std.specs.Prelude.{slice_index}
use mathlib.Core.Logic.{dite}
use native.Mathlib.Decide.{dec_le}
use mathlib.Core.Option.{Option, none}
use Rattle.atomic_table.specs.Table.{Me, Allows, keeps, step}
use Rattle.atomic_table.proofs.Lists.{set_again}
use Rattle.oberon_claims.specs.declared.book.View.{View}
use Rattle.oberon_claims.specs.declared.book.Plan.{Plan}
use Rattle.oberon_claims.specs.inner.Book.{nothing, IsLegal, Kept}
use Rattle.oberon_claims.specs.inner.Steps.{view_with_job, view_with_end, view_with_reported, view_with_shown, Takes, Looks, Tells}
use Rattle.oberon_claims.proofs.Keeps.{set_next, set_least, next_small, taken_below, take_job, take_end, reported_least, shown_least, reported_none, shown_none, show_least, report}

kept : (plan : Plan) (words : List ℕ) (homes : List (Option ℕ)) (views : List View) (next least : ℕ) → length words ≡ 2 → slice_index words 0 ≡ next → slice_index words 1 ≡ least
    → IsLegal plan.jobs plan.workers next least views → Kept plan record { words = words; homes = homes; views = views }
kept plan words homes views next least two n l legal = (two, subst (λ (p : ℕ × ℕ). IsLegal plan.jobs plan.workers p.0 p.1 views) (λ i. (sym n i, sym l i)) legal)

pub may_take : (plan : Plan) (slots id : ℕ) (me : Me ℕ View) → me.0.jobs ≡ plan.jobs → me.0.ends ≡ 0 → 0 < me.0.passes
    → Allows (Kept plan) slots id me 0 (λ n. (n + 1) % 2 ^ 64) (Takes (step slots 0 1 0 none) me)
may_take plan slots id me jobs unmarked active s book long at fits =
    let v = me.0 in
    let next = slice_index s.words 0 in
    let least = slice_index s.words 1 in
    let small = next_small plan.jobs plan.workers next least s.views id v at book.1 in
    let wrap : (next + 1) % 2 ^ 64 ≡ next + 1 = omega arith in
    let ws = set_next s.words ((next + 1) % 2 ^ 64) book.0 in
    dite (dec_le plan.jobs next)
    (λ (past : plan.jobs ≤ next). (
      view_with_end v,
      keeps,
      tt,
      kept plan _ s.homes _ (next + 1) least ws.0 (ws.1 ∙ wrap) ws.2 (take_end plan.jobs plan.workers next least s.views id v at book.1 past unmarked active),
      (refl, (λ free. absurd (omega arith)), (λ _. refl)),
    ))
    (λ free. (
      view_with_job v next,
      keeps,
      tt,
      kept plan _ s.homes _ (next + 1) least ws.0 (ws.1 ∙ wrap) ws.2 (take_job plan.jobs plan.workers next least s.views id v at book.1 (lt_of_not-le free) active),
      (refl, (λ _. (refl, λ k d in_range. taken_below plan.jobs plan.workers next least s.views id v at book.1 k d in_range)), (λ past. absurd (free (omega arith)))),
    ))

pub may_look : (plan : Plan) (slots id : ℕ) (me : Me ℕ View) → 0 < me.0.passes
    → Allows (Kept plan) slots id me 1 (λ n. n) (Looks (step slots 1 0 0 none) me)
may_look plan slots id me active s book long at fits =
    let v = me.0 in
    let next = slice_index s.words 0 in
    let least = slice_index s.words 1 in
    let ws = set_least s.words least book.0 in
    dite (dec_le nothing least)
    (λ (none : nothing ≤ least). (
      v,
      keeps,
      tt,
      kept plan _ s.homes _ next least ws.0 ws.1 ws.2 (subst (IsLegal plan.jobs plan.workers next least) (sym (set_again s.views id v at)) book.1),
      (refl, (λ some_reported. absurd (omega arith)), (λ _. (refl, reported_none plan.jobs plan.workers next least s.views id v at book.1 none, shown_none plan.jobs plan.workers next least s.views id v at book.1 none))),
    ))
    (λ some_reported. (
      view_with_shown v least,
      keeps,
      tt,
      kept plan _ s.homes _ next least ws.0 ws.1 ws.2 (show_least plan.jobs plan.workers next least s.views id v at book.1 (lt_of_not-le some_reported) active),
      (
        refl,
        (λ _. (refl, (λ k d in_range. reported_least plan.jobs plan.workers next least s.views id v at book.1 k d in_range), (λ k d in_range. shown_least plan.jobs plan.workers next least s.views id v at book.1 k d in_range))),
        (λ none. absurd (some_reported none)),
      ),
    ))

pub may_tell : (plan : Plan) (slots id : ℕ) (me : Me ℕ View) (x : ℕ) → x < nothing → 0 < me.0.passes
    → Allows (Kept plan) slots id me 1 (λ n. min n x) (Tells (step slots 1 x 0 none) me)
may_tell plan slots id me x small active s book long at fits =
    let v = me.0 in
    let next = slice_index s.words 0 in
    let least = slice_index s.words 1 in
    let ws = set_least s.words (min least x) book.0 in (
      view_with_reported v x,
      keeps,
      tt,
      kept plan _ s.homes _ next (min least x) ws.0 ws.1 ws.2 (report plan.jobs plan.workers next least s.views id v at book.1 x small active),
      (refl, refl),
    )
