use Rattle.std.proofs.Common.{◌≡◌, ℕ, [], ◌∷◌, ◌++◌, List, length, sym, ap, ◌∙◌, subst, arith, append-nil, append_assoc, min, cond}
use Rattle.std.proofs.lemmas.List.{nil_from_length}
use Rattle.atomic_table.specs.Table.{Me}
use Rattle.oberon_claims.specs.declared.book.View.{View}
use Rattle.oberon_claims.specs.declared.book.Plan.{Plan}
use Rattle.oberon_claims.specs.Pass.{BookId, PassRecord}
use Rattle.oberon_claims.specs.Counts.{once_below}
use Rattle.oberon_claims.specs.inner.Steps.{joined_view}
use Rattle.oberon_claims.specs.inner.Book.{own_view, IsLegal}
use Rattle.oberon_claims.proofs.Shares.{may_take_in, closes}
use Rattle.oberon_claims.proofs.Gathers.{gathered, gathered_snoc, first_of, next_of, taken_once, all_jobs_taken, least_reported_is, shown_all_reported, shown_not_below}
use Rattle.oberon_claims.proofs.claims.Claims.finish.Goals as goal

pub loop-pass-init : goal.loop-pass-init
loop-pass-init c =
    let i = c.self.invariant in
    let o = c.into_seat-own.ensures in
    let is = c.self.view_is in
    let jobs = i.0 ∙ ap (λ (b : BookId). b.jobs) is in
    let workers = ap (λ (b : BookId). b.workers) is in
    let views = sym o.view.0 ∙ i.4 in (
      o.table ∙ i.3,
      first_of views ∙ (λ k. own_view record { jobs = jobs k; workers = workers k } 0),
      c.into_iter-pass-iterator.ensures.into_iter_gives.0,
    )

pub join_seat-requires : goal.join_seat-requires
join_seat-requires c =
    let i = c.loop-pass.invariant in
    let step = c.in-Some.ensures.steps in
    let at = ap (λ (l : List PassRecord). c.loop-pass.yielded ++ l) (sym step.0) ∙ i.2 in
    let book = next_of (λ (p : PassRecord). p.book ≡ c.args.self) c.args.passes.items c.loop-pass.yielded c.in-Some.pass c.next.new.self.rest.items at c.requires.book in
    let same = ap (λ (p : PassRecord). p.book) c.pass.view_is ∙ book ∙ sym c.self.view_is in
    (i.0, ap (λ (b : BookId). b.table) same, c.pass.invariant.0, omega arith, may_take_in _ _ _ _ _)

pub loop-pass-preserved : goal.loop-pass-preserved
loop-pass-preserved c =
    let i = c.loop-pass.invariant in
    let step = c.in-Some.ensures.steps in
    let j = c.join_seat.ensures in
    let p = c.pass.invariant in
    let is = c.pass.view_is in (
      j.0 ∙ i.0,
      ap (λ (m : Me ℕ View). m.0) j.2 ∙ ap (λ (v : View). joined_view v c.pass.inside.seat.me.0) i.1
          ∙ gathered_snoc c.args.self c.loop-pass.yielded c.in-Some.pass c.pass.inside.seat.me.0 record {
            taken = ap (λ (h : PassRecord). h.taken) is;
            reported = ap (λ (h : PassRecord). h.reported) is;
            shown = ap (λ (h : PassRecord). h.shown) is;
            ends = p.2 ∙ ap (λ (h : PassRecord). cond h.ended 1 0) is;
            passes = p.1;
          },
      append_assoc c.loop-pass.yielded (c.in-Some.pass ∷ []) _ ∙ ap (λ (l : List PassRecord). c.loop-pass.yielded ++ l) (sym step.0) ∙ i.2,
    )

pub close_with-closed-requires : goal.close_with-closed-requires
close_with-closed-requires c = c.loop-pass.invariant.0

pub free-requires : goal.free-requires
free-requires c = λ k in_range. (let n = c.close_with-closed.ensures.counts in let i = c.self.invariant in absurd (omega arith))

whole : (c : goal.After-segment_of) → IsLegal c.self.inside.table.shared.key.jobs (length c.args.passes.items) c.word-next.result c.word-least.result (gathered c.args.self c.args.passes.items ∷ [])
whole c =
    let i = c.loop-pass.invariant in
    let e = c.close_with-closed.ensures.values.2 in
    let plan : Plan = c.self.inside.table.shared.key in
    let none = nil_from_length c.loop-pass.pass-iterator.rest.items (sym c.loop-pass.pass-iterator.rest.ok.0 ∙ c.in-None.ensures.steps.0) in
    let all : c.loop-pass.yielded ≡ c.args.passes.items = sym (append-nil c.loop-pass.yielded) ∙ ap (λ (l : List PassRecord). c.loop-pass.yielded ++ l) (sym none) ∙ i.2 in
    let view = i.1 ∙ ap (gathered c.args.self) all in
    let workers : length c.args.passes.items ≡ plan.workers = sym c.args.passes.ok.0 ∙ c.requires.all ∙ ap (λ (b : BookId). b.workers) (sym c.self.view_is) in
    subst (λ (p : ℕ × View). IsLegal plan.jobs p.0 c.word-next.result c.word-least.result (p.1 ∷ [])) (λ k. (sym workers k, view k))
    (closes plan _ _ _ c.word-next.result c.word-least.result e.0 e.1.0 e.1.1 e.2 c.word-next.ensures c.word-least.ensures (ap (λ (v : View). v.passes) view ∙ workers))

capped_is : (c : goal.After-segment_of) → c.jobs_taken.result ≡ min c.word-next.result c.self.inside.table.shared.key.jobs
capped_is c = c.jobs_taken.ensures ∙ ap (min c.word-next.result) (sym c.self.invariant.0)

pub returns-clause-jobs : goal.returns-clause-jobs
returns-clause-jobs c = let e = c.jobs_taken.ensures in let j = ap (λ (b : BookId). b.jobs) c.self.view_is in omega arith

pub returns-clause-taken : goal.returns-clause-taken
returns-clause-taken c = λ x. taken_once c.args.self _ _ _ _ (whole c) x ∙ ap (once_below x) (sym (capped_is c))

pub returns-clause-whole : goal.returns-clause-whole
returns-clause-whole c = λ ended. capped_is c ∙ all_jobs_taken c.args.self _ _ _ _ (whole c) ended ∙ c.self.invariant.0 ∙ ap (λ (b : BookId). b.jobs) c.self.view_is

pub returns-clause-least : goal.returns-clause-least
returns-clause-least c = least_reported_is c.args.self _ _ _ _ (whole c) _ c.segment_of.ensures

pub returns-clause-shown : goal.returns-clause-shown
returns-clause-shown c = shown_all_reported c.args.self _ _ _ _ (whole c)

pub returns-clause-not_below : goal.returns-clause-not_below
returns-clause-not_below c = shown_not_below _ _ _ (returns-clause-least c) (returns-clause-shown c)
