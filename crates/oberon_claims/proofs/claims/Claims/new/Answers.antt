use Rattle.std.proofs.Common.{◌≡◌, ℕ, false, [], ◌∷◌, ◌++◌, replicate, ◌-◌, sym, ap, ◌∙◌, arith}
use Rattle.std.proofs.lemmas.List.{replicate_more}
use Rattle.atomic_table.specs.Table.{Me}
use Rattle.atomic_table.specs.Seated.{TableId}
use Rattle.oberon_claims.specs.declared.book.View.{View}
use Rattle.oberon_claims.specs.declared.book.Plan.{Plan}
use Rattle.oberon_claims.specs.inner.Steps.{view_with_one_less, fresh_view}
use Rattle.oberon_claims.specs.Pass.{BookId, PassRecord, fresh_pass}
use Rattle.oberon_claims.proofs.Shares.{may_hand_out_as, less_one}
use Rattle.oberon_claims.specs.inner.Book.{own_view}
use Rattle.oberon_claims.proofs.claims.Claims.new.Goals as goal

abbrev hand_of : TableId → View → PassRecord
hand_of table v = record { book = record { table = table; jobs = v.jobs; workers = v.workers }; taken = v.taken; reported = v.reported; shown = v.shown; ended = false }

pub loop-worker-init : goal.loop-worker-init
loop-worker-init c =
    let t = c.in_ok-table.ensures in
    let e : c.args.workers ≡ c.args.workers - 0 = omega arith in
    (t.2, ap (λ (m : Me ℕ View). m.1) t.4, ap (λ (m : Me ℕ View). m.0) t.4 ∙ ap (own_view record { jobs = c.args.jobs; workers = c.args.workers }) e, c.new-passes.ensures.items)

pub split_seat-seat-requires : goal.split_seat-seat-requires
split_seat-seat-requires c =
    let t = c.in_ok-table.ensures in
    let i = c.loop-worker.invariant in
    (i.0, omega (arith, t.0), may_hand_out_as _ _ _ _ (c.args.workers - c.loop-worker._worker) t.5 i.2 (omega arith))

pub loop-worker-preserved : goal.loop-worker-preserved
loop-worker-preserved c =
    let t = c.in_ok-table.ensures in
    let i = c.loop-worker.invariant in
    let s = c.split_seat-seat.ensures in
    let w : ℕ = c.loop-worker._worker in
    let plan : Plan = record { jobs = c.args.jobs; workers = c.args.workers } in
    let book : BookId = record { table = c.in_ok-table.table.shared.table_id; jobs = c.args.jobs; workers = c.args.workers } in
    let table = s.3 ∙ i.0 in
    let view = ap (λ (m : Me ℕ View). m.0) s.4 ∙ ap fresh_view i.2 in
    let hand : hand_of c.split_seat-seat.result.table_id c.split_seat-seat.result.me.0 ≡ fresh_pass book = λ k. hand_of (table k) (view k) in (
      s.0 ∙ i.0,
      ap (λ (m : Me ℕ View). m.1) s.2 ∙ i.1,
      ap (λ (m : Me ℕ View). m.0) s.2 ∙ ap view_with_one_less i.2 ∙ less_one plan c.args.workers w,
      c.in_ok-push.ensures.items ∙ (λ k. i.3 k ++ hand k ∷ []) ∙ replicate_more w (fresh_pass book),
    )

pub returns-clause-workers : goal.returns-clause-workers
returns-clause-workers c = ap (λ (p : Plan). p.workers) c.in_ok-table.ensures.5

pub returns-clause-passes : goal.returns-clause-passes
returns-clause-passes c =
    let workers = ap (λ (p : Plan). p.workers) c.in_ok-table.ensures.5 in
    let n : c.loop-worker._worker ≡ c.args.workers = omega arith in
    c.loop-worker.invariant.3 ∙ (λ k. replicate (n k) (fresh_pass record { table = c.in_ok-table.table.shared.table_id; jobs = c.args.jobs; workers = sym workers k }))

pub of_words-requires : goal.of_words-requires
of_words-requires c = search arith
