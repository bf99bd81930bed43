use Rattle.std.proofs.Common.{◌≡◌, ◌<◌, ◌++◌, ◌∷◌, [], List, ℕ, length, get_or, sym, ap, ◌∙◌, subst, arith, length-append, append_assoc}
use Rattle.oberon_claims.specs.Pass.{PassRecord, fresh_pass}
use Rattle.std.proofs.lemmas.List.Elements.{All-push}
use Rattle.oberon_claims.proofs.Gathers.{next_of}
use Rattle.oberon_check.specs.Work.{DoneRecord, IsShareOf}
use Rattle.check_tests.proofs.tests.passes.work_in_turn.Goals as goal

pub work-requires-clause-fresh : goal.work-requires-clause-fresh
work-requires-clause-fresh c =
    let step = c.in-Some.ensures.steps in
    let at = ap (λ (l : List PassRecord). c.loop-pass.yielded ++ l) (sym step.0) ∙ c.loop-pass.invariant.rest in
    next_of (λ (p : PassRecord). p ≡ fresh_pass c.args.claims.now) _ _ _ _ at c.requires.fresh

pub loop-pass-preserved : goal.loop-pass-preserved
loop-pass-preserved c =
    let i = c.loop-pass.invariant in
    let step = c.in-Some.ensures.steps in
    let at = ap (λ (l : List PassRecord). c.loop-pass.yielded ++ l) (sym step.0) ∙ i.rest in
    let w = c.in_ok-share.ensures in
    let mine : IsShareOf c.args.r.now c.args.cut c.args.claims.now c.in_ok-share.share = record { recording_is = w.recording; cut_is = w.cut; book_is = w.book } in
    let p = c.in_ok-push.ensures.items in
    let l = length-append c.loop-pass.done.items (c.in_ok-share.share ∷ []) in
    let l' = length-append c.loop-pass.yielded (c.in-Some.pass ∷ []) in
    let l'' = ap length p in record {
      shares = subst (λ (ss : List DoneRecord). (k : ℕ) (d : DoneRecord) → k < length ss → IsShareOf c.args.r.now c.args.cut c.args.claims.now (get_or ss k d)) (sym p)
          (All-push (IsShareOf c.args.r.now c.args.cut c.args.claims.now) _ _ i.shares mine);
      count = omega arith;
      rest = append_assoc c.loop-pass.yielded (c.in-Some.pass ∷ []) _ ∙ at;
    }
