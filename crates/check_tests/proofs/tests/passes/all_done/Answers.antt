use Rattle.std.proofs.Common.{◌<◌, ◌++◌, ◌∷◌, [], List, ℕ, length, get_or, sym, ap, ◌∙◌, subst, arith, length-append, append_assoc}
use Rattle.std.specs.Prelude.{IfOk, Result}
use Rattle.std.specs.declared.alloc.AllocError.{AllocError}
use Rattle.std.proofs.lemmas.List.Elements.{All-push}
use Rattle.oberon_claims.proofs.Gathers.{next_of}
use Rattle.oberon_check.specs.Work.{DoneRecord, IsShareOf}
use Rattle.check_tests.proofs.tests.passes.all_done.Goals as goal

abbrev Answer : Type 0
Answer = Result DoneRecord AllocError

pub loop-result-preserved : goal.loop-result-preserved
loop-result-preserved c =
    let i = c.loop-result.invariant in
    let step = c.in-Some.ensures.steps in
    let at = ap (λ (l : List Answer). c.loop-result.yielded ++ l) (sym step.0) ∙ i.rest in
    let P : Answer → Type 0 = λ x. IfOk x (IsShareOf c.args.r.now 1 c.args.claims.now) in
    let share : P c.in-Some.result = next_of P _ _ _ _ at c.requires in
    let mine : IsShareOf c.args.r.now 1 c.args.claims.now c.in_ok-share.share = subst P c.in_ok-share.was share in
    let p = c.in_ok-push.ensures.items in
    let l = length-append c.loop-result.done.items (c.in_ok-share.share ∷ []) in
    let l' = length-append c.loop-result.yielded (c.in-Some.result ∷ []) in
    let l'' = ap length p in record {
      shares = subst (λ (ss : List DoneRecord). (k : ℕ) (d : DoneRecord) → k < length ss → IsShareOf c.args.r.now 1 c.args.claims.now (get_or ss k d)) (sym p)
          (All-push (IsShareOf c.args.r.now 1 c.args.claims.now) _ _ i.shares mine);
      count = omega arith;
      rest = append_assoc c.loop-result.yielded (c.in-Some.result ∷ []) _ ∙ at;
    }
