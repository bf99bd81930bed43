use Rattle.std.proofs.Common.{◌≡◌, ◌≤◌, ◌∙◌, ◌+◌, ◌++◌, [], ◌∷◌, ℕ, List, Option, ap, length, arith, inl, inr, length-append, refl, subst, sym}
use Rattle.std.specs.Prelude.{Err, Ok, OnErr, Result}
use Rattle.std.proofs.lemmas.Option.{MatchOption-at_none, MatchOption-at_some}
use Rattle.risc_model.specs.declared.event.Event.{Event}
use Rattle.risc_model.proofs.RunLemmas.{run_of-none}
use Rattle.risc_search.specs.declared.hit.Hit.{Hit}
use Rattle.risc_search.specs.Hits.{AreHits, EndsAt}
use Rattle.risc_search.specs.Search.{count_after}
use Rattle.risc_search.specs.inner.Progress.{IsInRange}
use Rattle.risc_search.proofs.HitLemmas.{ends-more, hits-end, hits-more}
use Rattle.risc_search.proofs.KeepLemmas.{keeps-all, keeps-on}
use Rattle.risc_search.proofs.SearchLemmas.{first-same, hit-from, state-next}
use Rattle.risc_search.proofs.search.find_all.Goals as goal

on-err : {A E : Type 0} (result : Result A E) (P : Type 0) → P → OnErr result P
on-err (Ok value) P holds = tt
on-err (Err failure) P holds = holds

pub loop-progress-init : goal.loop-progress-init
loop-progress-init c =
    let begun = c.begin-progress.ensures in
    let from : ℕ = c.args.from in
    record {
      reached = omega (arith, begun.at);
      range = subst (λ (es : List Event). IsInRange es c.args.to c.begin-progress.result) c.new-search.ensures.inputs begun.range;
      state = sym (run_of-none _ _ _ _ (omega (arith, begun.at)));
      hits = subst (λ (list : List Hit). AreHits c.args.conditions.now c.args.inputs.now from c.args.machine.now.state from c.begin-progress.result.at list) (sym c.new-list.ensures.items)
          (λ n after inside. absurd (omega (arith, after, inside, begun.at)));
      fits = omega (arith, ap (λ (list : List Hit). length list) c.new-list.ensures.items);
      full = λ is. absurd (omega (arith, ap (λ (list : List Hit). length list) c.new-list.ensures.items, is, c.requires.room));
      armed = refl;
      kept = keeps-all _;
    }

pub loop-progress-preserved-in-Continue-branch-3 : goal.loop-progress-preserved-in-Continue-branch-3
loop-progress-preserved-in-Continue-branch-3 c =
    let i = c.loop-progress.invariant in
    let es = c.args.inputs.now in
    let conditions = c.args.conditions.now in
    let from : ℕ = c.args.from in
    let at : ℕ = c.loop-progress.progress.at in
    let new : ℕ = c.next.new.progress.at in
    let s = c.args.machine.now.state in
    let t = c.loop-progress.machine.state in
    let list = c.loop-progress.list.items in
    let next = c.in_ok-hit.ensures in
    let hit : Hit = c.in-Some.hit in
    let first = MatchOption-at_some _ _ hit c.in-Some.is (first-same _ conditions _ es at c.args.to t c.in_ok-hit.field-0 c.new-search.ensures.conditions c.new-search.ensures.inputs next.first) in
    let after : new ≡ hit.count + 1 = next.at ∙ ap (λ (found : Option Hit). count_after c.args.to found) c.in-Some.is in
    let pushed : c.push.new.self.items ≡ list ++ hit ∷ [] = c.in_ok-push.ensures.items in
    let reached = first.0.reached in
    record {
      reached = omega (arith, i.reached, after, reached);
      range = subst (λ (is : List Event). IsInRange is c.args.to c.next.new.progress) c.new-search.ensures.inputs next.progress;
      state = state-next _ es from at new s t c.next.new.machine.state c.new-search.ensures.inputs i.reached (omega (arith, after, reached)) i.state next.state;
      hits = subst (λ (items : List Hit). AreHits conditions es from s from new items) (sym pushed)
          (subst (λ (n : ℕ). AreHits conditions es from s from n (list ++ hit ∷ [])) (sym after)
          (hits-more conditions es from at c.args.to s t list hit i.reached i.state i.hits first.0 first.1));
      fits = omega (arith, ap (λ (items : List Hit). length items) pushed, length-append list (hit ∷ []), c.len.ensures, c.if-len-room.true);
      full = λ _. subst (λ (items : List Hit). EndsAt items new) (sym pushed)
          (subst (λ (n : ℕ). EndsAt (list ++ hit ∷ []) n) (sym after) (ends-more list hit));
      armed = next.armed ∙ i.armed;
      kept = keeps-on _ _ _ i.kept next.kept;
    }

pub returns-in_err-push-clause-cause : goal.returns-in_err-push-clause-cause
returns-in_err-push-clause-cause c =
    let i = c.loop-progress.invariant in
    let es = c.args.inputs.now in
    let conditions = c.args.conditions.now in
    let at : ℕ = c.loop-progress.progress.at in
    let t = c.loop-progress.machine.state in
    let hit : Hit = c.in-Some.hit in
    let first = MatchOption-at_some _ _ hit c.in-Some.is (first-same _ conditions _ es at c.args.to t c.in_ok-hit.field-0 c.new-search.ensures.conditions c.new-search.ensures.inputs c.in_ok-hit.ensures.first) in
    let here = hit-from conditions es c.args.from at c.args.to c.args.machine.now.state t hit i.reached i.state first.0 in
    on-err c.from_residual-in_err-push.result _ (inr (hit, here))

pub loop-progress-preserved : goal.loop-progress-preserved
loop-progress-preserved c =
    let i = c.loop-progress.invariant in
    let es = c.args.inputs.now in
    let conditions = c.args.conditions.now in
    let from : ℕ = c.args.from in
    let at : ℕ = c.loop-progress.progress.at in
    let new : ℕ = c.next.new.progress.at in
    let s = c.args.machine.now.state in
    let t = c.loop-progress.machine.state in
    let list = c.loop-progress.list.items in
    let next = c.in_ok-hit.ensures in
    let first = MatchOption-at_none _ _ c.in_default.is (first-same _ conditions _ es at c.args.to t c.in_ok-hit.field-0 c.new-search.ensures.conditions c.new-search.ensures.inputs next.first) in
    let end : new ≡ c.args.to = next.at ∙ ap (λ (found : Option Hit). count_after c.args.to found) c.in_default.is in
    let later : at ≤ c.args.to = omega (arith, i.range.later, i.range.inside) in
    record {
      reached = omega (arith, i.reached, end, later);
      range = subst (λ (is : List Event). IsInRange is c.args.to c.next.new.progress) c.new-search.ensures.inputs next.progress;
      state = state-next _ es from at new s t c.next.new.machine.state c.new-search.ensures.inputs i.reached (omega (arith, end, later)) i.state next.state;
      hits = subst (λ (n : ℕ). AreHits conditions es from s from n list) (sym end) (hits-end conditions es from at c.args.to s t list i.reached later i.state i.hits first);
      fits = i.fits;
      full = λ is. absurd (omega (arith, is, c.len.ensures, c.if-len-room.true));
      armed = next.armed ∙ i.armed;
      kept = keeps-on _ _ _ i.kept next.kept;
    }
