use Rattle.std.proofs.Common.{◌≡◌, ◌∙◌, ◌+◌, ◌-◌, ℕ, List, Option, Some, ap, arith, refl, subst, sym}
use Rattle.std.proofs.lemmas.Option.{MatchOption-at_none, MatchOption-at_some}
use Rattle.risc_model.specs.declared.event.Event.{Event}
use Rattle.risc_model.specs.Replay.{run_of}
use Rattle.risc_model.proofs.RunLemmas.{run_of-none}
use Rattle.risc_search.specs.declared.hit.Hit.{Hit}
use Rattle.risc_search.specs.Search.{IsLast, count_after}
use Rattle.risc_search.specs.inner.Progress.{IsInRange}
use Rattle.risc_search.proofs.KeepLemmas.{keeps-all, keeps-on}
use Rattle.risc_search.proofs.SearchLemmas.{first-same, last-hit, last-more, state-next}
use Rattle.risc_search.proofs.search.find_last.Goals as goal

pub loop-progress-init : goal.loop-progress-init
loop-progress-init c =
    let begun = c.begin-progress.ensures in
    record {
      reached = omega (arith, begun.at);
      range = subst (λ (es : List Event). IsInRange es c.args.to c.begin-progress.result) c.new-search.ensures.inputs begun.range;
      state = sym (run_of-none _ _ _ _ (omega (arith, begun.at)));
      last = λ n after inside. absurd (omega (arith, after, inside, begun.at));
      armed = refl;
      kept = keeps-all _;
    }

pub next-requires-clause-progress : goal.next-requires-clause-progress
next-requires-clause-progress c = subst (λ (es : List Event). IsInRange es c.args.to c.loop-progress.progress) (sym c.new-search.ensures.inputs) c.loop-progress.invariant.range

pub returns-in_default-clause-last : goal.returns-in_default-clause-last
returns-in_default-clause-last c =
    let i = c.loop-progress.invariant in
    let at : ℕ = c.loop-progress.progress.at in
    let next = c.in_ok-hit.ensures in
    let first = first-same _ c.args.conditions.now _ c.args.inputs.now at c.args.to c.loop-progress.machine.state c.in_ok-hit.field-0 c.new-search.ensures.conditions c.new-search.ensures.inputs next.first in
    last-more c.args.conditions.now c.args.inputs.now c.args.from at c.args.to c.args.machine.now.state c.loop-progress.machine.state c.loop-progress.found i.reached (omega (arith, i.range.later, i.range.inside)) i.state i.last
    (MatchOption-at_none _ _ c.in_default.is first)

pub returns-in_default-clause-state : goal.returns-in_default-clause-state
returns-in_default-clause-state c =
    let i = c.loop-progress.invariant in
    let next = c.in_ok-hit.ensures in
    let end : c.next.new.progress.at ≡ c.args.to = next.at ∙ ap (λ (found : Option Hit). count_after c.args.to found) c.in_default.is in
    state-next _ c.args.inputs.now c.args.from c.loop-progress.progress.at c.next.new.progress.at c.args.machine.now.state c.loop-progress.machine.state c.next.new.machine.state c.new-search.ensures.inputs i.reached
    (omega (arith, i.range.later, i.range.inside, end)) i.state next.state
    ∙ ap (λ (n : ℕ). run_of c.args.inputs.now c.args.from (n - c.args.from) c.args.machine.now.state) end

pub loop-progress-preserved : goal.loop-progress-preserved
loop-progress-preserved c =
    let i = c.loop-progress.invariant in
    let es = c.args.inputs.now in
    let conditions = c.args.conditions.now in
    let from : ℕ = c.args.from in
    let at : ℕ = c.loop-progress.progress.at in
    let new : ℕ = c.next.new.progress.at in
    let s = c.args.machine.now.state in
    let t = c.loop-progress.machine.state in
    let next = c.in_ok-hit.ensures in
    let hit = c.in-Some.hit in
    let first = MatchOption-at_some _ _ hit c.in-Some.is (first-same _ conditions _ es at c.args.to t c.in_ok-hit.field-0 c.new-search.ensures.conditions c.new-search.ensures.inputs next.first) in
    let after : new ≡ hit.count + 1 = next.at ∙ ap (λ (found : Option Hit). count_after c.args.to found) c.in-Some.is in
    let reached = first.0.reached in
    record {
      reached = omega (arith, i.reached, after, reached);
      range = subst (λ (is : List Event). IsInRange is c.args.to c.next.new.progress) c.new-search.ensures.inputs next.progress;
      state = state-next _ es from at new s t c.next.new.machine.state c.new-search.ensures.inputs i.reached (omega (arith, after, reached)) i.state next.state;
      last = subst (λ (n : ℕ). IsLast conditions es from n s (Some hit)) (sym after) (last-hit conditions es from at c.args.to s t hit i.reached i.state first.0);
      armed = next.armed ∙ i.armed;
      kept = keeps-on _ _ _ i.kept next.kept;
    }
