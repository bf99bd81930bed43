use Rattle.std.proofs.Common.{◌≡◌, ◌≤◌, inr, ℕ, Option, Some, arith, subst, sym}
use Rattle.risc_search.specs.declared.hit.Hit.{Hit}
use Rattle.risc_search.specs.Search.{IsLast}
use Rattle.oberon_past.specs.Run.{Run, state_at}
use Rattle.oberon_past.proofs.Searches.{part-none, part-some, state-between}
use Rattle.oberon_past.proofs.past.Past.find_last.Goals as goal

pub returns-in-Some-clause-found : goal.returns-in-Some-clause-found
returns-in-Some-clause-found c =
    let old = c.args.self.now.run in
    let run = c.approach.new.self.run in
    let same : run ≡ old = c.approach.ensures.longer.run in
    let conditions = c.args.conditions.now in
    let from : ℕ = c.args.from in
    let low : ℕ = c.stretch_before-low.result in
    let at : ℕ = c.loop-at.at in
    let hit : Hit = c.in-Some.hit in
    let start = subst (λ (r : Run). r.start ≤ from) (sym same) c.requires.range.0 in
    let stretch = c.stretch_before-low.ensures in
    let i = c.loop-at.invariant in
    let part = subst (λ (found : Option Hit). IsLast conditions run.inputs low at (state_at run low) found) c.in-Some.is c.in_ok-hit.ensures in (
      c.requires.range,
      subst (λ (r : Run). IsLast conditions r.inputs from c.args.to (state_at r from) (Some hit)) same
          (part-some conditions run.inputs (state_at run from) from low at c.args.to (state_at run low) stretch.0 (omega (arith, stretch.1)) i.inside.1
          (state-between run from low start stretch.0) i.none hit part),
    )

pub loop-at-preserved : goal.loop-at-preserved
loop-at-preserved c =
    let run = c.approach.new.self.run in
    let conditions = c.args.conditions.now in
    let from : ℕ = c.args.from in
    let low : ℕ = c.stretch_before-low.result in
    let at : ℕ = c.loop-at.at in
    let start = subst (λ (r : Run). r.start ≤ from) (sym c.approach.ensures.longer.run) c.requires.range.0 in
    let stretch = c.stretch_before-low.ensures in
    let i = c.loop-at.invariant in
    let part = subst (λ (found : Option Hit). IsLast conditions run.inputs low at (state_at run low) found) c.in_default.is c.in_ok-hit.ensures in
    record {
      inside = (stretch.0, omega (arith, stretch.1, i.inside.1));
      none = part-none conditions run.inputs (state_at run from) from low at c.args.to (state_at run low) stretch.0 (omega (arith, stretch.1)) i.inside.1
          (state-between run from low start stretch.0) i.none part;
      more = inr (omega (arith, stretch.1, i.inside.1));
    }
