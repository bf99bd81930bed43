use Rattle.std.proofs.Common.{refl, ◌∙◌, List, Option, arith, subst, sym, take_all}
use Rattle.std.proofs.lemmas.List.Elements.{All-more}
use Rattle.std.specs.Option.{IsSome}
use Rattle.risc_search.specs.declared.condition.Condition.{Condition}
use Rattle.galluspa.specs.declared.conditions.RawCondition.{RawCondition}
use Rattle.galluspa.specs.Conditions.{AreEachConditions, condition_of}
use Rattle.galluspa.proofs.conditions.are_each_conditions.Goals as goal

pub loop-raw-preserved : goal.loop-raw-preserved
loop-raw-preserved c =
    let P : Option Condition → Type 0 = λ (o : Option Condition). IsSome o in
    All-more (λ (raw : RawCondition). IsSome (condition_of raw)) c.args.raws.now c.loop-raw.raw-index _ c.loop-raw-test.true c.loop-raw.invariant
    (subst P (sym c.in-Some.is ∙ c.condition_of.ensures) refl)

pub returns : goal.returns
returns c =
    let P : List RawCondition → Type 0 = λ (raws : List RawCondition). AreEachConditions raws in
    let all = subst P (take_all c.loop-raw.raw-index c.args.raws.now (omega (arith, c.loop-raw-test.false))) c.loop-raw.invariant in
    (λ _. all, λ _. refl)
