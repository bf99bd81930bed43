use Rattle.std.proofs.Common.{◌≡◌, ◌∙◌, ◌+◌, ℕ, Bool, Some, ap, arith, map, slice_get, subst, sym}
use Rattle.std.proofs.lemmas.Bool.{false≢true}
use Rattle.std.proofs.lemmas.List.{length-map}
use Rattle.galluspa.specs.Conditions.{is_joined}
use Rattle.galluspa.proofs.ConditionLemmas.{IsCounted, counted-end, counted-four, counted-joined, counted-plain, joined-at}
use Rattle.galluspa.proofs.conditions.are_joinable.Goals as goal
use Rattle.galluspa.proofs.conditions.are_joinable.Goals.{then-is_joined, else-is_joined}

pub returns-then-joined-eq-MAX_JOINED : goal.returns-then-joined-eq-MAX_JOINED
returns-then-joined-eq-MAX_JOINED c =
    let raws = c.args.raws.now in
    let index : ℕ = c.loop-raw.raw-index in
    let here : slice_get (map is_joined raws) index ≡ Some c.is_joined.result = joined-at raws index _ c.loop-raw-test.true ∙ ap (λ (b : Bool). Some b) (sym c.is_joined.ensures) in
    elim c.if-is_joined.branch [
      | then-is_joined w ↦ (
        λ is. absurd (false≢true is),
        λ joinable. absurd (counted-four (map is_joined raws) index c.loop-raw.joined c.loop-raw.invariant (here ∙ ap (λ (b : Bool). Some b) w.if-is_joined.true)
            (omega (arith, w.joined-is, c.if-joined-eq-MAX_JOINED.true)) (omega (arith, c.loop-raw-test.true, length-map raws is_joined)) joinable),
      )
      | else-is_joined w ↦ absurd (omega (arith, w.joined-is, c.if-joined-eq-MAX_JOINED.true))
    ]

pub loop-raw-preserved : goal.loop-raw-preserved
loop-raw-preserved c =
    let raws = c.args.raws.now in
    let bs = map is_joined raws in
    let index : ℕ = c.loop-raw.raw-index in
    let here : slice_get bs index ≡ Some c.is_joined.result = joined-at raws index _ c.loop-raw-test.true ∙ ap (λ (b : Bool). Some b) (sym c.is_joined.ensures) in
    elim c.if-is_joined.branch [
      | then-is_joined w ↦
          let few = c.loop-raw.invariant.few in
          subst (λ (n : ℕ). IsCounted bs (index + 1) n) (sym w.joined-is)
          (counted-joined bs index c.loop-raw.joined c.loop-raw.invariant (here ∙ ap (λ (b : Bool). Some b) w.if-is_joined.true)
          (omega (arith, few, w.joined-is, c.if-joined-eq-MAX_JOINED.false)))
      | else-is_joined w ↦
          subst (λ (n : ℕ). IsCounted bs (index + 1) n) (sym w.joined-is)
          (counted-plain bs index c.loop-raw.joined c.loop-raw.invariant (here ∙ ap (λ (b : Bool). Some b) w.if-is_joined.false))
    ]

pub returns : goal.returns
returns c =
    let raws = c.args.raws.now in
    counted-end (map is_joined raws) c.loop-raw.raw-index c.loop-raw.joined c.loop-raw.invariant
    (omega (arith, c.loop-raw-test.false, c.loop-raw.auto.raw-index-end, length-map raws is_joined))
