use Rattle.std.proofs.Common.{◌≡◌, ◌∙◌, ◌<◌, ℕ, Bool, false, true, arith, length, length-set, refl, subst, sym}
use Rattle.std.specs.Prelude.{◌||◌}
use Rattle.std.proofs.lemmas.Bool.{true≢false}
use Rattle.std.proofs.lemmas.List.{get_or_default}
use Rattle.risc_search.specs.declared.condition.Clause.{Clause}
use Rattle.risc_search.specs.inner.Observed.{IsKnown}
use Rattle.risc_search.proofs.ConditionLemmas.{known-more, none-known}
use Rattle.risc_search.proofs.meeting.arm.Goals as goal

neither : (a b : Bool) → (a || b) ≡ false → (a ≡ false) × (b ≡ false)
neither false b is = (refl, is)
neither true b is = absurd (true≢false is)

pub loop-index-preserved : goal.loop-index-preserved
loop-index-preserved c =
    let conditions = c.args.conditions.now in
    let index : ℕ = c.loop-index.index in
    let i = c.loop-index.invariant in
    let new = c.known-known.result in
    let listed : index < length conditions = search arith in
    let inside : index < length c.loop-index.armed = omega (arith, i.count, listed, c.requires.armed) in
    record {
      armed = known-more conditions c.args.machine.now.state c.args.taken.now c.loop-index.armed index new inside
          (λ d. subst (λ (clause : Clause). IsKnown clause.condition c.args.machine.now.state c.args.taken.now new) (get_or_default conditions index _ d listed) c.known-known.ensures)
          i.armed;
      count = length-set c.loop-index.armed index new ∙ i.count;
      none = λ is.
          let parts = neither c.loop-index.any new.is_armed is in
          none-known c.loop-index.armed index new inside (λ armed. true≢false (sym armed ∙ parts.1)) (i.none parts.0);
    }
