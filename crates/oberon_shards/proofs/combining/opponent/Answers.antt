use Rattle.std.proofs.Common.{◌≡◌, ◌∙◌, ℕ, arith, get_or, inl, inr, subst, sym}
use Rattle.std.proofs.lemmas.Bool.{cases_lt}
use Rattle.std.proofs.lemmas.List.{get_or_default}
use Rattle.oberon_shards.specs.declared.shard.Shard.{Shard}
use Rattle.oberon_shards.specs.Combining.{Agree}
use Rattle.oberon_shards.proofs.Apart.{never_both}
use Rattle.oberon_shards.proofs.combining.opponent.Goals as goal

pub returns : goal.returns
returns c = λ a is k d inside. c.loop-other.invariant a k d is (search arith)

pub loop-other-preserved : goal.loop-other-preserved
loop-other-preserved c = λ a k d is less.
    let shards = c.args.shards.now in
    let one : Shard = c.index-shards-one.result in
    let other : Shard = c.index-shards-other.result in
    elim (cases_lt k c.loop-other.other) [
      | inl before ↦ c.loop-other.invariant a k d is before
      | inr more ↦
          let here : k ≡ c.loop-other.other = omega (arith, less, more) in
          let first : a ≡ one = is ∙ get_or_default shards c.args.one a one c.requires ∙ sym c.index-shards-one.is in
          let second : get_or shards k d ≡ other = subst (λ (n : ℕ). get_or shards n d ≡ other) (sym here)
          (get_or_default shards c.loop-other.other d other c.loop-other-test.true ∙ sym c.index-shards-other.is) in
          let agree : Agree one other = c.contradict.ensures.agree (never_both c.contradict.result c.if-contradict.false) in
          subst (λ (x : Shard). Agree x (get_or shards k d)) (sym first) (subst (λ (x : Shard). Agree one x) (sym second) agree)
    ]
