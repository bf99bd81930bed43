use Rattle.std.proofs.Common.{◌≡◌, ◌∙◌, ◌+◌, ◌<◌, ◌≤◌, ℕ, arith, get_or, inl, inr, refl, ap, sym, subst}
use Rattle.std.proofs.lemmas.Bool.{cases_lt}
use Rattle.std.proofs.lemmas.List.{get_or_default}
use Rattle.oberon_shards.specs.declared.shard.Shard.{Shard}
use Rattle.oberon_shards.specs.Combining.{HasSegment}
use Rattle.oberon_shards.proofs.combining.gap_end.Goals as goal
use Rattle.oberon_shards.proofs.combining.gap_end.Goals.{then-at-shard+then-shard-end+then-shard, else-at-shard, else-at-shard-via-then-at-shard+then-shard-end+else-shard, else-at-shard-via-then-at-shard+else-shard-end, else-at-shard-via-else-at-shard}

pub returns : goal.returns
returns c =
    let i = c.loop-shard.invariant in
    record { above = i.above; below = i.below; none = λ k d inside. i.none k d (search arith); whole = i.whole }

pub loop-shard-preserved : goal.loop-shard-preserved
loop-shard-preserved c =
    let i = c.loop-shard.invariant in
    let s : Shard = c.shard-item.result in
    let index : ℕ = c.loop-shard.shard-index in
    let shards = c.args.shards.now in
    let here : (d : Shard) → get_or shards index d ≡ s = λ d. get_or_default shards index d s c.loop-shard-test.true ∙ sym c.shard-item.is in
    elim c.if-at-shard.branch [
      | then-at-shard+then-shard-end+then-shard w ↦ record {
        above = omega (arith, w.end-is, w.if-at-shard.true);
        below = omega (arith, w.end-is, w.if-shard-end.true, i.below);
        whole = λ less. (s, (index, c.loop-shard-test.true, c.shard-item.is), omega (arith, w.end-is, w.if-at-shard.true), omega (arith, w.end-is, w.if-at-shard.true, w.if-shard.true));
        none = λ k d less after some. elim (cases_lt k index) [
          | inl before ↦ (let old = i.none k d before after some in omega (arith, old, w.end-is, w.if-shard-end.true))
          | inr more ↦
              let place : k ≡ index = omega (arith, less, more) in
              let same : (get_or shards k d).from ≡ s.from = ap (λ (x : Shard). x.from) (subst (λ (n : ℕ). get_or shards n d ≡ s) (sym place) (here d)) in
              omega (arith, same, w.end-is, w.if-at-shard.true)
        ];
      }
      | else-at-shard w ↦ record {
        above = omega (arith, w.end-is, i.above);
        below = omega (arith, w.end-is, i.below);
        whole = subst (λ (e : ℕ). e + 1 < c.args.last → HasSegment shards (e + 1)) (sym w.end-is) i.whole;
        none = λ k d less after some. elim (cases_lt k index) [
          | inl before ↦ (let old = i.none k d before after some in omega (arith, old, w.end-is))
          | inr more ↦
              let place : k ≡ index = omega (arith, less, more) in
              let whole = subst (λ (n : ℕ). get_or shards n d ≡ s) (sym place) (here d) in
              let from : (get_or shards k d).from ≡ s.from = ap (λ (x : Shard). x.from) whole in
              let to : (get_or shards k d).to ≡ s.to = ap (λ (x : Shard). x.to) whole in
              elim w.else-at-shard.branch [
                | else-at-shard-via-then-at-shard+then-shard-end+else-shard v ↦ absurd (omega (arith, v.if-shard.false, from, to, some))
                | else-at-shard-via-then-at-shard+else-shard-end v ↦ omega (arith, v.if-shard-end.false, from, w.end-is)
                | else-at-shard-via-else-at-shard v ↦ absurd (omega (arith, v.if-at-shard.false, from, after))
              ]
        ];
      }
    ]
