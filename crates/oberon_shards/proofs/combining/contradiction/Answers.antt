use Rattle.std.proofs.Common.{◌≡◌, ◌≢◌, ◌∙◌, ◌+◌, ◌<◌, ℕ, ap, arith, get_or, inl, inr, length, rules, subst, sym}
use Rattle.std.proofs.lemmas.Bool.{cases_lt}
use Rattle.std.proofs.lemmas.List.{get_or_default}
use Rattle.std.specs.Prelude.{All}
use Rattle.oberon_shards.specs.declared.shard.Shard.{Shard}
use Rattle.oberon_shards.specs.Combining.{Agree}
use Rattle.oberon_shards.specs.declared.combining.TheConstants.{NO_SHARD}
use Rattle.oberon_shards.specs.declared.shard.Finding.TheVariants.{Fails}
use Rattle.oberon_shards.proofs.Apart.{row_alike}
use Rattle.oberon_shards.proofs.combining.contradiction.Goals as goal
use Rattle.oberon_shards.proofs.combining.contradiction.Goals.{then-fails+in_default+then-not-fails, then-fails+in_default+else-not-fails, else-fails+else-like}

pub returns : goal.returns
returns c = λ k d inside. c.loop-one.invariant.rows k d (search arith)

pub loop-one-preserved : goal.loop-one-preserved
loop-one-preserved c =
    let i = c.loop-one.invariant in
    let shards = c.args.shards.now in
    let one : ℕ = c.loop-one.one in
    let inside : one < length shards = c.loop-one-test.true in
    let here : (d : Shard) → get_or shards one d ≡ c.index-shards-one.result = λ d. get_or_default shards one d c.index-shards-one.result inside ∙ sym c.index-shards-one.is in
    let P : ℕ → Type 0 = λ (n : ℕ). (d : Shard) → All (Agree (get_or shards n d)) shards in
    let rows : P one → (k : ℕ) (d : Shard) → k < one + 1 → All (Agree (get_or shards k d)) shards =
    λ row k d less. elim (cases_lt k one) [
      | inl before ↦ i.rows k d before
      | inr more ↦ (let same : k ≡ one = omega (arith, less, more) in subst P (sym same) row d)
    ] in
    let same_like : ℕ → Type 0 = λ (n : ℕ). n ≢ NO_SHARD → (n < one + 1) × ((d : Shard) → (get_or shards n d).finding ≢ Fails) in
    let kept : same_like c.loop-one.like = λ some. (let old = i.alike some in (omega (arith, old.0), old.1)) in
    elim c.if-fails.branch [
      | then-fails+in_default+then-not-fails w ↦ record {
        rows = rows (λ d. w.in_default.ensures (get_or shards one d) (get_or_default shards one d (get_or shards one d) inside));
        alike = subst same_like (sym w.like-is) (λ some. (omega arith, λ d is. (let never : c.index-shards-one.result.finding ≢ Fails = search rules in never (ap (λ (x : Shard). x.finding) (sym (here d)) ∙ is))));
      }
      | then-fails+in_default+else-not-fails w ↦ record {
        rows = rows (λ d. w.in_default.ensures (get_or shards one d) (get_or_default shards one d (get_or shards one d) inside));
        alike = subst same_like (sym w.like-is) kept;
      }
      | else-fails+else-like w ↦
          let old = i.alike w.if-like.false in
          let like : ℕ = c.loop-one.like in
          record {
            rows = rows (λ d. row_alike shards like one inside (omega (arith, old.0, inside)) old.1 (λ e is. (let never : c.index-shards-one.result.finding ≢ Fails = search rules in never (ap (λ (x : Shard). x.finding) (sym (here e)) ∙ is))) (λ e. i.rows like e old.0) d);
            alike = subst same_like (sym w.like-is) kept;
          }
    ]
