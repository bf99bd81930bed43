use Rattle.std.proofs.Common.{◌∙◌, ℕ, List, arith, slice_index_or, subst, sym}
use Rattle.oberon_shards.specs.Shard.{IsShardIn}
use Rattle.oberon_shards.proofs.laws.one_file_law.Goals as goal

pub returns : goal.returns
returns c = λ v shards file_of each s same one k d inside.
    let here = each k d inside in
    let first = each 0 d (omega (arith, inside)) in
    let file = one k 0 inside (omega (arith, inside)) (sym here.digest_is ∙ same k d inside ∙ sym (same 0 d (omega (arith, inside))) ∙ first.digest_is) in
    subst (λ (f : List ℕ). IsShardIn v f (slice_index_or shards k d)) file here
