use Rattle.std.proofs.Common.{◌≡◌, ◌∙◌, ℕ, ◌<◌, length, refl, rules, subst, sym}
use Rattle.std.proofs.lemmas.List.{get_or_default}
use Rattle.oberon_check.proofs.InVersions.{one_in}
use Rattle.oberon_shards.specs.declared.shard.Finding.TheVariants.{Refused}
use Rattle.oberon_shards.specs.declared.shard.Shard.{Shard}
use Rattle.oberon_shards.specs.Combining.{IsCovered, IsOneOf}
use Rattle.oberon_shards.specs.Shard.{IsShardIn}
use Rattle.oberon_shards.specs.inner.Walking.{IsEnd}
use Rattle.oberon_shards.proofs.Members.{end_decides, gap_missing, held_decides, none_true, of_member}
use Rattle.oberon_shards.proofs.combining.combine.Goals as goal

pub returns-in-Ok-Some-clause-line : goal.returns-in-Ok-Some-clause-line
returns-in-Ok-Some-clause-line c =
    let end : IsEnd c.args.shards.now c.in-Ok-Some.shard.now = rw c.in-Ok-Some.field-0-is at c.in-Ok-Some.ensures.ok in
    rw c.in-Ok-Some.shard-is (end_decides (one_in c.one_recording_with_disk_law.ensures) c.args.shards.now c.in-Ok-Some.shard.now c.in_default-first_with.ensures end)

pub returns-in-Some-first_with-2-clause-line : goal.returns-in-Some-first_with-2-clause-line
returns-in-Some-first_with-2-clause-line c =
    let first : IsOneOf c.args.shards.now c.index-shards-0.result = (0, search rules, c.index-shards-0.is) in
    let covered : (k : ℕ) → k < c.index-shards-0.result.last → IsCovered c.args.shards.now k = rw c.in-Ok-None.field-0-is at c.in-Ok-None.ensures.ok in
    let named = of_member (λ (x : Shard). ¬ (x.finding ≡ Refused)) c.args.shards.now c.index-shards-0.result c.in_default-first_with.ensures first in
    held_decides (one_in c.one_recording_with_disk_law.ensures) c.args.shards.now c.index-shards-0.result c.in-Some-first_with-2.shard.now first named covered
    c.in-Some-first_with-2.ensures

pub returns-in-Some-contradiction-clause-fault : goal.returns-in-Some-contradiction-clause-fault
returns-in-Some-contradiction-clause-fault c = ((c.index-shards-0.result.digest, search rules), (c.in-Some-contradiction.k, c.in-Some-contradiction.other, refl, refl, c.in-Some-contradiction.ensures))

pub returns-in-None-clause-fault : goal.returns-in-None-clause-fault
returns-in-None-clause-fault c =
    let inside : 0 < length c.args.shards.now = search rules in
    let first : IsOneOf c.args.shards.now c.index-shards-0.result = (0, inside, c.index-shards-0.is) in
    let covered : (k : ℕ) → k < c.index-shards-0.result.last → IsCovered c.args.shards.now k = rw c.in-Ok-None.field-0-is at c.in-Ok-None.ensures.ok in (
      (c.index-shards-0.result.digest, search rules),
      (
        0,
        0,
        refl,
        refl,
        record {
          one_inside = inside;
          other_inside = inside;
          apart = λ a b is_first is_other v file is_a is_b.
              let same : a ≡ c.index-shards-0.result = is_first ∙ get_or_default c.args.shards.now 0 a c.index-shards-0.result inside ∙ sym c.index-shards-0.is in
              none_true c.args.shards.now c.index-shards-0.result first c.in_default-first_with.ensures c.in-None.ensures covered v file
              (subst (IsShardIn v file) same is_a);
        },
      ),
    )

pub returns-in-Err-clause-fault : goal.returns-in-Err-clause-fault
returns-in-Err-clause-fault c = (
  (c.index-shards-0.result.digest, search rules),
  search rules,
  record {
    shard = c.index-shards-0.result;
    is_first = c.index-shards-0.is;
    order = c.gap_end.ensures.above;
    inside = c.gap_end.ensures.below;
    missing = gap_missing c.args.shards.now c.in-Err.at c.index-shards-0.result.last c.gap_end.result c.in-Err.ensures.err c.gap_end.ensures;
    before = c.in-Err.ensures.err.before;
    whole = c.gap_end.ensures.whole;
  },
)

pub returns-in-Some-clause-fault : goal.returns-in-Some-clause-fault
returns-in-Some-clause-fault c = (
  c.in-Some.k,
  refl,
  record {
    first = c.index-shards-0.result;
    is_first = c.index-shards-0.is;
    inside = c.in-Some.ensures.inside;
    other = c.in-Some.ensures.other;
  },
)
