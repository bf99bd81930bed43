-- If all shards of a recording are there, none is missing.
use Rattle.std.proofs.Common.{◌≡◌, ℕ, zero, suc, ◌+◌, ◌-◌, ◌*◌, ◌<◌, ◌≤◌, List, refl, subst, arith, inl, inr}
use Rattle.std.specs.Prelude.{All}
use Rattle.std.proofs.lemmas.Bool.{cases_lt}
use Rattle.std.proofs.Math.Nat.{mul-le-mul_left}
use Rattle.oberon_format.specs.Recording.{RecordingParts, IsLawfulWithDisk, count_at, last_of}
use Rattle.oberon_check.specs.declared.versions.Versions.{Versions}
use Rattle.oberon_check.specs.Versions.{TextIn}
use Rattle.oberon_check.specs.Segment.{replayed}
use Rattle.oberon_format.specs.Defined.{claimed}
use Rattle.oberon_check.proofs.InVersions.{HasEitherIn, HasOneIn, lawful_in}
use Rattle.oberon_check.proofs.Parts.{not_first}
use Rattle.oberon_shards.specs.declared.shard.Shard.{Shard}
use Rattle.oberon_shards.specs.declared.shard.Finding.{Finding}
use Rattle.oberon_shards.specs.declared.shard.Finding.TheVariants.{Holds, Fails, Refused}
use Rattle.oberon_shards.specs.Border.{IsBetween, IsBorder}
use Rattle.oberon_shards.specs.Combining.{IsMissing, IsOneOf}
use Rattle.oberon_shards.specs.Laws.{HasIndexed, IsComplete}
use Rattle.oberon_shards.specs.Shard.{IsFailed, IsShardIn}
use Rattle.oberon_shards.proofs.Counts.{counts_between}
use Rattle.oberon_shards.proofs.Members.{found_of, last_is, not_refused, of_member, segment_holds}

-- there is one border
one_border : (r : RecordingParts) (i of a b : ℕ) → IsBorder r i of a → IsBorder r i of b → a ≤ b
one_border r i of a b low high =
    elim (cases_lt b a) [
      | inl less ↦ (let below = low.before b less in let above = high.after in absurd (omega (arith, below, above)))
      | inr more ↦ more
    ]

-- the first border is the beginning
first_border : (r : RecordingParts) (of b : ℕ) → IsBorder r 0 of b → b ≤ 0
first_border r of b is =
    elim (cases_lt 0 b) [
      | inl less ↦ (let below = is.before 0 less in absurd (omega (arith, below)))
      | inr more ↦ more
    ]

-- the last border is the end
last_border : (r : RecordingParts) → IsLawfulWithDisk r → (of b : ℕ) → 1 ≤ of → IsBorder r of of b → last_of r ≤ b
last_border r lawful of b some is =
    elim (cases_lt b (last_of r)) [
      | inl less ↦
          let rises : count_at r b < count_at r (last_of r) = (let after = counts_between r lawful b (last_of r) (omega (arith, less)) (omega arith) in omega (arith, after, less)) in
          let product : of * (count_at r b + 1) ≤ of * count_at r (last_of r) = mul-le-mul_left of (omega (arith, rises)) in
          absurd (omega (arith, product, is.after, some))
      | inr more ↦ more
    ]

module _ (v : Versions) (one : HasOneIn v) (bytes : List ℕ) (r : RecordingParts) (shards : List Shard) (of : ℕ) (text : TextIn v bytes r) (all : All (IsShardIn v bytes) shards)
    (segment last : ℕ) (missing : IsMissing shards segment last) where
  -- a shard that begins at or before the missing segment ends at or before it
  ends_before : (index : ℕ) (s : Shard) → IsOneOf shards s → (between : IsBetween r index of s) → s.from ≤ segment → between.end ≤ segment
  ends_before index s is_one between from = by_finding s.finding refl
    where
      is : IsShardIn v bytes s
      is = of_member (IsShardIn v bytes) shards s all is_one

      gap : s.to ≤ segment
      gap = elim (cases_lt segment s.to) [
        | inl less ↦ absurd (of_member (λ x. (k : ℕ) → segment ≤ k → k ≤ last → ¬ ((x.from ≤ k) × (k < x.to))) shards s missing.missing is_one segment (omega arith) missing.order (from, less))
        | inr more ↦ more
      ]

      by_finding : (f : Finding) → s.finding ≡ f → between.end ≤ segment
      by_finding Holds e = omega (arith, between.to_is e, gap)
      by_finding Fails e =
          let found = found_of v bytes s Fails is e in
          let same : found.0 ≡ r = one bytes found.0 r found.1 text in
          let failed : IsFailed r s = subst (λ (q : RecordingParts). IsFailed q s) same found.2 in
          let held : claimed r (failed.failed + 1) ≡ replayed r failed.failed =
          segment_holds v one bytes shards all r text failed.failed (missing.before failed.failed (omega (arith, failed.to_is, gap))) in
          absurd (not_first (claimed r (failed.failed + 1)) (replayed r failed.failed) failed.part held failed.fails)
      by_finding Refused e = absurd (between.read e)

  all_before : ((index : ℕ) → 1 ≤ index → index ≤ of → HasIndexed r shards of index) → (n b : ℕ) → n ≤ of → IsBorder r n of b → b ≤ segment
  all_before have zero b small is = omega (arith, first_border r of b is)
  all_before have (suc n) b small is =
      let h = have (suc n) (omega arith) small in
      let s : Shard = h.0 in
      let between = h.2 in
      let before : suc n - 1 ≡ n = omega arith in
      let from : s.from ≤ segment = all_before have n s.from (omega arith) (subst (λ (k : ℕ). IsBorder r k of s.from) before between.from_is) in
      let end = ends_before (suc n) s h.1 between from in
      omega (arith, one_border r (suc n) of b between.end is between.end_is, end)

pub complete : ((v : Versions) → HasOneIn v) → ((v : Versions) → HasEitherIn v) → IsComplete
complete one either v bytes r shards of text all some have segment last missing =
    let h = have of some (omega arith) in
    let s : Shard = h.0 in
    let between = h.2 in
    let end : between.end ≤ segment = all_before v (one v) bytes r shards of text all segment last missing have of between.end (omega arith) between.end_is in
    let whole : last_of r ≤ between.end = last_border r (lawful_in v bytes r text) of between.end some between.end_is in
    let first : Shard = missing.shard in
    let is_first : IsOneOf shards first = (0, omega (arith, h.1.1), missing.is_first) in
    let is : IsShardIn v bytes first = of_member (IsShardIn v bytes) shards first all is_first in
    let segments : first.last ≡ last_of r = last_is v (one v) bytes first is (not_refused v (either v) bytes r text first is) r text in
    let inside : segment < first.last = omega (arith, missing.order, missing.inside) in
    absurd (omega (arith, end, whole, inside, segments))
