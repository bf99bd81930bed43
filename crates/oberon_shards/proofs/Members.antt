-- What follows from shards that are all true of some bytes.
use Rattle.std.proofs.Common.{◌≡◌, ℕ, ◌<◌, ◌≤◌, List, None, Option, refl, ap, sym, ◌∙◌, arith, get_or, inl, inr, subst}
use Rattle.std.specs.Prelude.{All, MatchOption}
use Rattle.std.proofs.lemmas.Bool.{cases_lt}
use Rattle.oberon_format.specs.declared.fault.Fault.{Fault}
use Rattle.oberon_format.specs.Recording.{RecordingParts, last_of}
use Rattle.oberon_check.specs.declared.versions.Versions.{Versions}
use Rattle.oberon_check.specs.Versions.{TextIn}
use Rattle.oberon_check.specs.HeadlineWithDisk.{IsLineIn}
use Rattle.oberon_check.specs.Segment.{IsSegmentPart}
use Rattle.oberon_check.proofs.InVersions.{HasEitherIn, HasOneIn, fault-as-line, fault-line}
use Rattle.oberon_check.proofs.Replays.{HoldBelow}
use Rattle.oberon_shards.specs.declared.shard.Shard.{Shard}
use Rattle.oberon_shards.specs.declared.shard.Finding.{Finding}
use Rattle.oberon_shards.specs.declared.shard.Finding.TheVariants.{Holds, Fails, Refused}
use Rattle.oberon_shards.specs.Shard.{IsShardIn, IsFound, IsHeld, IsFailed, finding_status}
use Rattle.oberon_shards.specs.Combining.{IsOneOf, IsCovered, Decides}
use Rattle.oberon_shards.specs.inner.Walking.{IsAt, IsEnd, IsGap, IsGapEnd, IsOneWith}
use Rattle.oberon_shards.proofs.Lines.{accepted_line, false_line}

-- what is true of each member is true of this one
pub of_member : (P : Shard → Type 0) (shards : List Shard) (s : Shard) → All P shards → IsOneOf shards s → P s
of_member P shards s all one = subst P (sym one.2) (all one.0 s one.1)

-- what a shard with a known finding says
pub found_of : (v : Versions) (bytes : List ℕ) (s : Shard) (f : Finding) → IsShardIn v bytes s → s.finding ≡ f → IsFound v bytes f s
found_of v bytes s f is e = subst (λ (g : Finding). IsFound v bytes g s) e is.found

module _ (v : Versions) (one : HasOneIn v) (bytes : List ℕ) (shards : List Shard) (all : All (IsShardIn v bytes) shards) where
  -- a segment that a shard that holds has
  pub segment_holds : (r : RecordingParts) → TextIn v bytes r → (s : ℕ) → IsCovered shards s → IsSegmentPart r s None
  segment_holds r text s c =
      let found = found_of v bytes c.shard Holds (of_member (IsShardIn v bytes) shards c.shard all c.is_one) c.holds in
      let same : found.0 ≡ r = one bytes found.0 r found.1 text in
      subst (λ (q : RecordingParts). IsSegmentPart q s None) same (found.2.hold s c.from c.to)

  pub hold_below : (r : RecordingParts) → TextIn v bytes r → (n : ℕ) → ((k : ℕ) → k < n → IsCovered shards k) → HoldBelow r n
  hold_below r text n covered j below = segment_holds r text j (covered j below)

  -- a shard that holds, if shards that hold have each segment
  pub line_of_held : (s : Shard) → IsShardIn v bytes s → s.finding ≡ Holds → ((k : ℕ) → k < s.last → IsCovered shards k) → IsLineIn v bytes s.line.items (finding_status s.finding)
  line_of_held s is e covered =
      let found = found_of v bytes s Holds is e in
      let r : RecordingParts = found.0 in
      let held : IsHeld r s = found.2 in
      let hold : HoldBelow r (last_of r) = hold_below r found.1 (last_of r) (λ k below. covered k (omega (arith, held.last_is))) in
      subst (λ (f : Finding). IsLineIn v bytes s.line.items (finding_status f)) (sym e) (accepted_line v bytes r found.1 hold s.line.items held.line_is)

  -- a shard that fails, if shards that hold have each segment before one of its own
  pub line_of_failed : (s : Shard) → IsShardIn v bytes s → s.finding ≡ Fails → (at : ℕ) → s.from ≤ at → ((k : ℕ) → k < at → IsCovered shards k)
      → IsLineIn v bytes s.line.items (finding_status s.finding)
  line_of_failed s is e at from covered =
      let found = found_of v bytes s Fails is e in
      let r : RecordingParts = found.0 in
      let failed : IsFailed r s = found.2 in
      let hold : HoldBelow r failed.failed = λ j below. elim (cases_lt j at) [
        | inl less ↦ segment_holds r found.1 j (covered j less)
        | inr more ↦ failed.hold j (omega (arith, from, more)) below
      ] in
      subst (λ (f : Finding). IsLineIn v bytes s.line.items (finding_status f)) (sym e)
      (false_line v bytes r found.1 failed.failed failed.part failed.within hold failed.fails s.line.items failed.line_is)

  pub line_of_refused : (s : Shard) → IsShardIn v bytes s → s.finding ≡ Refused → IsLineIn v bytes s.line.items (finding_status s.finding)
  line_of_refused s is e =
      let found = found_of v bytes s Refused is e in
      subst (λ (f : Finding). IsLineIn v bytes s.line.items (finding_status f)) (sym e)
      (fault-as-line v bytes s.line.items 2 (fault-line v bytes found.fault found.is_first s.line.items 2 found.line_is refl))

-- the shard that ends a walk decides
pub end_decides : ((v : Versions) → HasOneIn v) → (shards : List Shard) (s : Shard) → All (λ x. ¬ (x.finding ≡ Refused)) shards → IsEnd shards s → Decides shards s
end_decides one shards s named end v bytes all =
    let is : IsShardIn v bytes s = of_member (IsShardIn v bytes) shards s all end.here.is_one in
    let not_refused = of_member (λ x. ¬ (x.finding ≡ Refused)) shards s named end.here.is_one in
    by_finding s.finding refl is not_refused
  where
    by_finding : (f : Finding) → s.finding ≡ f → IsShardIn v bytes s → ¬ (s.finding ≡ Refused) → IsLineIn v bytes s.line.items (finding_status s.finding)
    by_finding Holds e is not = absurd (end.fails e)
    by_finding Fails e is not = line_of_failed v (one v) bytes shards all s is e end.at end.here.from end.before
    by_finding Refused e is not = absurd (not e)

-- how many segments there are
pub last_is : (v : Versions) → HasOneIn v → (bytes : List ℕ) (s : Shard) → IsShardIn v bytes s → ¬ (s.finding ≡ Refused) → (r : RecordingParts) → TextIn v bytes r → s.last ≡ last_of r
last_is v one bytes s is named r text = by_finding s.finding refl
  where
    by_finding : (f : Finding) → s.finding ≡ f → s.last ≡ last_of r
    by_finding Holds e = let found = found_of v bytes s Holds is e in found.2.last_is ∙ ap last_of (one bytes found.0 r found.1 text)
    by_finding Fails e = let found = found_of v bytes s Fails is e in found.2.last_is ∙ ap last_of (one bytes found.0 r found.1 text)
    by_finding Refused e = absurd (named e)

-- a shard of a recording is not refused
pub not_refused : (v : Versions) → HasEitherIn v → (bytes : List ℕ) → (r : RecordingParts) → TextIn v bytes r → (s : Shard) → IsShardIn v bytes s → ¬ (s.finding ≡ Refused)
not_refused v either bytes r text s is e =
    let found = found_of v bytes s Refused is e in
    let none = subst (λ (o : Option Fault). MatchOption o ((q : RecordingParts) × TextIn v bytes q) (λ fault. (q : RecordingParts) → ¬ (TextIn v bytes q))) found.is_first (either bytes is.are_bytes) in
    none r text

-- a shard that holds decides, if shards that hold have all segments
pub held_decides : ((v : Versions) → HasOneIn v) → (shards : List Shard) (first s : Shard) → IsOneOf shards first → ¬ (first.finding ≡ Refused)
    → ((k : ℕ) → k < first.last → IsCovered shards k) → IsOneWith shards Holds s → Decides shards s
held_decides one shards first s is_first named covered with v bytes all =
    let is : IsShardIn v bytes s = of_member (IsShardIn v bytes) shards s all with.is_one in
    let found = found_of v bytes s Holds is with.finding_is in
    let last : first.last ≡ last_of found.0 = last_is v (one v) bytes first (of_member (IsShardIn v bytes) shards first all is_first) named found.0 found.1 in
    line_of_held v (one v) bytes shards all s is with.finding_is (λ k below. covered k (omega (arith, last, found.2.last_is)))

-- a refused shard decides
pub refused_decides : (shards : List Shard) (s : Shard) → IsOneWith shards Refused s → ((v : Versions) → HasOneIn v) → Decides shards s
refused_decides shards s with one v bytes all =
    line_of_refused v (one v) bytes shards all s (of_member (IsShardIn v bytes) shards s all with.is_one) with.finding_is

-- no shard holds, and none is refused, but there is no segment left
pub none_true : (shards : List Shard) (first : Shard) → IsOneOf shards first → All (λ x. ¬ (x.finding ≡ Refused)) shards → All (λ x. ¬ (x.finding ≡ Holds)) shards
    → ((k : ℕ) → k < first.last → IsCovered shards k) → (v : Versions) (file : List ℕ) → ¬ (IsShardIn v file first)
none_true shards first is_first named failed covered v file is =
    by_finding first.finding refl
  where
    by_finding : (f : Finding) → first.finding ≡ f → ⊥
    by_finding Holds e = of_member (λ x. ¬ (x.finding ≡ Holds)) shards first failed is_first e
    by_finding Refused e = of_member (λ x. ¬ (x.finding ≡ Refused)) shards first named is_first e
    by_finding Fails e =
        let found = found_of v file first Fails is e in
        let some : 0 < first.last = omega (arith, found.2.within, found.2.last_is) in
        let c = covered 0 some in
        of_member (λ x. ¬ (x.finding ≡ Holds)) shards c.shard failed c.is_one c.holds

-- no shard has a segment of the gap
pub gap_missing : (shards : List Shard) (at last end : ℕ) → IsGap shards last at → IsGapEnd shards at last end
    → All (λ s. (k : ℕ) → at ≤ k → k ≤ end → ¬ ((s.from ≤ k) × (k < s.to))) shards
gap_missing shards at last end gap is n d inside k above below has =
    elim (cases_lt at (get_or shards n d).from) [
      | inl after ↦ (let beyond = is.none n d inside after (omega (arith, has.0, has.1)) in absurd (omega (arith, beyond, below, has.0)))
      | inr before ↦ gap.missing n d inside (before, omega (arith, above, has.1))
    ]

-- a shard that holds covers all its segments
pub covered_more : (shards : List Shard) (at : ℕ) (s : Shard) → ((k : ℕ) → k < at → IsCovered shards k) → IsAt shards at s → s.finding ≡ Holds
    → (k : ℕ) → k < s.to → IsCovered shards k
covered_more shards at s before here holds k below =
    elim (cases_lt k at) [
      | inl less ↦ before k less
      | inr more ↦ record { shard = s; is_one = here.is_one; holds = holds; from = omega (arith, here.from, more); to = below }
    ]
