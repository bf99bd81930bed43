-- Two shards that are true of one file do not contradict each other.
use Rattle.std.proofs.Common.{◌≡◌, ◌≢◌, ℕ, ◌+◌, ◌<◌, ◌≤◌, List, Bool, not, true, false, None, Some, refl, ap, sym, ◌∙◌, arith, subst, get_or, length}
use Rattle.std.specs.Prelude.{All, IsTrue}
use Rattle.std.specs.Str.{bytes_eq}
use Rattle.std.proofs.lemmas.Slice.Eq.{bytes_eq-Decides}
use Rattle.oberon_format.specs.Defined.{claimed}
use Rattle.oberon_format.specs.Line.{fault_line}
use Rattle.oberon_format.specs.Recording.{RecordingParts, count_at, last_of}
use Rattle.oberon_check.specs.declared.versions.Versions.{Versions}
use Rattle.oberon_check.specs.Versions.{TextIn}
use Rattle.oberon_check.specs.declared.verdict.Verdict.TheVariants.{Accepted}
use Rattle.oberon_check.specs.Difference.{first_difference}
use Rattle.oberon_check.specs.Line.{line_of}
use Rattle.oberon_check.specs.Segment.{IsSegmentPart, replayed}
use Rattle.oberon_check.proofs.InVersions.{HasEitherIn, HasOneIn, lawful_in}
use Rattle.oberon_check.proofs.Parts.{not_first}
use Rattle.oberon_shards.specs.declared.shard.Shard.{Shard}
use Rattle.oberon_shards.specs.declared.shard.Finding.{Finding}
use Rattle.oberon_shards.specs.declared.shard.Finding.TheVariants.{Holds, Fails, Refused}
use Rattle.oberon_shards.specs.Combining.{Agree, AgreeAs, Rise}
use Rattle.oberon_shards.specs.Shard.{IsFailed, IsShardIn}
use Rattle.oberon_shards.proofs.Counts.{rise_between}
use Rattle.oberon_shards.proofs.Members.{found_of, last_is, not_refused}

-- a test and its opposite
pub not_both : (b : Bool) → IsTrue (not b) → IsTrue b → ⊥
not_both b other is = let bad : not true ≡ true = rw is at other in absurd cc

pub never_both : (b : Bool) → b ≡ false → ¬ (IsTrue b)
never_both b is holds = let bad : false ≡ true = sym is ∙ holds in absurd cc

rise_same : {a b c d w x y z : ℕ} → w ≡ a → x ≡ b → y ≡ c → z ≡ d → Rise a b c d → Rise w x y z
rise_same ea eb ec ed is = rw (ea, eb, ec, ed) is

-- lists that the test `!=` finds to differ
pub unlike : (xs ys : List ℕ) (differ : Bool) → differ ≡ not (bytes_eq xs ys) → IsTrue differ → xs ≢ ys
unlike xs ys differ is differs same =
    let found : bytes_eq xs ys ≡ true = (bytes_eq-Decides xs ys).1 same in
    let bad : not true ≡ true = rw (is, found) at differs in
    absurd cc

module _ (v : Versions) (one : HasOneIn v) (either : HasEitherIn v) (file : List ℕ) (a b : Shard) (is_a : IsShardIn v file a) (is_b : IsShardIn v file b) where
  -- if one is refused, so is the other
  pub both_refused : a.finding ≡ Refused → b.finding ≢ Refused → ⊥
  both_refused refused not = by_finding b.finding refl
    where
      by_finding : (f : Finding) → b.finding ≡ f → ⊥
      by_finding Holds e = let found = found_of v file b Holds is_b e in not_refused v either file found.0 found.1 a is_a refused
      by_finding Fails e = let found = found_of v file b Fails is_b e in not_refused v either file found.0 found.1 a is_a refused
      by_finding Refused e = not e

  -- they have the same number of segments
  pub same_last : a.last ≡ b.last
  same_last = go a.finding b.finding refl refl
    where
      of_recording : (r : RecordingParts) → TextIn v file r → a.last ≡ last_of r → a.last ≡ b.last
      of_recording r text is = is ∙ sym (last_is v one file b is_b (not_refused v either file r text b is_b) r text)

      go : (f g : Finding) → a.finding ≡ f → b.finding ≡ g → a.last ≡ b.last
      go Holds g ea eb = let found = found_of v file a Holds is_a ea in of_recording found.0 found.1 found.2.last_is
      go Fails g ea eb = let found = found_of v file a Fails is_a ea in of_recording found.0 found.1 found.2.last_is
      go Refused Refused ea eb = (found_of v file a Refused is_a ea).last_is ∙ sym ((found_of v file b Refused is_b eb).last_is)
      go Refused Holds ea eb = absurd (both_refused ea (λ e. let bad : Holds ≡ Refused = sym eb ∙ e in absurd cc))
      go Refused Fails ea eb = absurd (both_refused ea (λ e. let bad : Fails ≡ Refused = sym eb ∙ e in absurd cc))

module _ (v : Versions) (one : HasOneIn v) (file : List ℕ) (a b : Shard) (is_a : IsShardIn v file a) (is_b : IsShardIn v file b) where
  -- shards that hold have one line
  pub held_line : a.finding ≡ Holds → b.finding ≡ Holds → a.line.items ≡ b.line.items
  held_line ea eb =
      let x = found_of v file a Holds is_a ea in
      let y = found_of v file b Holds is_b eb in
      let same : x.0 ≡ y.0 = one file x.0 y.0 x.1 y.1 in
      x.2.line_is ∙ ap (λ (r : RecordingParts). line_of (Accepted (last_of r) (count_at r (last_of r)))) same ∙ sym y.2.line_is

  -- shards that are refused have one line
  pub refused_line : a.finding ≡ Refused → b.finding ≡ Refused → a.line.items ≡ b.line.items
  refused_line ea eb =
      let x = found_of v file a Refused is_a ea in
      let y = found_of v file b Refused is_b eb in
      let both = sym x.is_first ∙ y.is_first in
      let same : x.fault ≡ y.fault = cc in
      x.line_is ∙ ap fault_line same ∙ sym y.line_is

  -- the segment that fails by the one does not hold by the other
  pub not_held : (r : RecordingParts) → TextIn v file r → a.finding ≡ Fails → (k : ℕ) → a.to ≡ k + 1 → ¬ (IsSegmentPart r k None)
  not_held r text ea k to held =
      let x = found_of v file a Fails is_a ea in
      let same : x.0 ≡ r = one file x.0 r x.1 text in
      let failed : IsFailed r a = subst (λ (q : RecordingParts). IsFailed q a) same x.2 in
      let segment : failed.failed ≡ k = omega (arith, failed.to_is, to) in
      let fails : IsSegmentPart r k (Some failed.part) = subst (λ (n : ℕ). IsSegmentPart r n (Some failed.part)) segment failed.fails in
      not_first (claimed r (k + 1)) (replayed r k) failed.part held fails

  pub held_there : a.finding ≡ Fails → b.finding ≡ Holds → b.from < a.to → a.to ≤ b.to → ⊥
  held_there ea eb from to =
      let x = found_of v file a Fails is_a ea in
      let y = found_of v file b Holds is_b eb in
      not_held y.0 y.1 ea x.2.failed x.2.to_is (y.2.hold x.2.failed (omega (arith, x.2.to_is, from)) (omega (arith, x.2.to_is, to)))

  pub held_before : a.finding ≡ Fails → b.finding ≡ Fails → b.from < a.to → a.to < b.to → ⊥
  held_before ea eb from to =
      let x = found_of v file a Fails is_a ea in
      let y = found_of v file b Fails is_b eb in
      not_held y.0 y.1 ea x.2.failed x.2.to_is (y.2.hold x.2.failed (omega (arith, x.2.to_is, from)) (omega (arith, x.2.to_is, y.2.to_is, to)))

  -- shards that fail at one segment have one line
  pub failed_line : a.finding ≡ Fails → b.finding ≡ Fails → a.to ≡ b.to → a.line.items ≡ b.line.items
  failed_line ea eb to =
      let x = found_of v file a Fails is_a ea in
      let y = found_of v file b Fails is_b eb in
      let r : RecordingParts = y.0 in
      let failed : IsFailed r a = subst (λ (q : RecordingParts). IsFailed q a) (one file x.0 y.0 x.1 y.1) x.2 in
      let k : ℕ = y.2.failed in
      let segment : failed.failed ≡ k = omega (arith, failed.to_is, y.2.to_is, to) in
      let fails : first_difference (claimed r (k + 1)) (replayed r k) ≡ Some failed.part =
      subst (λ (n : ℕ). first_difference (claimed r (n + 1)) (replayed r n) ≡ Some failed.part) segment failed.fails in
      let both = sym fails ∙ y.2.fails in
      let part : failed.part ≡ y.2.part = cc in
      failed.line_is ∙ rw (segment, part) refl ∙ sym y.2.line_is

  -- the last count is not too low for the one that fails
  pub rises_to_last : a.finding ≡ Fails → b.finding ≡ Holds → Rise a.to a.count b.last b.count
  rises_to_last ea eb =
      let x = found_of v file a Fails is_a ea in
      let y = found_of v file b Holds is_b eb in
      let r : RecordingParts = y.0 in
      let failed : IsFailed r a = subst (λ (q : RecordingParts). IsFailed q a) (one file x.0 y.0 x.1 y.1) x.2 in
      rise_same failed.to_is failed.count_is y.2.last_is y.2.count_is
      (rise_between r (lawful_in v file r y.1) (failed.failed + 1) (last_of r) (omega (arith, failed.within)) (omega arith))

  -- the counts of false checkpoints rise
  pub rises_to : a.finding ≡ Fails → b.finding ≡ Fails → a.to < b.to → Rise a.to a.count b.to b.count
  rises_to ea eb before =
      let x = found_of v file a Fails is_a ea in
      let y = found_of v file b Fails is_b eb in
      let r : RecordingParts = y.0 in
      let failed : IsFailed r a = subst (λ (q : RecordingParts). IsFailed q a) (one file x.0 y.0 x.1 y.1) x.2 in
      let second : IsFailed r b = y.2 in
      let order : failed.failed + 1 ≤ second.failed + 1 = omega (arith, before, failed.to_is, second.to_is) in
      rise_same failed.to_is failed.count_is second.to_is second.count_is
      (rise_between r (lawful_in v file r y.1) (failed.failed + 1) (second.failed + 1) order (omega (arith, second.within)))

pub holds_alone : Holds ≡ Refused → ⊥
holds_alone e = absurd cc

-- lists that the test `!=` finds to be the same
pub alike : (xs ys : List ℕ) (differ : Bool) → differ ≡ not (bytes_eq xs ys) → ¬ (IsTrue differ) → xs ≡ ys
alike xs ys differ is differs = (bytes_eq-Decides xs ys).0 (not_false (bytes_eq xs ys) (λ e. differs (rw (is, e) refl)))
  where
    not_false : (b : Bool) → (b ≡ false → ⊥) → b ≡ true
    not_false true never = refl
    not_false false never = absurd (never refl)

-- what one shard that does not fail says of the others, another that it agrees with says, too
pub same_finding : (a b : Shard) → Agree a b → ¬ (a.finding ≡ Fails) → ¬ (b.finding ≡ Fails) → a.finding ≡ b.finding
same_finding a b is na nb = go a.finding b.finding na nb is.1
  where
    go : (f g : Finding) → ¬ (f ≡ Fails) → ¬ (g ≡ Fails) → AgreeAs f g a b → f ≡ g
    go Holds Holds nf ng agree = refl
    go Refused Refused nf ng agree = refl
    go Holds Refused nf ng agree = absurd agree
    go Refused Holds nf ng agree = absurd agree
    go Fails g nf ng agree = absurd (nf refl)
    go Holds Fails nf ng agree = absurd (ng refl)
    go Refused Fails nf ng agree = absurd (ng refl)

pub agree_alike : (a b c : Shard) → ¬ (a.finding ≡ Fails) → ¬ (b.finding ≡ Fails) → Agree a b → Agree a c → Agree b c
agree_alike a b c na nb ab ac =
    let both = same_finding a b ab na nb in
    let line : AgreeAs b.finding b.finding a b = subst (λ (f : Finding). AgreeAs f b.finding a b) both ab.1 in
    let other : AgreeAs b.finding c.finding a c = subst (λ (f : Finding). AgreeAs f c.finding a c) both ac.1 in
    (sym ab.0 ∙ ac.0, go b.finding c.finding nb line other)
  where
    go : (f g : Finding) → ¬ (f ≡ Fails) → AgreeAs f f a b → AgreeAs f g a c → AgreeAs f g b c
    go Holds Holds nf line other = sym line ∙ other
    go Holds Fails nf line other = tt
    go Holds Refused nf line other = other
    go Refused Holds nf line other = other
    go Refused Fails nf line other = other
    go Refused Refused nf line other = sym line ∙ other
    go Fails g nf line other = absurd (nf refl)

-- the row of a shard that does not fail, after one that does not fail and agrees with all
pub row_alike : (shards : List Shard) (like one : ℕ) → one < length shards → like < length shards
    → ((d : Shard) → ¬ ((get_or shards like d).finding ≡ Fails)) → ((d : Shard) → ¬ ((get_or shards one d).finding ≡ Fails))
    → ((d : Shard) → All (Agree (get_or shards like d)) shards) → (d : Shard) → All (Agree (get_or shards one d)) shards
row_alike shards like one inside before na nb row d k e there =
    agree_alike (get_or shards like d) (get_or shards one d) (get_or shards k e) (na d) (nb d) (row d one d inside) (row d k e there)
