-- The shard of a stretch of segments, and that of bytes with a fault.
use Rattle.std.proofs.Common.{◌≡◌, ℕ, ◌-◌, List, Some, sym, ◌∙◌, subst}
use Rattle.oberon_format.specs.Recording.{RecordingParts}
use Rattle.oberon_format.specs.Text.{AreBytes}
use Rattle.oberon_format.specs.declared.fault.Fault.{Fault}
use Rattle.oberon_check.specs.declared.versions.Versions.{Versions}
use Rattle.oberon_check.specs.Versions.{TextIn, first_fault_in}
use Rattle.oberon_check.proofs.InVersions.{HasOneIn}
use Rattle.sha2.specs.Sha256.{sha256}
use Rattle.oberon_shards.specs.declared.shard.Shard.{Shard}
use Rattle.oberon_shards.specs.declared.shard.Finding.{Finding}
use Rattle.oberon_shards.specs.declared.shard.Finding.TheVariants.{Holds, Fails, Refused}
use Rattle.oberon_shards.specs.Border.{IsBetween, IsBorder}
use Rattle.oberon_shards.specs.Shard.{IsFound, IsShardIn}
use Rattle.oberon_shards.specs.inner.Stretch.{IsFault, IsFoundIn, IsStretch}

pub between : (v : Versions) → HasOneIn v → (bytes : List ℕ) (q : RecordingParts) → TextIn v bytes q → (index of from end : ℕ) (digest : List ℕ) → IsBorder q (index - 1) of from
    → IsBorder q index of end → (s : Shard) → IsStretch q digest from end s → ¬ (s.finding ≡ Refused) → (r : RecordingParts)
    → TextIn v bytes r → IsBetween r index of s
between v one bytes q is index of from end digest low high s stretch read r text =
    subst (λ (x : RecordingParts). IsBetween x index of s) (one bytes q r is text) (record {
      read = read;
      end = end;
      from_is = subst (λ (n : ℕ). IsBorder q (index - 1) of n) (sym stretch.from_is) low;
      end_is = high;
      to_end = stretch.to_end;
      to_is = stretch.to_is;
    })

pub faulty_shard : (v : Versions) (bytes digest : List ℕ) (fault : Fault) → AreBytes bytes → digest ≡ sha256 bytes → first_fault_in v bytes ≡ Some fault → (s : Shard) → IsFault digest fault s → IsShardIn v bytes s
faulty_shard v bytes digest fault are named first s is = record {
  are_bytes = are;
  digest_is = is.digest_is ∙ named;
  count_fits = is.count_fits;
  found = subst (λ (f : Finding). IsFound v bytes f s) (sym is.finding_is) (record { fault = fault; is_first = first; from_is = is.from_is; to_is = is.to_is; last_is = is.last_is; count_is = is.count_is; line_is = is.line_is });
}

found_in : (v : Versions) (bytes : List ℕ) (r : RecordingParts) → TextIn v bytes r → (s : Shard) (f : Finding) → IsFoundIn r f s → IsFound v bytes f s
found_in v bytes r text s Holds is = (r, text, is)
found_in v bytes r text s Fails is = (r, text, is)
found_in v bytes r text s Refused is = absurd is

pub stretch_shard : (v : Versions) (bytes digest : List ℕ) (r : RecordingParts) → AreBytes bytes → digest ≡ sha256 bytes → TextIn v bytes r → (from end : ℕ) (s : Shard)
    → IsStretch r digest from end s → IsShardIn v bytes s
stretch_shard v bytes digest r are named text from end s is =
    record { are_bytes = are; digest_is = is.digest_is ∙ named; count_fits = is.count_fits; found = found_in v bytes r text s s.finding is.found }
