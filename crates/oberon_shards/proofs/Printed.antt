-- What is true of a file has a line that can be read back.
use Rattle.std.proofs.Common.{◌≡◌, ◌∙◌, ℕ, zero, suc, ◌+◌, ◌<◌, ◌≤◌, List, [], ◌∷◌, ◌++◌, Option, IfSome, arith, sym, ap, subst, length}
use Rattle.std.specs.Int.{byte_at, bytes_high_first}
use Rattle.hex.specs.Hex.{IsBytes}
use Rattle.sha2.specs.Sha256.{digest_bytes, sha256}
use Rattle.sha2.proofs.Facts256.{length-sha256}
use Rattle.risc_model.specs.declared.inputs.TheConstants.{MAX_COUNT}
use Rattle.oberon_check.specs.declared.versions.Versions.{Versions}
use Rattle.oberon_check.proofs.InVersions.{lawful_in, named_in}
use Rattle.oberon_format.specs.Defined.{claimed}
use Rattle.oberon_format.specs.Line.{IsNamedFault}
use Rattle.oberon_format.specs.Recording.{RecordingParts, count_at, last_of}
use Rattle.oberon_format.specs.declared.fault.Fault.{Fault}
use Rattle.recording_limits.specs.declared.limits.TheConstants.{LAST_CHECKPOINT}
use Rattle.oberon_check.specs.Segment.{replayed}
use Rattle.oberon_shards.specs.declared.shard.Shard.{Shard}
use Rattle.oberon_shards.specs.declared.shard.Finding.{Finding}
use Rattle.oberon_shards.specs.declared.shard.Finding.TheVariants.{Holds, Fails, Refused}
use Rattle.oberon_shards.specs.Shard.{IsFailed, IsFound, IsHeld, IsShardIn}
use Rattle.oberon_shards.specs.Lines.{HasLine, IsInRanges, IsPrintable, IsSame}
use Rattle.oberon_shards.proofs.Counts.{counts_between}
use Rattle.oberon_shards.proofs.PartNames.{part_inside}

-- a digest has bytes
bytes_append : (xs ys : List ℕ) → IsBytes xs → IsBytes ys → IsBytes (xs ++ ys)
bytes_append [] ys first second k = second k
bytes_append (x ∷ xs) ys first second zero = first 0
bytes_append (x ∷ xs) ys first second (suc k) = bytes_append xs ys (λ i. first (suc i)) second k

byte_fits : (k n : ℕ) → byte_at k n < 256
byte_fits zero n = omega arith
byte_fits (suc k) n = omega arith

word_bytes : (k n : ℕ) → IsBytes (bytes_high_first k n)
word_bytes zero n i = omega arith
word_bytes (suc k) n zero = byte_fits k n
word_bytes (suc k) n (suc i) = word_bytes k n i

digest_are_bytes : (words : List ℕ) (n : ℕ) → IsBytes (digest_bytes words n)
unfolding digest_bytes
digest_are_bytes words zero = λ k. omega arith
digest_are_bytes words (suc n) = bytes_append (digest_bytes words n) _ (digest_are_bytes words n) (word_bytes 4 _)

sha256_bytes : (bytes : List ℕ) → IsBytes (sha256 bytes)
unfolding sha256
sha256_bytes bytes = digest_are_bytes _ 8

-- the numbers of a shard, and its line
few : (v : Versions) (file : List ℕ) (s : Shard) (f : Finding) → IsFound v file f s → s.last ≤ LAST_CHECKPOINT
few v file s Holds is = omega (arith, (lawful_in v file is.0 is.1).few, (lawful_in v file is.0 is.1).some, is.2.last_is)
few v file s Fails is = omega (arith, (lawful_in v file is.0 is.1).few, (lawful_in v file is.0 is.1).some, is.2.last_is)
few v file s Refused is = omega (arith, is.last_is)

in_ranges : (v : Versions) (file : List ℕ) (s : Shard) (f : Finding) → IsFound v file f s → IsInRanges f s
in_ranges v file s Holds is =
    let r : RecordingParts = is.0 in
    let lawful = lawful_in v file r is.1 in
    let held : IsHeld r s = is.2 in
    let most : count_at r (last_of r) ≤ MAX_COUNT = (lawful.fit (last_of r) (omega (arith, lawful.some))).bounded in
    let least = counts_between r lawful 0 (last_of r) (omega arith) (omega arith) in (
      held.order,
      omega (arith, held.within, held.last_is),
      omega (arith, least, held.last_is, held.count_is),
      omega (arith, most, held.count_is),
      λ none.
          let end : last_of r ≡ 0 = omega (arith, held.last_is, none) in
          let first : count_at r (last_of r) ≡ count_at r 0 = ap (count_at r) end in
          omega (arith, held.count_is, first, lawful.begins),
    )
in_ranges v file s Fails is =
    let r : RecordingParts = is.0 in
    let lawful = lawful_in v file r is.1 in
    let failed : IsFailed r s = is.2 in
    let k : ℕ = failed.failed in
    let most : count_at r (last_of r) ≤ MAX_COUNT = (lawful.fit (last_of r) (omega (arith, lawful.some))).bounded in
    let least = counts_between r lawful 0 (k + 1) (omega arith) (omega (arith, failed.within)) in
    let after = counts_between r lawful (k + 1) (last_of r) (omega (arith, failed.within)) (omega arith) in (
      omega (arith, failed.order, failed.to_is),
      omega (arith, failed.within, failed.to_is, failed.last_is),
      omega (arith, least, failed.to_is, failed.count_is),
      omega (arith, after, most, failed.to_is, failed.last_is, failed.count_is),
    )
in_ranges v file s Refused is = (is.from_is, is.to_is, is.last_is)

line_is : (v : Versions) (file : List ℕ) (s : Shard) (f : Finding) → IsFound v file f s → HasLine f s.to s.last s.count s.line.items
line_is v file s Holds is = rw (is.2.last_is, is.2.count_is) is.2.line_is
line_is v file s Fails is =
    let r : RecordingParts = is.0 in
    let failed : IsFailed r s = is.2 in (
      failed.part,
      part_inside (claimed r (failed.failed + 1)) (replayed r failed.failed) failed.part failed.fails,
      rw (failed.to_is, failed.count_is) failed.line_is,
    )
line_is v file s Refused is =
    let named : IsNamedFault is.fault = subst (λ (o : Option Fault). IfSome o IsNamedFault) is.is_first (named_in v file) in
    (is.fault, named, sym is.count_is, is.line_is)

pub printable : (v : Versions) (file : List ℕ) (s : Shard) → IsShardIn v file s → IsPrintable s
printable v file s is = record {
  digest_length = ap length is.digest_is ∙ length-sha256 file;
  digest_bytes = subst IsBytes (sym is.digest_is) (sha256_bytes file);
  few = few v file s s.finding is.found;
  count_fits = is.count_fits;
  in_ranges = in_ranges v file s s.finding is.found;
  line = line_is v file s s.finding is.found;
}

-- shards with the same parts are of the same files
found_same : (v : Versions) (file : List ℕ) (s t : Shard) (f : Finding) → IsSame s t → IsFound v file f s → IsFound v file f t
found_same v file s t Holds same is = (
  is.0,
  is.1,
  record {
    order = rw (same.from_is, same.to_is) is.2.order;
    within = rw same.to_is is.2.within;
    last_is = same.last_is ∙ is.2.last_is;
    count_is = same.count_is ∙ is.2.count_is;
    hold = rw (same.from_is, same.to_is) is.2.hold;
    line_is = same.line_is ∙ is.2.line_is;
  },
)
found_same v file s t Fails same is = (
  is.0,
  is.1,
  record {
    failed = is.2.failed;
    part = is.2.part;
    order = rw same.from_is is.2.order;
    to_is = same.to_is ∙ is.2.to_is;
    within = is.2.within;
    last_is = same.last_is ∙ is.2.last_is;
    count_is = same.count_is ∙ is.2.count_is;
    hold = rw same.from_is is.2.hold;
    fails = is.2.fails;
    line_is = same.line_is ∙ is.2.line_is;
  },
)
found_same v file s t Refused same is = record {
  fault = is.fault;
  is_first = is.is_first;
  from_is = same.from_is ∙ is.from_is;
  to_is = same.to_is ∙ is.to_is;
  last_is = same.last_is ∙ is.last_is;
  count_is = same.count_is ∙ is.count_is;
  line_is = same.line_is ∙ is.line_is;
}

pub same_shard : (v : Versions) (file : List ℕ) (s t : Shard) → IsSame s t → IsShardIn v file s → IsShardIn v file t
same_shard v file s t same is = record {
  are_bytes = is.are_bytes;
  digest_is = same.digest_is ∙ is.digest_is;
  count_fits = rw same.count_is is.count_fits;
  found = subst (λ (f : Finding). IsFound v file f t) (sym same.finding_is) (found_same v file s t s.finding same is.found);
}
