-- What is known of a shard of a check: a stretch of a recording's segments was replayed. This project's own choice.
use Rattle.std.specs.Prelude.{ℕ, ◌≡◌, ◌+◌, ◌<◌, ◌≤◌, ◌^◌, List, ◌++◌, None, Some, codes}
use Rattle.std.specs.Fmt.{decimal}
use Rattle.sha2.specs.Sha256.{sha256}
use Rattle.hex.specs.Hex.{encode_lower}
use Rattle.oberon_format.specs.declared.fault.Fault.{Fault}
use Rattle.oberon_format.specs.declared.fault.Fault.TheVariants.{Short, Magic, Version, Limit, Event, Checkpoint, Page, Trailing}
use Rattle.oberon_format.specs.declared.fault.Fault.TheVariants.{Memory}
use Rattle.oberon_format.specs.Recording.{RecordingParts, count_at, last_of}
use Rattle.oberon_format.specs.Text.{AreBytes}
use Rattle.oberon_format.specs.Line.{fault_line}
use Rattle.oberon_check.specs.declared.part.Part.{Part}
use Rattle.oberon_check.specs.declared.verdict.Verdict.TheVariants.{Accepted, FalseAt}
use Rattle.oberon_check.specs.declared.versions.Versions.{Versions}
use Rattle.oberon_check.specs.declared.versions.Versions.TheVariants.{WithoutDisk}
use Rattle.oberon_check.specs.Segment.{IsSegmentPart}
use Rattle.oberon_check.specs.Versions.{TextIn, first_fault_in}
use Rattle.oberon_check.specs.Line.{line_of}
use Rattle.oberon_shards.specs.declared.shard.Shard.{Shard}
use Rattle.oberon_shards.specs.declared.shard.Finding.{Finding}
use Rattle.oberon_shards.specs.declared.shard.Finding.TheVariants.{Holds, Fails, Refused}

-- the segments from `from` to `to - 1` hold
abbrev pub Hold : RecordingParts → ℕ → ℕ → Type 0
Hold r from to = (s : ℕ) → from ≤ s → s < to → IsSegmentPart r s None

-- all segments of the shard hold. Its line is that of the recording if all others hold, too
pub record IsHeld (r : RecordingParts) (s : Shard) : Type 0 where
  pub order : s.from ≤ s.to
  pub within : s.to ≤ last_of r
  pub last_is : s.last ≡ last_of r
  pub count_is : s.count ≡ count_at r (last_of r)
  pub hold : Hold r s.from s.to
  pub line_is : s.line.items ≡ line_of (Accepted (last_of r) (count_at r (last_of r)))

-- the last segment of the shard fails, with this part, and those before it hold. Its line is that of the recording if the segments
-- before the shard hold, too
pub record IsFailed (r : RecordingParts) (s : Shard) : Type 0 where
  pub failed : ℕ
  pub part : Part
  pub order : s.from ≤ failed
  pub to_is : s.to ≡ failed + 1
  pub within : failed < last_of r
  pub last_is : s.last ≡ last_of r
  pub count_is : s.count ≡ count_at r (failed + 1)
  pub hold : Hold r s.from failed
  pub fails : IsSegmentPart r failed (Some part)
  pub line_is : s.line.items ≡ line_of (FalseAt (failed + 1) (count_at r (failed + 1)) part)

-- the byte of a fault
abbrev pub byte_of : Fault → ℕ
byte_of (Short byte) = byte
byte_of (Magic byte) = byte
byte_of (Version byte) = byte
byte_of (Limit byte) = byte
byte_of (Event byte) = byte
byte_of (Checkpoint byte) = byte
byte_of (Page byte) = byte
byte_of (Trailing byte) = byte
byte_of Memory = 0

-- the bytes have a first fault, the line is that of the fault, and there are no segments
pub record IsFaulty (versions : Versions) (bytes : List ℕ) (s : Shard) : Type 0 where
  pub fault : Fault
  pub is_first : first_fault_in versions bytes ≡ Some fault
  pub from_is : s.from ≡ 0
  pub to_is : s.to ≡ 0
  pub last_is : s.last ≡ 0
  pub count_is : s.count ≡ byte_of fault
  pub line_is : s.line.items ≡ fault_line fault

-- what was found in the recording of the bytes, or of the bytes themselves
abbrev pub IsFound : Versions → List ℕ → Finding → Shard → Type 0
IsFound versions bytes Holds s = (r : RecordingParts) × TextIn versions bytes r × IsHeld r s
IsFound versions bytes Fails s = (r : RecordingParts) × TextIn versions bytes r × IsFailed r s
IsFound versions bytes Refused s = IsFaulty versions bytes s

-- the shard has the digest of these bytes, and what it says of them is true, if files may have these versions. No machine, worker or order
-- is mentioned
pub record IsShardIn (versions : Versions) (bytes : List ℕ) (s : Shard) : Type 0 where
  pub are_bytes : AreBytes bytes
  pub digest_is : s.digest ≡ sha256 bytes
  pub count_fits : s.count < 2 ^ 64
  pub found : IsFound versions bytes s.finding s

-- the same of a file without a disk
abbrev pub IsShardOf : List ℕ → Shard → Type 0
IsShardOf = IsShardIn WithoutDisk

-- the exit status of a check that this finding decides: 0 holds, 1 fails, 2 refused
abbrev pub finding_status : Finding → ℕ
finding_status Holds = 0
finding_status Fails = 1
finding_status Refused = 2

-- the word of a finding
abbrev pub finding_word : Finding → List ℕ
finding_word Holds = codes "holds"
finding_word Fails = codes "fails"
finding_word Refused = codes "refused"

-- the line of a shard: the digest of the file in hexadecimal digits, as `sha256sum` prints it, three numbers in decimal, the finding, and
-- the line of the recording if this shard decides it
abbrev pub shard_line : Shard → List ℕ
shard_line s =
    codes "shard "
    ++ (encode_lower s.digest ++ (codes " " ++ (decimal s.from ++ (codes " " ++ (decimal s.to ++ (codes " " ++ (decimal s.last
    ++ (codes " " ++ (finding_word s.finding ++ (codes ": " ++ s.line.items))))))))))
