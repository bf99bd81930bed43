-- What each command answers to the bytes of an input.
use Rattle.std.specs.Prelude.{ℕ, ◌+◌, List, Option, Some, None, take}
use Rattle.oberon_check.specs.declared.versions.Versions.{Versions}
use Rattle.oberon_check.specs.declared.versions.Versions.TheVariants.{WithoutDisk, WithDisk}
use Rattle.oberon_check.specs.HeadlineWithDisk.{IsLineIn}
use Rattle.oberon_answers.specs.Migrate.{IsMigrationIn}
use Rattle.oberon_answers.specs.Record.{IsRecordIn}
use Rattle.oberon_answers.specs.Screen.{IsScreenIn}
use Rattle.oberon_cli.specs.declared.arguments.Request.{Request}
use Rattle.oberon_cli.specs.declared.arguments.Request.TheVariants.{Check, Combine, Migrate, Record, Screen, Shard}
use Rattle.oberon_shards.specs.Combination.{IsCombination, IsShardReportIn}
use Rattle.oberon_shards.specs.declared.fault.TheConstants.{LONGEST_SHARDS}
use Rattle.oberon_format.specs.declared.layout.TheConstants.{LONGEST_RECORDING, LONGEST_WITH_DISK}
use Rattle.recording_limits.specs.declared.limits.TheConstants.{LONGEST_SESSION}

-- the longest file of a recording in these versions
abbrev pub longest_in : Versions → ℕ
longest_in WithoutDisk = LONGEST_RECORDING
longest_in WithDisk = LONGEST_WITH_DISK

-- the most bytes that the command reads: one more than the longest file of a recording, of a session, or of lines of shards
abbrev pub limit_of : Request → ℕ
limit_of (Check versions workers cut) = longest_in versions + 1
limit_of (Shard versions index of) = longest_in versions + 1
limit_of Combine = LONGEST_SHARDS + 1
limit_of (Record versions) = LONGEST_SESSION + 1
limit_of (Screen versions at) = longest_in versions + 1
limit_of (Migrate versions) = longest_in versions + 1

-- the most bytes that are read if the arguments ask for this: none if they ask for no command
abbrev pub limit_for : Option Request → ℕ
limit_for (Some request) = limit_of request
limit_for None = 0

-- these bytes, with this status, are the answer of the command to the input, in the versions that it takes. Workers and cut have no effect
-- on it. A shard is one of the bytes that are read, which a recording file fits into
abbrev pub IsAnswer : Request → List ℕ → List ℕ → ℕ → Type 0
IsAnswer (Check versions workers cut) input output status = IsLineIn versions input output status
IsAnswer (Shard versions index of) input output status =
    IsShardReportIn versions (take (longest_in versions + 1) input) index of output status
IsAnswer Combine input output status = IsCombination input output status
IsAnswer (Record versions) input output status = IsRecordIn versions input output status
IsAnswer (Screen versions at) input output status = IsScreenIn versions at input output status
IsAnswer (Migrate versions) input output status = IsMigrationIn versions input output status
