-- The numbers of a request, why its arguments are refused, and the reply to them.
use Rattle.std.specs.Prelude.{ℕ, ◌≡◌, ◌≤◌, List, Some, None, Result, Ok, Err, ⊤}
use Rattle.clap.specs.Walk.{Text}
use Rattle.clap.specs.declared.error.Error.{Error}
use Rattle.clap.specs.declared.error.kind.ErrorKind.{ErrorKind}
use Rattle.clap.specs.declared.error.kind.ErrorKind.TheVariants.{DisplayHelp, OutOfMemory}
use Rattle.oberon_cli.specs.declared.arguments.Request.{Request}
use Rattle.oberon_cli.specs.declared.arguments.Request.TheVariants.{Check, Combine, Migrate, Record, Screen, Shard}
use Rattle.oberon_cli.specs.declared.arguments.Refusal.{Refusal}
use Rattle.oberon_cli.specs.declared.arguments.Refusal.TheVariants.{Help, Words, Memory}
use Rattle.oberon_cli.specs.declared.choice.ShardChoice.{ShardChoice}
use Rattle.oberon_cli.specs.declared.choice.NoShard.{NoShard}
use Rattle.oberon_shards.specs.declared.border.TheConstants.{MAX_SHARDS}
use Rattle.oberon_claims.specs.declared.claims.TheConstants.{MAX_WORKERS}
use Rattle.recording_limits.specs.declared.limits.TheConstants.{LAST_CHECKPOINT}
use Rattle.oberon_answers.specs.declared.answer.Answer.{Answer}
use Rattle.oberon_cli.specs.Asked.{IsHelp, IsRefused, shard_of}
use Rattle.oberon_cli.specs.Reply.{IsReplyTo, Outcome, outcome_status, outcome_text}
use Rattle.oberon_cli.specs.Transfer.{Known}

-- the numbers of a request are in their ranges
abbrev pub IsWithinLimits : Request → Type 0
IsWithinLimits (Check versions workers cut) = (1 ≤ workers) × (workers ≤ MAX_WORKERS) × (1 ≤ cut) × (cut ≤ LAST_CHECKPOINT)
IsWithinLimits (Shard versions index of) = (1 ≤ index) × (index ≤ of) × (of ≤ MAX_SHARDS)
IsWithinLimits Combine = ⊤
IsWithinLimits (Record versions) = ⊤
IsWithinLimits (Screen versions at) = at ≤ LAST_CHECKPOINT
IsWithinLimits (Migrate versions) = ⊤

-- the shard that a text chooses, or an error if it chooses none
abbrev pub IsChoice : List ℕ → Result ShardChoice NoShard → Type 0
IsChoice text (Ok choice) =
    (shard_of text ≡ Some (choice.index, choice.of)) × (1 ≤ choice.index) × (choice.index ≤ choice.of) × (choice.of ≤ MAX_SHARDS)
IsChoice text (Err why) = shard_of text ≡ None

-- the refusal that an error of `clap` means
abbrev pub refusal_by : ErrorKind → Error → Refusal
refusal_by DisplayHelp error = Help error
refusal_by OutOfMemory error = Memory
refusal_by _ error = Words

-- such a refusal may come for these arguments
abbrev pub RefusedBy : List Text → Refusal → Type 0
RefusedBy arguments (Help error) = IsHelp arguments
RefusedBy arguments Words = IsRefused arguments
RefusedBy arguments Memory = ⊤

-- the answer is a reply to the arguments, for the bytes taken from the reader
abbrev pub IsReply : List Text → Known → Known → Answer → Type 0
IsReply arguments old new answer =
    (outcome : Outcome) × IsReplyTo arguments old new outcome × (answer.bytes.items ≡ outcome_text outcome)
    × (answer.status ≡ outcome_status outcome)
