-- What the program writes for its arguments and its input, and the status with which it exits.
use Rattle.std.specs.Prelude.{◌≡◌, ◌≢◌, ◌⊎◌, ℕ, List, Some, codes, false}
use Rattle.std.specs.Io.KnownBytes.{Appends}
use Rattle.clap.specs.Walk.{Text}
use Rattle.oberon_cli.specs.Answer.{IsAnswer, limit_of}
use Rattle.oberon_cli.specs.Asked.{IsHelp, IsRefused, request_in}
use Rattle.oberon_cli.specs.Transfer.{Known, Fails, GainsPrefix, GainsWhole, Goes, IsReadUpTo}
use Rattle.oberon_cli.specs.declared.arguments.Request.{Request}
use Rattle.oberon_cli.specs.declared.failure.Failure.{Failure}
use Rattle.oberon_cli.specs.declared.failure.Failure.TheVariants.{Words, Read, Memory}

-- a reply: a command's answer, bytes with a status, to the bytes that it read; `clap`'s help; or a failure
pub data Outcome : Type 0 where
  answer : Request → List ℕ → List ℕ → ℕ → Outcome
  help : List ℕ → Outcome
  failure : Failure → Outcome

-- the line of a failure
abbrev pub failure_line : Failure → List ℕ
failure_line Words = codes "words refused\n"
failure_line Read = codes "read fault\n"
failure_line Memory = codes "no memory\n"

-- the status of a failure
abbrev pub failure_status : Failure → ℕ
failure_status Words = 4
failure_status Read = 3
failure_status Memory = 3

-- what is written for a reply
abbrev pub outcome_text : Outcome → List ℕ
outcome_text (answer request input text status) = text
outcome_text (help text) = text
outcome_text (failure why) = failure_line why

-- the status of a reply
abbrev pub outcome_status : Outcome → ℕ
outcome_status (answer request input text status) = status
outcome_status (help text) = 0
outcome_status (failure why) = failure_status why

-- when a failure may be the reply: arguments are refused only if they ask for nothing, and `read fault` is the reply only if they
-- ask for a command and a read failed. An allocation may fail at any time, but a failed read is still reported as one
abbrev pub MayFail : List Text → Known → Known → Failure → Type 0
MayFail arguments old new Words = IsRefused arguments × Goes old new
MayFail arguments old new Read = (request : Request) × (request_in arguments ≡ Some request) × Fails new
MayFail arguments old new Memory = Goes old new

-- the reply is one to the arguments, for the bytes taken from the reader. If a read failed it is `read fault`
abbrev pub IsReplyTo : List Text → Known → Known → Outcome → Type 0
IsReplyTo arguments old new (answer request input text status) =
    (request_in arguments ≡ Some request) × IsReadUpTo (limit_of request) old new input × IsAnswer request input text status
IsReplyTo arguments old new (help text) = IsHelp arguments × Goes old new
IsReplyTo arguments old new (failure why) = MayFail arguments old new why

-- all of the bytes were written and the status is their own; or a write failed after a prefix of them, and the status is 3
abbrev pub IsSentText : List ℕ → ℕ → Known → Known → ℕ → Type 0
IsSentText text own old new status = (GainsWhole text old new × (status ≡ own)) ⊎ (GainsPrefix text old new × (status ≡ 3))

-- the reply was written in full with its own status, or a prefix of it with status 3
abbrev pub IsSent : Outcome → Known → Known → ℕ → Type 0
IsSent outcome = IsSentText (outcome_text outcome) (outcome_status outcome)

-- some reply to the arguments was sent
abbrev pub Replies : List Text → Known → Known → Known → Known → ℕ → Type 0
Replies arguments input input' output output' status =
    (outcome : Outcome) × IsReplyTo arguments input input' outcome × IsSent outcome output output' status

-- if the arguments ask for a command, the reader's bytes are known, and the status is not 3, then the command's answer to all of
-- these bytes was written, however many they are
abbrev pub AnswersAll : List Text → Known → Known → Known → ℕ → Type 0
AnswersAll arguments input old new status =
    (request : Request) (bytes : List ℕ) → request_in arguments ≡ Some request → input.bytes ≡ Some bytes → status ≢ 3
    → (text : List ℕ) × IsAnswer request bytes text status × Appends old.bytes new.bytes text

-- status 3 means that a read or a write failed, or that the line `no memory` was written; and if a read or a write is the first
-- to fail, the status is 3
pub record IsThreeForFaults (input input' output output' : Known) (status : ℕ) : Type 0 where
  pub only : status ≡ 3 → Fails input' ⊎ (Fails output' ⊎ GainsWhole (failure_line Memory) output output')
  pub reads : input.failed ≡ false → Fails input' → status ≡ 3
  pub writes : output.failed ≡ false → Fails output' → status ≡ 3
