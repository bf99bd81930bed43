-- Status 3 means a failure, and nothing else.
use Rattle.std.proofs.Common.{◌≡◌, ◌<◌, ◌⊎◌, inl, inr, ℕ, false, List, arith}
use Rattle.clap.specs.Walk.{Text}
use Rattle.oberon_format.specs.Recording.{RecordingParts}
use Rattle.oberon_session.specs.SessionParts.{SessionParts}
use Rattle.oberon_check.specs.declared.versions.Versions.{Versions}
use Rattle.oberon_check.specs.HeadlineWithDisk.{IsLineIn, IsLineOfFaultIn}
use Rattle.oberon_check.proofs.InVersions.{by-fault, by-line}
use Rattle.oberon_check.specs.Line.{status_of}
use Rattle.oberon_check.specs.declared.verdict.Verdict.{Verdict}
use Rattle.oberon_check.specs.declared.verdict.Verdict.TheVariants.{Accepted, FalseAt}
use Rattle.oberon_shards.specs.Combination.{IsCombination}
use Rattle.oberon_shards.specs.Shard.{finding_status}
use Rattle.oberon_shards.specs.declared.shard.Finding.{Finding}
use Rattle.oberon_shards.specs.declared.shard.Finding.TheVariants as finding
use Rattle.oberon_cli.specs.Answer.{IsAnswer}
use Rattle.oberon_cli.specs.Transfer.{Known, Fails, GainsWhole, Goes}
use Rattle.oberon_answers.specs.Migrate.{IsMigrationIn}
use Rattle.oberon_answers.specs.Record.{IsRecordIn, IsRecordOfIn}
use Rattle.oberon_cli.specs.Reply.{IsReplyTo, IsSent, IsThreeForFaults, Outcome, answer, failure, failure_line, help}
use Rattle.oberon_answers.specs.Screen.{IsScreenIn, IsScreenOf}
use Rattle.oberon_cli.specs.declared.arguments.Request.{Request}
use Rattle.oberon_cli.specs.declared.arguments.Request.TheVariants.{Check, Combine, Migrate, Record, Screen, Shard}
use Rattle.oberon_cli.specs.declared.failure.Failure.TheVariants.{Memory, Read, Words}

verdict_status : (verdict : Verdict) → status_of verdict < 3
verdict_status (Accepted checkpoints steps) = omega arith
verdict_status (FalseAt checkpoint count part) = omega arith

fault_status : (v : Versions) (input text : List ℕ) (status : ℕ) → IsLineOfFaultIn v input text status → status < 3
fault_status v input text status = by-fault v input text status (status < 3) (λ fault first line_is status_is. omega (arith, status_is))

line_status : (v : Versions) (input text : List ℕ) (status : ℕ) → IsLineIn v input text status → status < 3
line_status v input text status =
    by-line v input text status (status < 3) (λ r is_text verdict is line_is status_is. rw status_is (verdict_status verdict))
    (λ fault first line_is status_is. omega (arith, status_is))

recorded_status : (v : Versions) (session : SessionParts) (text : List ℕ) (status : ℕ) → IsRecordOfIn v session text status → status < 3
recorded_status v session text status (inl is) = omega (arith, is.status_is)
recorded_status v session text status (inr is) = omega (arith, is.refusal.status_is)

record_status : (v : Versions) (input text : List ℕ) (status : ℕ) → IsRecordIn v input text status → status < 3
record_status v input text status (inl is) = recorded_status v is.session text status is.record_is
record_status v input text status (inr is) = omega (arith, is.refusal.status_is)

shown_status : (r : RecordingParts) (at : ℕ) (text : List ℕ) (status : ℕ) → IsScreenOf r at text status → status < 3
shown_status r at text status (inl is) = omega (arith, is.status_is)
shown_status r at text status (inr is) = omega (arith, is.status_is)

screen_status : (v : Versions) (at : ℕ) (input text : List ℕ) (status : ℕ) → IsScreenIn v at input text status → status < 3
screen_status v at input text status (inl is) = shown_status is.recording at text status is.screen
screen_status v at input text status (inr is) = fault_status v input text status is

migration_status : (v : Versions) (input text : List ℕ) (status : ℕ) → IsMigrationIn v input text status → status < 3
migration_status v input text status (inl is) = omega (arith, is.status_is)
migration_status v input text status (inr is) = fault_status v input text status is

finding_low : (f : Finding) → finding_status f < 3
finding_low finding.Holds = omega arith
finding_low finding.Fails = omega arith
finding_low finding.Refused = omega arith

combination_status : (input text : List ℕ) (status : ℕ) → IsCombination input text status → status < 3
combination_status input text status (inl is) = omega (arith, is.status_is, finding_low is.shard.finding)
combination_status input text status (inr is) = omega (arith, is.status_is)

-- a command's own answer has another status
answer_status : (request : Request) (input text : List ℕ) (status : ℕ) → IsAnswer request input text status → status < 3
answer_status (Check v workers cut) input text status is = line_status v input text status is
answer_status (Shard v index of) input text status is = omega (arith, is.status_is)
answer_status Combine input text status is = combination_status input text status is
answer_status (Record v) input text status is = record_status v input text status is
answer_status (Screen v at) input text status is = screen_status v at input text status is
answer_status (Migrate v) input text status is = migration_status v input text status is

-- if no call failed, no status is 3
still : (old new : Known) → Goes old new → old.failed ≡ false → Fails new → ⊥
still old new goes before fails = cc

three_only : (arguments : List Text) (input rest old new : Known) (outcome : Outcome) (status : ℕ) → IsReplyTo arguments input rest outcome → IsSent outcome old new status
    → status ≡ 3 → Fails rest ⊎ (Fails new ⊎ GainsWhole (failure_line Memory) old new)
three_only arguments input rest old new outcome status is (inr failed) three = inr (inl failed.0.3)
three_only arguments input rest old new (answer request taken text own) status is (inl sent) three =
    let low : own < 3 = answer_status request taken text own is.2 in
    absurd (omega (arith, sent.1))
three_only arguments input rest old new (help text) status is (inl sent) three = absurd (omega (arith, sent.1))
three_only arguments input rest old new (failure Words) status is (inl sent) three = absurd (omega (arith, sent.1))
three_only arguments input rest old new (failure Read) status is (inl sent) three = inl is.2
three_only arguments input rest old new (failure Memory) status is (inl sent) three = inr (inr sent.0)

three_reads : (arguments : List Text) (input rest old new : Known) (outcome : Outcome) (status : ℕ) → IsReplyTo arguments input rest outcome → IsSent outcome old new status
    → input.failed ≡ false → Fails rest → status ≡ 3
three_reads arguments input rest old new outcome status is (inr failed) before fails = failed.1
three_reads arguments input rest old new (answer request taken text own) status is (inl sent) before fails = absurd (still input rest is.1.goes before fails)
three_reads arguments input rest old new (help text) status is (inl sent) before fails = absurd (still input rest is.1 before fails)
three_reads arguments input rest old new (failure Words) status is (inl sent) before fails = absurd (still input rest is.1 before fails)
three_reads arguments input rest old new (failure Read) status is (inl sent) before fails = sent.1
three_reads arguments input rest old new (failure Memory) status is (inl sent) before fails = sent.1

three_writes : (outcome : Outcome) (old new : Known) (status : ℕ) → IsSent outcome old new status → old.failed ≡ false → Fails new → status ≡ 3
three_writes outcome old new status (inl sent) before fails = absurd (still old new sent.0.1 before fails)
three_writes outcome old new status (inr failed) before fails = failed.1

pub three : (arguments : List Text) (input rest old new : Known) (outcome : Outcome) (status : ℕ) → IsReplyTo arguments input rest outcome → IsSent outcome old new status
    → IsThreeForFaults input rest old new status
three arguments input rest old new outcome status is sent = record {
  only = three_only arguments input rest old new outcome status is sent;
  reads = three_reads arguments input rest old new outcome status is sent;
  writes = three_writes outcome old new status sent;
}
