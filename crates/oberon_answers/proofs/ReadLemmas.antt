-- The lines that answer bytes.
use Rattle.std.proofs.Common.{◌≡◌, ◌≢◌, ◌==◌, ◌∙◌, ℕ, Bool, List, Err, None, Ok, Some, false, inl, inr, refl, sym, true}
use Rattle.oberon_format.specs.ByteFields.{first_fault_of}
use Rattle.oberon_format.specs.Layout.{version}
use Rattle.oberon_format.specs.Migration.{IsMigrated}
use Rattle.oberon_format.specs.Recording.{RecordingParts}
use Rattle.oberon_format.specs.Text.{AreBytes}
use Rattle.oberon_format.specs.declared.fault.Fault.{Fault}
use Rattle.oberon_format.specs.declared.layout.TheConstants.{VERSION, VERSION_WITH_DISK}
use Rattle.oberon_format.proofs.LawLemmas.{by_fault}
use Rattle.oberon_format.proofs.PlainLemmas.{fault_other, text_version, with_disk}
use Rattle.oberon_check.specs.Versions.{AnswersBytesIn, TextIn}
use Rattle.oberon_check.specs.HeadlineWithDisk.{IsLineIn, IsLineOfFaultIn}
use Rattle.oberon_check.specs.declared.versions.Versions.{Versions}
use Rattle.oberon_check.specs.declared.versions.Versions.TheVariants.{WithDisk}
use Rattle.oberon_check.proofs.InVersions.{fault-line, first-fault, good-answer, verdict-line}
use Rattle.oberon_session.specs.Rules.{first_fault_of as first_fault_of_session}
use Rattle.oberon_session.specs.Session.{Breaks, IsSession}
use Rattle.oberon_session.specs.SessionParts.{SessionParts}
use Rattle.oberon_session.specs.declared.fault.SessionFault.{SessionFault}
use Rattle.oberon_session.specs.declared.fault.SessionFault.TheVariants as session_fault
use Rattle.oberon_answers.specs.Migrate.{IsMigrationIn, IsMigrationOfAny, next_version}
use Rattle.oberon_answers.specs.inner.Answering.{IsFaultAnswer, IsVerdictAnswer}

-- the answer to bytes that are a recording
pub verdict-answer : (v : Versions) (bytes : List ℕ) (recording : RecordingParts) → AnswersBytesIn v bytes (TextIn v bytes) (Ok recording) → (line : List ℕ) (status : ℕ)
    → IsVerdictAnswer recording line status → IsLineIn v bytes line status
verdict-answer v bytes recording answer line status is =
    verdict-line v bytes recording (good-answer v bytes (TextIn v bytes) recording answer) is.verdict is.is_verdict line status is.line_is is.status_is

-- .. and to bytes that are not a recording
pub fault-answer : {A : Type 0} (v : Versions) (bytes : List ℕ) (IsGood : A → Type 0) (why : Fault) → AnswersBytesIn v bytes IsGood (Err why) → why ≢ Fault.Memory
    → (line : List ℕ) (status : ℕ) → IsFaultAnswer why line status → IsLineOfFaultIn v bytes line status
fault-answer v bytes IsGood why answer other line status is =
    fault-line v bytes why (first-fault v bytes IsGood why answer other) line status is.line_is is.status_is

-- ---- migrations of any version

next-plain : (bytes : List ℕ) → (version bytes == VERSION_WITH_DISK) ≡ false → next_version bytes ≡ VERSION
next-plain bytes is = rw is refl

next-disk : (bytes : List ℕ) → (version bytes == VERSION_WITH_DISK) ≡ true → next_version bytes ≡ VERSION_WITH_DISK
next-disk bytes is = rw is refl

-- a file that is migrated to version 2
pub any-plain : (bytes migrated : List ℕ) (status : ℕ) → IsMigrated bytes migrated → status ≡ 0 → IsMigrationOfAny bytes migrated status
any-plain bytes migrated status is done = inl (record {
  recording = is.recording;
  read = with_disk bytes is.recording is.read;
  written = rw (next-plain bytes (text_version bytes is.recording is.read)) is.written;
  status_is = done;
})

-- a file that has a fault without a disk, and is migrated to version 3
pub any-disk : (bytes : List ℕ) → AreBytes bytes → (why : Fault) → first_fault_of bytes ≡ Some why → (out : List ℕ) (status : ℕ) → IsMigrationIn WithDisk bytes out status
    → IsMigrationOfAny bytes out status
any-disk bytes are why first out status (inr fault) = inr fault
any-disk bytes are why first out status (inl is) = inl (record {
  recording = is.migrated.recording;
  read = is.migrated.read;
  written = rw (next-disk bytes (later (version bytes == VERSION_WITH_DISK) refl)) is.migrated.written;
  status_is = is.status_is;
})
  where
    later : (b : Bool) → (version bytes == VERSION_WITH_DISK) ≡ b → (version bytes == VERSION_WITH_DISK) ≡ true
    later true own = own
    later false own = absurd (by_fault bytes (Some why) are (sym (fault_other bytes own) ∙ first) is.migrated.recording is.migrated.read)

-- ---- sessions

-- bytes that break a rule are no session
pub no-session : (bytes : List ℕ) (why : SessionFault) → why ≢ session_fault.Memory → Breaks bytes why → (session : SessionParts) → ¬ (IsSession bytes session)
no-session bytes why other breaks session is = go why other breaks
  where
    not-both : (f : SessionFault) → first_fault_of_session bytes ≡ Some f → ⊥
    not-both f first = (let bad : None ≡ Some f = sym is.0 ∙ first in absurd cc)

    go : (f : SessionFault) → f ≢ session_fault.Memory → Breaks bytes f → ⊥
    go session_fault.Json differs own = not-both session_fault.Json own
    go session_fault.Shape differs own = not-both session_fault.Shape own
    go session_fault.Range differs own = not-both session_fault.Range own
    go session_fault.Order differs own = not-both session_fault.Order own
    go session_fault.Hex differs own = not-both session_fault.Hex own
    go session_fault.Memory differs own = absurd (differs refl)
