-- What bytes are read as.
use Rattle.std.proofs.Common.{◌≡◌, ◌≢◌, ◌∙◌, ℕ, List, Err, IfSome, MatchOption, MatchResult, None, Ok, Option, Result, Some, arith, subst, refl, sym}
use Rattle.oberon_format.specs.Line.{IsNamedFault}
use Rattle.oberon_format.specs.Recording.{RecordingParts}
use Rattle.oberon_format.specs.Text.{TextWithDisk}
use Rattle.oberon_format.specs.ByteFields.{AnswersBytesWithDisk, first_fault_with_disk}
use Rattle.oberon_format.specs.declared.fault.Fault.{Fault}
use Rattle.oberon_check.proofs.InVersions.{first-fault, good-answer, named_in}
use Rattle.oberon_check.specs.declared.versions.Versions.TheVariants.{WithDisk}
use Rattle.galluspa.specs.Claim.{IsNoRecording}

-- what is read is the recording of the bytes
pub read-text : (text : List ℕ) (recording : RecordingParts) → AnswersBytesWithDisk text (TextWithDisk text) (Ok recording) → TextWithDisk text recording
read-text text recording = good-answer WithDisk text (TextWithDisk text) recording

-- bytes that are read have no fault
pub no-fault : {A : Type 0} (text : List ℕ) (IsGood : A → Type 0) (answer : A) → AnswersBytesWithDisk text IsGood (Ok answer) → first_fault_with_disk text ≡ None
no-fault text IsGood answer is = search arith

memory-only : {A : Type 0} (first : Option Fault) (IsGood : A → Type 0) (why : Fault)
    → MatchOption first (MatchResult (Err why) IsGood (λ (f : Fault). f ≡ Fault.Memory)) (λ (f : Fault). Path (Result A Fault) (Err why) (Err f)) → why ≡ Fault.Memory
    → IfSome first IsNamedFault → first ≡ None
memory-only None IsGood why same memory named = refl
memory-only (Some fault) IsGood why same memory named =
    let other : why ≡ fault = cc in
    absurd (subst IsNamedFault (sym other ∙ memory) named)

-- .. nor have those for which memory ran out, since no rule is broken with that
pub no-fault-memory : {A : Type 0} (text : List ℕ) (IsGood : A → Type 0) (why : Fault) → AnswersBytesWithDisk text IsGood (Err why) → why ≡ Fault.Memory
    → first_fault_with_disk text ≡ None
no-fault-memory text IsGood why is memory = memory-only (first_fault_with_disk text) IsGood why is memory (named_in WithDisk text)

-- .. and they are not a recording
pub no-text : (text : List ℕ) (why : Fault) → AnswersBytesWithDisk text (TextWithDisk text) (Err why) → why ≢ Fault.Memory → IsNoRecording text
no-text text why answer other = record { fault = why; is_first = first-fault WithDisk text (TextWithDisk text) why answer other }
