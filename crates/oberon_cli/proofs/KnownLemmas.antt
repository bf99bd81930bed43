-- A command that succeeds answers all known bytes of a reader.
use Rattle.std.proofs.Common.{◌≡◌, ◌<◌, ◌≤◌, ◌+◌, ◌∙◌, inl, inr, ℕ, Bool, true, false, List, [], ◌∷◌, ◌++◌, Option, Some, None, arith, sym, refl, subst, ap, length, take, append-nil}
use lib.Seq.{take-append_seam}
use Rattle.std.proofs.lemmas.List.{length-take, take_all}
use Rattle.std.proofs.lemmas.Bool.{ltb-true, ltb-false}
use Rattle.std.specs.Prelude.{nat_lt}
use Rattle.std.specs.Io.KnownBytes.{Consumes, IsAtEnd}
use Rattle.clap.proofs.OnLiterals.{clap_on_literals}
use Rattle.clap.specs.Walk.{Text}
use Rattle.clap.specs.declared.error.kind.ErrorKind.TheVariants.{DisplayHelp}
use Rattle.oberon_check.specs.declared.versions.Versions.{Versions}
use Rattle.oberon_check.specs.declared.versions.Versions.TheVariants.{WithoutDisk, WithDisk}
use Rattle.oberon_check.specs.Versions.{IsMigratedIn, TextIn, first_fault_in}
use Rattle.oberon_check.specs.HeadlineWithDisk.{IsLineIn, IsLineOfFaultIn}
use Rattle.oberon_check.proofs.InVersions.{by-fault, by-line, fault-as-line, fault-line}
use Rattle.oberon_session.proofs.Table.{fault-cut, fault-long}
use Rattle.oberon_session.specs.Session.{BreaksUpTo, IsSessionUpTo}
use Rattle.oberon_session.specs.SessionParts.{SessionParts}
use Rattle.oberon_session.specs.declared.fault.SessionFault.{SessionFault}
use Rattle.oberon_session.specs.declared.fault.SessionFault.TheVariants as fault
use Rattle.oberon_cli.specs.Answer.{IsAnswer, limit_of, longest_in}
use Rattle.oberon_cli.specs.Asked.{IsHelp, request_in, faults}
use Rattle.oberon_cli.specs.Reply.{AnswersAll, IsReplyTo, IsSent, Outcome, answer, failure, help}
use Rattle.oberon_answers.specs.Migrate.{IsMigrationIn}
use Rattle.oberon_answers.specs.Record.{BreaksIn, IsRecordIn, IsSessionIn}
use Rattle.oberon_answers.specs.Screen.{IsScreenIn}
use Rattle.oberon_shards.specs.Combination.{IsCombination, IsShardReportIn, IsTextFault, IsUncombined, combine_fault_line}
use Rattle.oberon_shards.specs.declared.fault.CombineFault.{CombineFault}
use Rattle.oberon_shards.specs.declared.fault.CombineFault.TheVariants.{Long, Syntax, Empty, OtherFile, Contradiction, Missing}
use Rattle.oberon_shards.specs.declared.fault.TheConstants.{LONGEST_SHARDS}
use Rattle.oberon_cli.specs.Transfer.{Known}
use Rattle.oberon_cli.specs.declared.arguments.Request.{Request}
use Rattle.oberon_cli.specs.declared.arguments.Request.TheVariants.{Check, Combine, Migrate, Record, Screen, Shard}
use Rattle.oberon_cli.specs.declared.failure.Failure.TheVariants.{Memory, Read, Words}
use Rattle.oberon_format.specs.Recording.{RecordingParts}
use Rattle.recording_limits.specs.declared.limits.TheConstants.{LONGEST_SESSION}
use Rattle.oberon_format.specs.Layout.{version}
use Rattle.oberon_format.specs.declared.layout.TheConstants.{LONGEST_WITH_DISK}
use Rattle.oberon_format.proofs.Cut.{cut_is_no_recording, file_within, first_fault_of-take, first_fault_with_disk-take}
use Rattle.oberon_format.proofs.PartLemmas.{longest_most}
use Rattle.oberon_cli.proofs.Parsed.{asked_none}

-- of a reader whose bytes are known, the first `limit` of them
known_bytes : (limit : ℕ) (xs bytes : List ℕ) (rest : Option (List ℕ)) → Consumes (Some xs) rest bytes → length bytes ≤ limit → (length bytes < limit → IsAtEnd rest)
    → bytes ≡ take limit xs
known_bytes limit xs bytes None taken within end = absurd taken
known_bytes limit xs bytes (Some rest) taken within end = go (nat_lt (length bytes) limit) refl
  where
    go : (b : Bool) → nat_lt (length bytes) limit ≡ b → bytes ≡ take limit xs
    go true e =
        let short : length bytes < limit = ltb-true _ _ e in
        let all : xs ≡ bytes = taken ∙ ap (λ l. bytes ++ l) (end short) ∙ append-nil bytes in
        let fits : length bytes ≤ limit = omega arith in
        sym (ap (take limit) all ∙ take_all limit bytes fits)
    go false e =
        let full : limit ≤ length bytes = ltb-false _ _ e in
        let same : limit ≡ length bytes = omega (arith, within) in
        rw (taken, same) (sym (take-append_seam bytes rest))

-- a file that is cut has the first fault of the whole
cut_first : (v : Versions) (n : ℕ) (bytes : List ℕ) → longest_in v < n → n ≤ length bytes → first_fault_in v (take n bytes) ≡ first_fault_in v bytes
cut_first WithoutDisk n bytes over within = first_fault_of-take n bytes over within
cut_first WithDisk n bytes over within = first_fault_with_disk-take n bytes (omega (arith, over, longest_most (version bytes))) within

-- and is no recording file
cut_text : (v : Versions) (n : ℕ) (bytes : List ℕ) (r : RecordingParts) → longest_in v < n → n ≤ length bytes → TextIn v (take n bytes) r → ⊥
cut_text WithoutDisk n bytes r over within text = cut_is_no_recording n bytes r over within text
cut_text WithDisk n bytes r over within text =
    let short : length (take n bytes) ≤ LONGEST_WITH_DISK = omega (arith, file_within text.version (take n bytes) r text.is, longest_most text.version) in
    omega (arith, over, within, simp length-take at short)

-- so the line of its fault is that of the whole
cut_fault : (v : Versions) (n : ℕ) (bytes line : List ℕ) (status : ℕ) → longest_in v < n → n ≤ length bytes → IsLineOfFaultIn v (take n bytes) line status → IsLineOfFaultIn v bytes line status
cut_fault v n bytes line status over within =
    by-fault v (take n bytes) line status (IsLineOfFaultIn v bytes line status)
    (λ fault first. fault-line v bytes fault (sym (cut_first v n bytes over within) ∙ first) line status)

-- its line is that of the whole
cut_report : (v : Versions) (n : ℕ) (bytes line : List ℕ) (status : ℕ) → longest_in v < n → n ≤ length bytes → IsLineIn v (take n bytes) line status → IsLineIn v bytes line status
cut_report v n bytes line status over within =
    by-line v (take n bytes) line status (IsLineIn v bytes line status)
    (λ r text verdict is line_is status_is. absurd (cut_text v n bytes r over within text))
    (λ fault first line_is status_is. fault-as-line v bytes line status (fault-line v bytes fault (sym (cut_first v n bytes over within) ∙ first) line status line_is status_is))

-- and so is the answer of `screen`
cut_screen : (v : Versions) (n at : ℕ) (bytes text : List ℕ) (status : ℕ) → longest_in v < n → n ≤ length bytes → IsScreenIn v at (take n bytes) text status → IsScreenIn v at bytes text status
cut_screen v n at bytes text status over within (inl is) = absurd (cut_text v n bytes is.recording over within is.read)
cut_screen v n at bytes text status over within (inr is) = inr (cut_fault v n bytes text status over within is)

-- and that of `migrate`
cut_migration : (v : Versions) (n : ℕ) (bytes text : List ℕ) (status : ℕ) → longest_in v < n → n ≤ length bytes → IsMigrationIn v (take n bytes) text status → IsMigrationIn v bytes text status
cut_migration v n bytes text status over within (inl is) = absurd (unread v over is.migrated)
  where
    unread : (v : Versions) → longest_in v < n → IsMigratedIn v (take n bytes) text → ⊥
    unread WithoutDisk over is = cut_text WithoutDisk n bytes is.recording over within is.read
    unread WithDisk over is = cut_text WithDisk n bytes is.recording over within is.read
cut_migration v n bytes text status over within (inr is) = inr (cut_fault v n bytes text status over within is)

-- the fault of a session that is cut after more bytes than a session may have is that of the whole
cut_breaks : (newest n : ℕ) (bytes : List ℕ) (f : SessionFault) → LONGEST_SESSION < n → n ≤ length bytes → BreaksUpTo newest (take n bytes) f → BreaksUpTo newest bytes f
cut_breaks newest n bytes fault.Json over within is = sym (fault-cut newest n bytes (omega arith) within) ∙ is
cut_breaks newest n bytes fault.Shape over within is = sym (fault-cut newest n bytes (omega arith) within) ∙ is
cut_breaks newest n bytes fault.Range over within is = sym (fault-cut newest n bytes (omega arith) within) ∙ is
cut_breaks newest n bytes fault.Order over within is = sym (fault-cut newest n bytes (omega arith) within) ∙ is
cut_breaks newest n bytes fault.Hex over within is = sym (fault-cut newest n bytes (omega arith) within) ∙ is
cut_breaks newest n bytes fault.Memory over within is = absurd (omega (arith, simp length-take at is))

cut_breaks_in : (v : Versions) (n : ℕ) (bytes : List ℕ) (f : SessionFault) → LONGEST_SESSION < n → n ≤ length bytes → BreaksIn v (take n bytes) f → BreaksIn v bytes f
cut_breaks_in WithoutDisk n bytes f over within is = cut_breaks 2 n bytes f over within is
cut_breaks_in WithDisk n bytes f over within is = cut_breaks 3 n bytes f over within is

-- and it is no session
cut_session : (newest n : ℕ) (bytes : List ℕ) (session : SessionParts) → LONGEST_SESSION < n → n ≤ length bytes → IsSessionUpTo newest (take n bytes) session → ⊥
cut_session newest n bytes session over within is =
    let long = fault-long newest (take n bytes) (simp length-take (omega arith)) in
    let bad : None ≡ Some fault.Range = sym is.0 ∙ long in
    absurd cc

cut_session_in : (v : Versions) (n : ℕ) (bytes : List ℕ) (session : SessionParts) → LONGEST_SESSION < n → n ≤ length bytes → IsSessionIn v (take n bytes) session → ⊥
cut_session_in WithoutDisk n bytes session over within is = cut_session 2 n bytes session over within is
cut_session_in WithDisk n bytes session over within is = cut_session 3 n bytes session over within is

-- so the answer of `record` is that to the whole
cut_record : (v : Versions) (n : ℕ) (bytes text : List ℕ) (status : ℕ) → LONGEST_SESSION < n → n ≤ length bytes → IsRecordIn v (take n bytes) text status → IsRecordIn v bytes text status
cut_record v n bytes text status over within (inl is) = absurd (cut_session_in v n bytes is.session over within is.read)
cut_record v n bytes text status over within (inr is) = inr (record { fault = is.fault; first = cut_breaks_in v n bytes is.fault over within is.first; refusal = is.refusal })

-- a text that is cut after more bytes than lines of shards may have is refused, as the whole is
cut_combination : (n : ℕ) (bytes line : List ℕ) (status : ℕ) → LONGEST_SHARDS < n → n ≤ length bytes → IsCombination (take n bytes) line status → IsCombination bytes line status
cut_combination n bytes line status over within (inl is) = absurd (omega (arith, over, within, simp length-take at is.short))
cut_combination n bytes line status over within (inr is) = inr (go is.fault is.is_fault is.line_is)
  where
    never : length (take n bytes) ≤ LONGEST_SHARDS → ⊥
    never short = omega (arith, over, within, simp length-take at short)

    go : (f : CombineFault) → IsTextFault (take n bytes) f → line ≡ combine_fault_line f → IsUncombined bytes line status
    go Long is_fault line_is = record { fault = Long; is_fault = omega (arith, over, within); line_is = line_is; status_is = is.status_is }
    go (Syntax number) is_fault line_is = absurd (never is_fault.0)
    go Empty is_fault line_is = absurd (never is_fault.0)
    go (OtherFile number) is_fault line_is = absurd (never is_fault.0)
    go (Contradiction one other) is_fault line_is = absurd (never is_fault.0)
    go (Missing first last) is_fault line_is = absurd (never is_fault.0)

-- a fact of the first n bytes that holds for all of them, if there are more
whole : (P : List ℕ → Type 0) (n : ℕ) (bytes : List ℕ) → (n ≤ length bytes → P (take n bytes) → P bytes) → P (take n bytes) → P bytes
whole P n bytes more first = go (nat_lt (length bytes) n) refl
  where
    go : (b : Bool) → nat_lt (length bytes) n ≡ b → P bytes
    go true e =
        let fits : length bytes ≤ n = omega (arith, ltb-true (length bytes) n e) in
        subst P (take_all n bytes fits) first
    go false e = more (ltb-false (length bytes) n e) first

-- the answer to the bytes read is the answer to all bytes
whole_answer : (request : Request) (bytes text : List ℕ) (status : ℕ) → IsAnswer request (take (limit_of request) bytes) text status → IsAnswer request bytes text status
whole_answer (Check v workers cut) bytes text status first =
    whole (λ input. IsLineIn v input text status) (longest_in v + 1) bytes (λ within. cut_report v (longest_in v + 1) bytes text status (omega arith) within) first
whole_answer (Shard v index of) bytes text status first =
    let fits : length (take (longest_in v + 1) bytes) ≤ longest_in v + 1 = simp length-take (omega arith) in
    subst (λ (input : List ℕ). IsShardReportIn v input index of text status) (take_all (longest_in v + 1) (take (longest_in v + 1) bytes) fits) first
whole_answer Combine bytes text status first =
    whole (λ input. IsCombination input text status) (LONGEST_SHARDS + 1) bytes (λ within. cut_combination (LONGEST_SHARDS + 1) bytes text status (omega arith) within) first
whole_answer (Record v) bytes text status first =
    whole (λ input. IsRecordIn v input text status) (LONGEST_SESSION + 1) bytes (λ within. cut_record v (LONGEST_SESSION + 1) bytes text status (omega arith) within) first
whole_answer (Screen v at) bytes text status first =
    whole (λ input. IsScreenIn v at input text status) (longest_in v + 1) bytes (λ within. cut_screen v (longest_in v + 1) at bytes text status (omega arith) within) first
whole_answer (Migrate v) bytes text status first =
    whole (λ input. IsMigrationIn v input text status) (longest_in v + 1) bytes (λ within. cut_migration v (longest_in v + 1) bytes text status (omega arith) within) first

-- no arguments are no request for help
no_help : IsHelp [] → ⊥
unfolding clap_on_literals faults
no_help (inl same) = cc
no_help (inr none) = absurd none

help_asks_nothing : (arguments : List Text) → IsHelp arguments → (request : Request) → request_in arguments ≡ Some request → ⊥
help_asks_nothing [] is request asks = no_help is
help_asks_nothing (argument ∷ arguments) is request asks =
    let none = asked_none (argument ∷ arguments) DisplayHelp (omega arith) is in
    let bad : None ≡ Some request = sym none ∙ asks in
    cc

pub known_answer : (arguments : List Text) (input rest old new : Known) (outcome : Outcome) (status : ℕ) → IsReplyTo arguments input rest outcome → IsSent outcome old new status
    → AnswersAll arguments input old new status
known_answer arguments input rest old new outcome status is (inr failed) = λ request bytes asks known held. absurd (held failed.1)
known_answer arguments input rest old new (answer asked_for taken text own) status is (inl sent) = λ request bytes asks known held.
    let same_answer : Some asked_for ≡ Some request = sym is.0 ∙ asks in
    let same : asked_for ≡ request = cc in
    let consumed : Consumes (Some bytes) rest.bytes taken = rw (← known) is.1.taken in
    let asked_bytes : taken ≡ take (limit_of asked_for) bytes = known_bytes _ _ _ _ consumed is.1.within is.1.whole in
    let first_bytes : taken ≡ take (limit_of request) bytes = rw (← same) asked_bytes in
    let first : IsAnswer request (take (limit_of request) bytes) text status = rw (← first_bytes, ← same, sent.1) is.2 in
    (text, whole_answer request bytes text status first, sent.0.0)
known_answer arguments input rest old new (help text) status is (inl sent) = λ request bytes asks known held. absurd (help_asks_nothing arguments is.0 request asks)
known_answer arguments input rest old new (failure Words) status is (inl sent) = λ request bytes asks known held.
    let bad : None ≡ Some request = sym is.0.0 ∙ asks in
    cc
known_answer arguments input rest old new (failure Read) status is (inl sent) = λ request bytes asks known held. absurd (held sent.1)
known_answer arguments input rest old new (failure Memory) status is (inl sent) = λ request bytes asks known held. absurd (held sent.1)
