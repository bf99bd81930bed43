-- A file and its migrated form encode the same recording, so their lines are the same. And so are the lines of a file with a disk and
-- without, but of version 3.
use Rattle.std.proofs.Common.{◌≡◌, ◌==◌, ◌∙◌, ◌∷◌, [], ℕ, Bool, List, Option, None, Some, ap, false, inr, le-leb, ne_eqb, not, refl, subst, sym, true}
use Rattle.std.specs.Prelude.{MatchOption}
use Rattle.std.specs.Fmt.{digits}
use Rattle.oberon_format.specs.declared.fault.Fault.{Fault}
use Rattle.oberon_format.specs.declared.layout.TheConstants.{VERSION_WITH_DISK}
use Rattle.oberon_format.specs.Layout.{version}
use Rattle.oberon_format.specs.declared.fault.Fault.TheVariants.{Version}
use Rattle.oberon_format.specs.ByteFields.{fields_of, first_fault_of, first_fault_with_disk}
use Rattle.oberon_format.specs.FirstFault.{first_broken}
use Rattle.oberon_format.specs.Recording.{RecordingParts}
use Rattle.oberon_format.specs.Rules.{rules, version_rules}
use Rattle.oberon_format.specs.Text.{AreBytes, TextWithDisk}
use Rattle.oberon_format.specs.inner.Tested.{Meets}
use Rattle.oberon_format.proofs.Agree.{version_of}
use Rattle.oberon_format.proofs.Encoded.{writable}
use Rattle.oberon_format.proofs.RuleLemmas.{broken-append, none_meets}
use Rattle.oberon_format.proofs.PlainLemmas.{fault_other, with_disk, without_disk}
use Rattle.oberon_check.specs.Laws.{RefusedWithoutDisk, SameLine, SameLineWithDisk}
use Rattle.oberon_check.specs.Verdict.{IsVerdict}
use Rattle.oberon_check.specs.Versions.{IsMigratedIn, TextIn, first_fault_in}
use Rattle.oberon_check.specs.HeadlineWithDisk.{IsLineIn}
use Rattle.oberon_check.specs.declared.versions.Versions.{Versions}
use Rattle.oberon_check.specs.declared.versions.Versions.TheVariants.{WithoutDisk, WithDisk}
use Rattle.oberon_check.proofs.InVersions.{HasEitherIn, HasOneIn, by-line, fault-as-line, fault-line, last_text, verdict-line}

-- bytes that encode a recording have no fault
no_fault : (v : Versions) → HasEitherIn v → (bytes : List ℕ) → AreBytes bytes → (r : RecordingParts) → TextIn v bytes r → (fault : Fault)
    → first_fault_in v bytes ≡ Some fault → ⊥
no_fault v either bytes are r is fault first = go (first_fault_in v bytes) first (either bytes are)
  where
    go : (o : Option Fault) → o ≡ Some fault → MatchOption o ((r : RecordingParts) × TextIn v bytes r) (λ fault. (r : RecordingParts) → ¬ (TextIn v bytes r)) → ⊥
    go None e has = cc
    go (Some f) e none = none r is

-- the line of bytes that encode a recording is the line of all bytes that encode it
line_of_both : (v : Versions) → HasOneIn v → HasEitherIn v → (one other : List ℕ) → AreBytes one → (r : RecordingParts) → TextIn v one r → TextIn v other r
    → (line : List ℕ) (status : ℕ) → IsLineIn v one line status → IsLineIn v other line status
line_of_both v same either one other bytes r is also line status =
    by-line v one line status (IsLineIn v other line status)
    (λ s text verdict is_verdict line_is status_is. verdict-line v other r also verdict
    (subst (λ (q : RecordingParts). IsVerdict q verdict) (same one s r text is) is_verdict) line status line_is status_is)
    (λ fault first line_is status_is. absurd (no_fault v either one bytes r is fault first))

-- a file and its migrated form are texts of one recording
both_texts : (v : Versions) (bytes migrated : List ℕ) → IsMigratedIn v bytes migrated → (r : RecordingParts) × TextIn v bytes r × TextIn v migrated r
both_texts WithoutDisk bytes migrated is = (is.recording, is.read, last_text WithoutDisk migrated is.recording is.written)
both_texts WithDisk bytes migrated is = (is.recording, is.read, last_text WithDisk migrated is.recording is.written)

pub same_line : ((v : Versions) → HasOneIn v) → ((v : Versions) → HasEitherIn v) → SameLine
same_line same either v bytes migrated are migrated_are is line status =
    let both = both_texts v bytes migrated is in (
      line_of_both v (same v) (either v) bytes migrated are both.0 both.1 both.2 line status,
      line_of_both v (same v) (either v) migrated bytes migrated_are both.0 both.2 both.1 line status,
    )

pub same_with_disk : SameLineWithDisk
same_with_disk bytes other line status = (
  by-line WithoutDisk bytes line status (IsLineIn WithDisk bytes line status)
      (λ r text verdict is line_is status_is. verdict-line WithDisk bytes r (with_disk bytes r text) verdict is line status line_is status_is)
      (λ fault first line_is status_is. fault-as-line WithDisk bytes line status (fault-line WithDisk bytes fault (sym (fault_other bytes older) ∙ first) line status line_is status_is)),
  by-line WithDisk bytes line status (IsLineIn WithoutDisk bytes line status)
      (λ r text verdict is line_is status_is. verdict-line WithoutDisk bytes r (without_disk bytes r older text) verdict is line status line_is status_is)
      (λ fault first line_is status_is. fault-as-line WithoutDisk bytes line status (fault-line WithoutDisk bytes fault (fault_other bytes older ∙ first) line status line_is status_is)),
)
  where
    older : (version bytes == VERSION_WITH_DISK) ≡ false
    older = ne_eqb _ _ other

-- ---- a text of version 3 without a disk

third_broken : (a b c : Bool) (s m x : Fault) → a ≡ true → b ≡ true → c ≡ true → first_broken ((a, s) ∷ (b, m) ∷ (not c, x) ∷ []) ≡ Some x
third_broken a b c s m x long magic later = rw (long, magic, later) refl

without_fault : HasEitherIn WithDisk → (bytes : List ℕ) → AreBytes bytes → (r : RecordingParts) → TextWithDisk bytes r → first_fault_with_disk bytes ≡ None
without_fault either bytes are r text = go (first_fault_with_disk bytes) refl
  where
    go : (o : Option Fault) → first_fault_with_disk bytes ≡ o → o ≡ None
    go None e = refl
    go (Some f) e = absurd (no_fault WithDisk either bytes are r text f e)

pub refused_without : HasEitherIn WithDisk → RefusedWithoutDisk
unfolding digits rules
refused_without either bytes are r is = inr (record { fault = Version 4; is_first = first; line_is = refl; status_is = refl })
  where
    meets : Meets bytes
    meets = none_meets bytes (without_fault either bytes are r (record { version = VERSION_WITH_DISK; is = is }))

    own : version bytes ≡ VERSION_WITH_DISK
    own = ap version is.is ∙ version_of VERSION_WITH_DISK r is.known (writable r is.lawful)

    first : first_fault_of bytes ≡ Some (Version 4)
    first = broken-append (version_rules (fields_of bytes)) (rules (fields_of bytes)) (Version 4)
        (third_broken _ _ _ _ _ _ (le-leb _ _ meets.sized.header) (rw meets.magic_is refl) (rw own refl))
