-- Files without a disk, as files of any version.
use Rattle.oberon_format.proofs.Common.{AreWritable, AreWritableWithDisk, [], ap, arith, Bool, false, Fault, fields_of, first_broken, first_fault_of, first_fault_with_disk, is_version, is_version_with_disk, IsEncoding, IsLawful, IsLawfulWithDisk, IsPlain, List, MatchOption, drop, nat_tests, None, not, Option, option_or, RecordingParts, refl, Rule, Some, subst, sym, Text, TextWithDisk, true, version, version_rules, VERSION_WITH_DISK, ℕ, ◌==◌, ◌∙◌, ◌∷◌, ◌≡◌, All, All-map, Checkpoint, checkpoint_parts, IsOfDisk, IsUnanswered, length, length-map, map, MAX_EVENTS, no_checkpoint, UNANSWERED, ◌≤◌, ◌↔◌, IsTrue}
use Rattle.std.specs.Prelude.{Result, Ok, Err, MatchResult}
use Rattle.oberon_format.specs.ByteFields.{AnswersBytes, AnswersBytesWithDisk}
use Rattle.oberon_format.specs.Rules.{rules}
use Rattle.oberon_format.specs.declared.fault.Fault.TheVariants as fault
use Rattle.oberon_format.proofs.Agree.{version_of}
use Rattle.oberon_format.proofs.CheckpointLemmas.{checkpoint_here}
use Rattle.oberon_format.proofs.Encoded.{writable}
use Rattle.oberon_format.proofs.RuleLemmas.{first_append}

-- ---- recordings

pub not_disk : (v : ℕ) → is_version v ≡ true → (v == VERSION_WITH_DISK) ≡ false
not_disk v known = grind (arith, nat_tests)

without_three : (v : ℕ) → is_version_with_disk v ≡ true → (v == VERSION_WITH_DISK) ≡ false → is_version v ≡ true
without_three v known other = grind (arith, nat_tests)

pub general : (r : RecordingParts) → IsLawful r → IsLawfulWithDisk r
general r lawful = record {
  pages = lawful.pages;
  pool = lawful.pool;
  events = omega (arith, lawful.events);
  ordered = lawful.ordered;
  some = lawful.some;
  few = lawful.few;
  begins = lawful.begins;
  rises = lawful.rises;
  silent = lawful.silent;
  output = lawful.output;
  fit = lawful.fit;
}

pub plain : (r : RecordingParts) → IsLawful r → IsPlain r
plain r lawful = record { few = lawful.events; unanswered = lawful.unanswered }

pub both_lawful : (r : RecordingParts) → IsLawfulWithDisk r → IsPlain r → IsLawful r
both_lawful r lawful own = record {
  pages = lawful.pages;
  pool = lawful.pool;
  events = own.few;
  ordered = lawful.ordered;
  some = lawful.some;
  few = lawful.few;
  begins = lawful.begins;
  rises = lawful.rises;
  silent = lawful.silent;
  output = lawful.output;
  fit = lawful.fit;
  unanswered = own.unanswered;
}

-- as the writer tests it
pub plain_tested : (r : RecordingParts) (cs : List Checkpoint) (none : Bool) → length r.inputs ≤ MAX_EVENTS → All (λ e. ¬ (IsOfDisk e)) r.inputs
    → map checkpoint_parts cs ≡ r.checkpoints → (IsTrue none ↔ All (λ c. c.devices.disk ≡ UNANSWERED) cs) → IsTrue none ↔ IsPlain r
plain_tested r cs none few inputs same tested = (
  λ is. record { few = few; unanswered = record { inputs = inputs; checkpoints = subst (All IsUnanswered) same (All-map IsUnanswered checkpoint_parts cs (tested.0 is)) } },
  λ own.
      let all : All IsUnanswered (map checkpoint_parts cs) = subst (All IsUnanswered) (sym same) own.unanswered.checkpoints in
      tested.1 (λ k d lt. subst IsUnanswered (checkpoint_here cs k d lt) (all k no_checkpoint (omega (arith, length-map cs checkpoint_parts)))),
)

-- parts that fit the fields of version 2 fit those of version 3
pub writable_any : (r : RecordingParts) → AreWritable r → AreWritableWithDisk r
writable_any r fits = record {
  pool = fits.pool;
  pages = fits.pages;
  events = fits.events;
  few = fits.few;
  checkpoints = λ k d lt. let own = fits.checkpoints k d lt in
      record { formed = own.formed; count = own.count; counter = own.counter; stop = own.stop; sent = own.sent };
}

-- ---- texts

pub with_disk : (bytes : List ℕ) (r : RecordingParts) → Text bytes r → TextWithDisk bytes r
with_disk bytes r text = record { version = text.version; is = text.is }

version_is : (v : ℕ) (bytes : List ℕ) (r : RecordingParts) → IsEncoding v bytes r → version bytes ≡ v
version_is v bytes r is = ap version is.is ∙ version_of v r is.known (writable r is.lawful)

pub text_version : (bytes : List ℕ) (r : RecordingParts) → Text bytes r → (version bytes == VERSION_WITH_DISK) ≡ false
text_version bytes r text =
    ap (λ (v : ℕ). v == VERSION_WITH_DISK) (version_is text.version bytes r text.is) ∙ not_disk text.version text.without

pub without_disk : (bytes : List ℕ) (r : RecordingParts) → (version bytes == VERSION_WITH_DISK) ≡ false → TextWithDisk bytes r → Text bytes r
without_disk bytes r other text =
    let own = sym (ap (λ (v : ℕ). v == VERSION_WITH_DISK) (version_is text.version bytes r text.is)) ∙ other in
    record { version = text.version; without = without_three text.version text.is.known own; is = text.is }

-- the recording of a file without a disk is lawful
pub text_lawful : (bytes : List ℕ) (r : RecordingParts) → Text bytes r → IsLawful r
text_lawful bytes r text = both_lawful r text.is.lawful (text.is.plain (not_disk text.version text.without))

-- ---- faults

same_front : (a b c : Bool) (s m x : Fault) (more : List (Rule Fault)) → c ≡ true
    → option_or (first_broken ((a, s) ∷ (b, m) ∷ (c, x) ∷ [])) (first_broken ((a, s) ∷ (b, m) ∷ more)) ≡ first_broken ((a, s) ∷ (b, m) ∷ more)
same_front true true c s m x more is = rw is refl
same_front true false c s m x more is = refl
same_front false b c s m x more is = refl

-- a file of another version has the fault that it has with a disk
pub fault_other : (bytes : List ℕ) → (version bytes == VERSION_WITH_DISK) ≡ false → first_fault_of bytes ≡ first_fault_with_disk bytes
unfolding rules
fault_other bytes other =
    let f = fields_of bytes in
    let third : not (f.version == VERSION_WITH_DISK) ≡ true = ap not other in
    first_append (version_rules f) (rules f) ∙ same_front _ _ _ _ _ _ (drop 2 (rules f)) third

third_met : (a b c : Bool) (s m x : Fault) → first_broken ((a, s) ∷ (b, m) ∷ (not c, x) ∷ []) ≡ None → c ≡ false
third_met true true true s m x h = absurd cc
third_met true true false s m x h = refl
third_met true false c s m x h = absurd cc
third_met false b c s m x h = absurd cc

pub met_version : (bytes : List ℕ) → first_broken (version_rules (fields_of bytes)) ≡ None → (version bytes == VERSION_WITH_DISK) ≡ false
met_version bytes h = third_met _ _ _ _ _ _ h

-- so the answer with a disk is that without one
pub answers_other : (bytes : List ℕ) (answer : Result RecordingParts Fault) → first_broken (version_rules (fields_of bytes)) ≡ None
    → AnswersBytesWithDisk bytes (TextWithDisk bytes) answer → AnswersBytes bytes (Text bytes) answer
answers_other bytes answer met is =
    let other = met_version bytes met in
    let P : Option Fault → Type 0 = λ o. MatchOption o (MatchResult answer (Text bytes) (λ f. f ≡ fault.Memory)) (λ f. answer ≡ Err f) in
    subst P (sym (fault_other bytes other)) (go (first_fault_with_disk bytes) answer is)
  where
    go : (o : Option Fault) (answer : Result RecordingParts Fault) → MatchOption o (MatchResult answer (TextWithDisk bytes) (λ f. f ≡ fault.Memory)) (λ f. answer ≡ Err f)
        → MatchOption o (MatchResult answer (Text bytes) (λ f. f ≡ fault.Memory)) (λ f. answer ≡ Err f)
    go None (Ok r) text = without_disk bytes r (met_version bytes met) text
    go None (Err f) memory = memory
    go (Some f) answer same = same

-- and the fault of the version is the first
pub answers_version : (bytes : List ℕ) (f : Fault) (answer : Result RecordingParts Fault) → first_broken (version_rules (fields_of bytes)) ≡ Some f
    → answer ≡ Err f → AnswersBytes bytes (Text bytes) answer
answers_version bytes f answer found is =
    let P : Option Fault → Type 0 = λ o. MatchOption o (MatchResult answer (Text bytes) (λ f. f ≡ fault.Memory)) (λ f. answer ≡ Err f) in
    let first : first_fault_of bytes ≡ Some f = first_append (version_rules (fields_of bytes)) (rules (fields_of bytes)) ∙ ap (λ (o : Option Fault). option_or o (first_broken (rules (fields_of bytes)))) found in
    subst P (sym first) is
