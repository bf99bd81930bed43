-- The rules of session files, in the order in which they are tested, each with its fault. They are those of a reader that knows the
-- versions up to the newest one, 2 without a disk and 3 with it.
use Rattle.std.specs.Prelude.{ℕ, nat_le, Bool, true, List, [], ◌∷◌, length, Option, Some, None, if◌then◌else◌}
use Rattle.std.specs.Option.{is_some}
use Rattle.std.specs.Str.{is_utf8}
use Rattle.serde_json.specs.Data.{Data}
use Rattle.serde_json.specs.Read.{read}
use Rattle.oberon_format.specs.FirstFault.{Rule, first_broken}
use Rattle.oberon_session.specs.Digits.{all_placed_of}
use Rattle.oberon_session.specs.Draft.{Draft, draft_up_to}
use Rattle.oberon_session.specs.Ranges.{in_order, in_range}
use Rattle.oberon_session.specs.Shape.{◌>>=◌}
use Rattle.oberon_session.specs.declared.fault.SessionFault.{SessionFault}
use Rattle.oberon_session.specs.declared.fault.SessionFault.TheVariants as fault
use Rattle.recording_limits.specs.declared.limits.TheConstants.{LONGEST_SESSION}

-- the JSON value of bytes in UTF-8, as `serde_json` reads it
abbrev pub json_of : List ℕ → Option Data
json_of bytes = if is_utf8 bytes then read bytes else None

-- the draft of the bytes, if their value has the shape of a session
abbrev pub draft_in : ℕ → List ℕ → Option Draft
draft_in newest bytes = json_of bytes >>= draft_up_to newest

-- a rule on the draft. It holds if there is no draft, since then an earlier rule is broken
abbrev pub draft_meets : (Draft → Bool) → Option Draft → Bool
draft_meets test None = true
draft_meets test (Some draft) = test draft

-- the digits of all pages are pairs of hexadecimal digits
abbrev pub in_digits : Draft → Bool
in_digits draft = is_some (all_placed_of draft.pages)

-- all rules
abbrev pub rules : ℕ → List ℕ → List (Rule SessionFault)
rules newest bytes =
    (nat_le (length bytes) LONGEST_SESSION, fault.Range)
    ∷ (is_some (json_of bytes), fault.Json)
    ∷ (is_some (draft_in newest bytes), fault.Shape)
    ∷ (draft_meets in_range (draft_in newest bytes), fault.Range)
    ∷ (draft_meets in_order (draft_in newest bytes), fault.Order)
    ∷ (draft_meets in_digits (draft_in newest bytes), fault.Hex)
    ∷ []

-- the fault of the first rule that the bytes break
unfoldable pub first_fault_up_to : ℕ → List ℕ → Option SessionFault
first_fault_up_to newest bytes = first_broken (rules newest bytes)

-- the same without a disk
abbrev pub first_fault_of : List ℕ → Option SessionFault
first_fault_of bytes = first_fault_up_to 2 bytes

-- and with it
abbrev pub first_fault_with_disk : List ℕ → Option SessionFault
first_fault_with_disk bytes = first_fault_up_to 3 bytes
