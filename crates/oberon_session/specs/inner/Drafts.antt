-- How contracts see drafts, and what the reader of a part of one returns.
use Rattle.std.specs.Prelude.{◌≡◌, ◌≢◌, Option, Some, None, Result, MatchResult, map}
use Rattle.oberon_session.specs.declared.fault.SessionFault.{SessionFault}
use Rattle.oberon_session.specs.declared.fault.SessionFault.TheVariants.{Memory}
use Rattle.oberon_session.specs.declared.draft.InputDraft.{InputDraft}
use Rattle.oberon_session.specs.declared.draft.PageDraft.{PageDraft}
use Rattle.oberon_session.specs.declared.draft.StartDraft.{StartDraft}
use Rattle.oberon_session.specs.declared.draft.Draft.{Draft as DraftValue}
use Rattle.oberon_session.specs.Draft.{Start, PageText, InputNumbers, Draft}

-- the result is the value of the definition, and this fault is returned only if that has no value
abbrev pub GivesOr : {T X : Type 0} → SessionFault → (T → X) → Option X → Result T SessionFault → Type 0
GivesOr why view found result =
    MatchResult result (λ value. found ≡ Some (view value))
    (λ fault. fault ≢ Memory → (fault ≡ why) × (found ≡ None))

abbrev pub start_view : StartDraft → Start
start_view s = record { registers = s.registers.items; h = s.h; pc = s.pc; flags = s.flags; rate = s.rate; phase = s.phase; disk = s.disk }

abbrev pub page_view : PageDraft → PageText
page_view p = record { at = p.at; hex = p.hex.now }

abbrev pub input_view : InputDraft → InputNumbers
input_view i = record { count = i.count; kind = i.kind; value = i.value }

abbrev pub draft_view : DraftValue → Draft
draft_view d = record {
  version = d.version;
  start = start_view d.start;
  pages = map page_view d.pages.items;
  inputs = map input_view d.inputs.items;
  checkpoints = d.checkpoints.items;
}
