-- The tests of a draft as propositions. `proofs/Deciding.antt` proves that the tests of `specs/Ranges.antt` decide them.
use Rattle.std.specs.Prelude.{◌≡◌, ◌≢◌, ◌+◌, ◌<◌, ◌≤◌, ◌^◌, ℕ, List, Option, MatchOption, length, map, slice_index, slice_index_or}
use Rattle.std.specs.Prelude.{Some, None, IsTrue, ⊤}
use Rattle.std.specs.List.{All}
use Rattle.std.specs.List.Sorted.{IsStrictlyIncreasing}
use Rattle.serde_json.specs.Data.{Data}
use Rattle.serde_json.specs.Read.{read}
use Rattle.risc_core.specs.declared.branch.TheConstants.{COUNTER_END}
use Rattle.risc_devices.specs.InputKind.{IsInputWithDisk}
use Rattle.risc_model.specs.declared.cpu.Cpu.{Cpu}
use Rattle.risc_model.specs.declared.event.Event.{Event}
use Rattle.risc_model.specs.DiskInputs.{IsOfDisk}
use Rattle.risc_model.specs.InputOrder.{AreOrdered}
use Rattle.risc_model.specs.declared.inputs.TheConstants.{MAX_COUNT}
use Rattle.risc_pages.specs.declared.sizes.TheConstants.{PAGE_SLOTS}
use Rattle.oberon_session.specs.Digits.{all_placed_of}
use Rattle.oberon_session.specs.Draft.{Draft, InputNumbers, PageText, Start, draft_up_to}
use Rattle.oberon_session.specs.inner.Drafts.{page_view, start_view}
use Rattle.oberon_session.specs.Ranges.{input_counts, max_inputs, slots_of, timer_fits}
use Rattle.oberon_session.specs.Session.{Describes, numbers_of_event}
use Rattle.oberon_session.specs.SessionParts.{CountsFit, SessionParts}
use Rattle.oberon_session.specs.declared.digits.PlacedPage.{PlacedPage}
use Rattle.oberon_session.specs.declared.draft.Draft.{Draft as DraftValue}
use Rattle.oberon_session.specs.declared.draft.PageDraft.{PageDraft}
use Rattle.oberon_session.specs.declared.fault.SessionFault.{SessionFault}
use Rattle.oberon_session.specs.declared.fault.SessionFault.TheVariants as fault
use Rattle.recording_limits.specs.declared.limits.TheConstants.{MAX_EVENTS}

-- ---- ranges and order

abbrev pub StartFits : Start → Type 0
StartFits start =
    All (λ register. register < 2 ^ 32) start.registers × (start.h < 2 ^ 32) × (start.pc < COUNTER_END) × (start.flags < 16)
    × IsTrue (timer_fits start.rate start.phase) × (start.disk < 2 ^ 32)

abbrev pub PageFits : PageText → Type 0
PageFits page = (page.at < PAGE_SLOTS) × (length page.hex ≤ 2048)

abbrev pub InputFits : InputNumbers → Type 0
InputFits input = (input.count ≤ MAX_COUNT) × IsInputWithDisk input.kind input.value

abbrev pub PagesFit : List PageText → Type 0
PagesFit pages = (length pages ≤ PAGE_SLOTS) × All PageFits pages

abbrev pub InputsFit : ℕ → List InputNumbers → Type 0
InputsFit version inputs = (length inputs ≤ max_inputs version) × All InputFits inputs

pub record InRange (draft : Draft) : Type 0 where
  pub start : StartFits draft.start
  pub pages : PagesFit draft.pages
  pub inputs : InputsFit draft.version draft.inputs
  pub checkpoints : CountsFit draft.checkpoints

-- no number is below the one before it
abbrev pub NeverFalls : List ℕ → Type 0
NeverFalls xs = (k : ℕ) → k + 1 < length xs → slice_index xs k ≤ slice_index xs (k + 1)

pub record InOrder (draft : Draft) : Type 0 where
  pub pages : IsStrictlyIncreasing (slots_of draft.pages)
  pub inputs : NeverFalls (input_counts draft.inputs)
  pub checkpoints : IsStrictlyIncreasing draft.checkpoints

-- ---- a draft, as Rust has it

-- each number is below the next
abbrev pub RisesBy : {X : Type 0} → (X → ℕ) → List X → Type 0
RisesBy {X} number xs = (k : ℕ) (d : X) → k + 1 < length xs → number (slice_index_or xs k d) < number (slice_index_or xs (k + 1) d)

-- not too many pages, each in its ranges
abbrev pub DraftPagesFit : List PageDraft → Type 0
DraftPagesFit pages = (length pages ≤ PAGE_SLOTS) × All (λ page. PageFits (page_view page)) pages

-- the numbers of the initial state, of pages and of checkpoints are in their ranges
abbrev pub NumbersFit : DraftValue → Type 0
NumbersFit d = StartFits (start_view d.start) × DraftPagesFit d.pages.items × CountsFit d.checkpoints.items

-- slots of pages and counts of checkpoints rise
abbrev pub NumbersRise : DraftValue → Type 0
NumbersRise d = RisesBy (λ page. page.at) d.pages.items × IsStrictlyIncreasing d.checkpoints.items

-- ---- the parts of a session, as Rust has them

-- not too many pages, each in one of the 1,024 slots
abbrev pub PlacedFit : List PlacedPage → Type 0
PlacedFit pages = (length pages ≤ PAGE_SLOTS) × All (λ page. page.at < PAGE_SLOTS) pages

-- a processor that runs, numbers that are in their ranges, and no input of a disk
abbrev pub PartsFit : Cpu → ℕ → ℕ → List PlacedPage → List Event → List ℕ → Type 0
PartsFit cpu rate phase pages inputs counts =
    ((cpu.pc < COUNTER_END) × (cpu.stop ≡ 0)) × IsTrue (timer_fits rate phase) × PlacedFit pages × (length inputs ≤ MAX_EVENTS)
    × All (λ e. ¬ (IsOfDisk e)) inputs × CountsFit counts

-- ---- faults

-- the first rule that inputs break in a version
abbrev pub BreaksInputs : ℕ → List InputNumbers → SessionFault → Type 0
BreaksInputs version inputs fault.Json = ⊥
BreaksInputs version inputs fault.Shape = ⊥
BreaksInputs version inputs fault.Range = InputsFit version inputs → ⊥
BreaksInputs version inputs fault.Order = InputsFit version inputs × (NeverFalls (input_counts inputs) → ⊥)
BreaksInputs version inputs fault.Hex = ⊥
BreaksInputs version inputs fault.Memory = ⊤

-- the first rule that a draft breaks
abbrev pub BreaksDraft : Draft → SessionFault → Type 0
BreaksDraft draft fault.Json = ⊥
BreaksDraft draft fault.Shape = ⊥
BreaksDraft draft fault.Range = InRange draft → ⊥
BreaksDraft draft fault.Order = InRange draft × (InOrder draft → ⊥)
BreaksDraft draft fault.Hex = InRange draft × InOrder draft × (all_placed_of draft.pages ≡ None)
BreaksDraft draft fault.Memory = ⊤

-- the draft is in its ranges and in order, and these are its inputs
pub record IsTested (draft : Draft) (inputs : List Event) : Type 0 where
  pub range : InRange draft
  pub order : InOrder draft
  pub ordered : AreOrdered inputs
  pub numbers : map numbers_of_event inputs ≡ draft.inputs

-- ---- a JSON value

-- the value breaks no rule, and encodes this session
abbrev pub IsSessionIn : ℕ → Data → SessionParts → Type 0
IsSessionIn newest json session =
    (draft : Draft) × (draft_up_to newest json ≡ Some draft) × InRange draft × InOrder draft × Describes draft session

-- this is the first rule that the value breaks
abbrev pub BreaksIn : ℕ → Data → SessionFault → Type 0
BreaksIn newest json fault.Json = ⊥
BreaksIn newest json fault.Shape = draft_up_to newest json ≡ None
BreaksIn newest json fault.Range = (draft : Draft) × (draft_up_to newest json ≡ Some draft) × (InRange draft → ⊥)
BreaksIn newest json fault.Order = (draft : Draft) × (draft_up_to newest json ≡ Some draft) × InRange draft × (InOrder draft → ⊥)
BreaksIn newest json fault.Hex =
    (draft : Draft) × (draft_up_to newest json ≡ Some draft) × InRange draft × InOrder draft × (all_placed_of draft.pages ≡ None)
BreaksIn newest json fault.Memory = ⊤

-- the event of an input, if that is in its range
abbrev pub IsEventOf : InputNumbers → Option Event → Type 0
IsEventOf input event = MatchOption event (InputFits input → ⊥) (λ e. (numbers_of_event e ≡ input) × InputFits input)

-- unless memory ran out, an input is out of its range
abbrev pub BreaksRanges : List InputNumbers → SessionFault → Type 0
BreaksRanges inputs broken = broken ≢ fault.Memory → (broken ≡ fault.Range) × (All InputFits inputs → ⊥)

-- ---- a text in UTF-8

-- the text breaks no rule, and encodes this session
abbrev pub IsSessionOf : ℕ → List ℕ → SessionParts → Type 0
IsSessionOf newest text session = (json : Data) × (read text ≡ Some json) × IsSessionIn newest json session

-- this is the first rule that the text breaks
abbrev pub BreaksOf : ℕ → List ℕ → SessionFault → Type 0
BreaksOf newest text fault.Json = read text ≡ None
BreaksOf newest text fault.Memory = ⊤
BreaksOf newest text own = (json : Data) × (read text ≡ Some json) × BreaksIn newest json own
