-- The first broken rule of bytes, by what is known of them.
use Rattle.std.proofs.Common.{◌≡◌, ◌<◌, ◌≤◌, ◌∙◌, ℕ, Bool, true, false, List, [], ◌∷◌, Option, Some, None, arith, ap, cond, length, refl, sym, take}
use Rattle.std.proofs.lemmas.Bool.{cond-true, false_from_ne_true, le-leb, lt-leb}
use Rattle.std.proofs.lemmas.List.{length-take}
use Rattle.std.proofs.lemmas.List.Elements.{All-cons, All-nil}
use Rattle.std.proofs.lemmas.Str.{is_utf8-from_IsUtf8, IsUtf8-from_is_utf8}
use Rattle.std.specs.List.{All}
use Rattle.std.specs.Option.{is_some}
use Rattle.std.specs.Prelude.{IsUtf8, nat_le}
use Rattle.std.specs.Str.{is_utf8}
use Rattle.serde_json.specs.Data.{Data}
use Rattle.serde_json.specs.Read.{read}
use Rattle.oberon_format.specs.FirstFault.{Rule, first_broken}
use Rattle.oberon_session.proofs.Deciding.{decides-order, decides-range}
use Rattle.oberon_session.specs.Digits.{PlacedWords, all_placed_of}
use Rattle.oberon_session.specs.Draft.{Draft, draft_of, draft_up_to}
use Rattle.oberon_session.specs.Ranges.{in_order, in_range}
use Rattle.oberon_session.specs.Rules.{draft_in, first_fault_up_to, in_digits, json_of, rules, draft_meets}
use Rattle.oberon_session.specs.Session.{BreaksUpTo, Fits, IsSessionUpTo}
use Rattle.oberon_session.specs.SessionParts.{SessionParts}
use Rattle.oberon_session.specs.Shape.{◌>>=◌}
use Rattle.oberon_session.specs.inner.Tested.{BreaksDraft, BreaksIn, BreaksOf, InOrder, InRange, IsSessionIn, IsSessionOf}
use Rattle.oberon_session.specs.declared.fault.SessionFault.{SessionFault}
use Rattle.oberon_session.specs.declared.fault.SessionFault.TheVariants.{Json, Shape, Range, Order, Hex, Memory}
use Rattle.recording_limits.specs.declared.limits.TheConstants.{LONGEST_SESSION}

-- `serde_json` reads the bytes as this value
abbrev IsJson : List ℕ → Data → Type 0
IsJson bytes json = IsUtf8 bytes × (read bytes ≡ Some json)

-- the rules of bytes: whether they are few enough, their value, and its draft
abbrev pub table : Bool → Option Data → Option Draft → Option SessionFault
table fits json draft =
    first_broken ((fits, Range) ∷ (is_some json, Json) ∷ (is_some draft, Shape) ∷ (draft_meets in_range draft, Range) ∷ (draft_meets in_order draft, Order) ∷ (draft_meets in_digits draft, Hex) ∷ [])

-- the rules on the draft
abbrev table-on : Draft → Option SessionFault
table-on draft = first_broken ((in_range draft, Range) ∷ (in_order draft, Order) ∷ (in_digits draft, Hex) ∷ [])

module _ (newest : ℕ) (bytes : List ℕ) where
  pub by-table : first_fault_up_to newest bytes ≡ table (nat_le (length bytes) LONGEST_SESSION) (json_of bytes) (draft_in newest bytes)
  unfolding first_fault_up_to
  by-table = refl

  -- there are too many bytes
  pub fault-long : LONGEST_SESSION < length bytes → first_fault_up_to newest bytes ≡ Some Range
  fault-long long = by-table ∙ ap (λ (fits : Bool). table fits (json_of bytes) (draft_in newest bytes)) (lt-leb (length bytes) LONGEST_SESSION long)

  module _ (fits : Fits bytes) where
    by-json : (json : Option Data) → json_of bytes ≡ json → first_fault_up_to newest bytes ≡ table true json (json >>= draft_up_to newest)
    by-json json is =
        by-table ∙ ap (λ (b : Bool). table b (json_of bytes) (draft_in newest bytes)) (le-leb (length bytes) LONGEST_SESSION fits)
        ∙ ap (λ (j : Option Data). table true j (j >>= draft_up_to newest)) is

    -- they have no value
    pub fault-json : (IsUtf8 bytes → read bytes ≡ None) → first_fault_up_to newest bytes ≡ Some Json
    fault-json none = by-json None (go (is_utf8 bytes) refl)
      where
        go : (b : Bool) → is_utf8 bytes ≡ b → cond b (read bytes) None ≡ None
        go true is = none (IsUtf8-from_is_utf8 bytes is)
        go false is = refl

    -- they have a value
    module _ (json : Data) (is : IsJson bytes json) where
      value-is : json_of bytes ≡ Some json
      value-is = cond-true (is_utf8 bytes) (read bytes) None (is_utf8-from_IsUtf8 bytes is.0) ∙ is.1

      by-draft : (draft : Option Draft) → draft_up_to newest json ≡ draft → first_fault_up_to newest bytes ≡ table true (Some json) draft
      by-draft draft shape = by-json (Some json) value-is ∙ ap (λ (d : Option Draft). table true (Some json) d) shape

      draft-is : (draft : Draft) → draft_up_to newest json ≡ Some draft → draft_in newest bytes ≡ Some draft
      draft-is draft shape = ap (λ (j : Option Data). j >>= draft_up_to newest) value-is ∙ shape

-- ---- the version of a draft

-- a draft of a newer version has not the shape
pub newer-draft : (newest : ℕ) (json : Data) (draft : Draft) → draft_of json ≡ Some draft → newest < draft.version → draft_up_to newest json ≡ None
newer-draft newest json draft is newer = rw (is, lt-leb draft.version newest newer) refl

pub known-draft : (newest : ℕ) (json : Data) (draft : Draft) → draft_of json ≡ Some draft → draft.version ≤ newest → draft_up_to newest json ≡ Some draft
known-draft newest json draft is known = rw (is, le-leb draft.version newest known) refl

-- ---- a draft

module _ (draft : Draft) where
  range-held : InRange draft → in_range draft ≡ true
  range-held range = (decides-range draft).1 range

  order-held : InOrder draft → in_order draft ≡ true
  order-held order = (decides-order draft).1 order

  on-range : (InRange draft → ⊥) → table-on draft ≡ Some Range
  on-range out =
      let test : in_range draft ≡ false = false_from_ne_true _ (λ h. out ((decides-range draft).0 h)) in
      rw test refl

  on-order : InRange draft → (InOrder draft → ⊥) → table-on draft ≡ Some Order
  on-order range out =
      let test : in_order draft ≡ false = false_from_ne_true _ (λ h. out ((decides-order draft).0 h)) in
      rw (range-held range, test) refl

  on-digits : InRange draft → InOrder draft → (pages : Option (List PlacedWords)) → all_placed_of draft.pages ≡ pages
      → table-on draft ≡ first_broken ((is_some pages, Hex) ∷ [])
  on-digits range order pages is =
      ap (λ (b : Bool). first_broken ((b, Range) ∷ (in_order draft, Order) ∷ (in_digits draft, Hex) ∷ [])) (range-held range)
      ∙ ap (λ (b : Bool). first_broken ((b, Order) ∷ (in_digits draft, Hex) ∷ [])) (order-held order)
      ∙ ap (λ (p : Option (List PlacedWords)). first_broken ((is_some p, Hex) ∷ [])) is

-- ---- from the tests of a value to the rules of its bytes

module _ (newest : ℕ) (bytes : List ℕ) (fits : Fits bytes) (json : Data) (is : IsJson bytes json) where
  on-draft : (draft : Draft) → draft_up_to newest json ≡ Some draft → first_fault_up_to newest bytes ≡ table-on draft
  on-draft draft shape = by-draft newest bytes fits json is (Some draft) shape

  breaks-text : (fault : SessionFault) → BreaksIn newest json fault → BreaksUpTo newest bytes fault
  breaks-text Json h = absurd h
  breaks-text Shape h = by-draft newest bytes fits json is None h
  breaks-text Range h = on-draft h.0 h.1 ∙ on-range h.0 h.2
  breaks-text Order h = on-draft h.0 h.1 ∙ on-order h.0 h.2 h.3
  breaks-text Hex h = on-draft h.0 h.1 ∙ on-digits h.0 h.2 h.3 None h.4
  breaks-text Memory h = fits

  session-text : (session : SessionParts) → IsSessionIn newest json session → IsSessionUpTo newest bytes session
  session-text session h =
      (on-draft h.0 h.1 ∙ on-digits h.0 h.2 h.3 (Some session.pages) h.4.pages, h.0, draft-is newest bytes fits json is h.0 h.1, h.4)

-- from the rules of a draft to those of its text
pub breaks-of : (newest : ℕ) (text : List ℕ) (json : Data) (draft : Draft) → read text ≡ Some json → draft_up_to newest json ≡ Some draft → (fault : SessionFault) → BreaksDraft draft fault → BreaksOf newest text fault
breaks-of newest text json draft is shape Json h = absurd h
breaks-of newest text json draft is shape Shape h = absurd h
breaks-of newest text json draft is shape Range h = (json, is, (draft, shape, h))
breaks-of newest text json draft is shape Order h = (json, is, (draft, shape, h.0, h.1))
breaks-of newest text json draft is shape Hex h = (json, is, (draft, shape, h.0, h.1, h.2))
breaks-of newest text json draft is shape Memory h = tt

module _ (newest : ℕ) (bytes : List ℕ) (fits : Fits bytes) (utf8 : IsUtf8 bytes) where
  pub breaks-bytes : (fault : SessionFault) → BreaksOf newest bytes fault → BreaksUpTo newest bytes fault
  breaks-bytes Json h = fault-json newest bytes fits (λ text. h)
  breaks-bytes Shape h = breaks-text newest bytes fits h.0 (utf8, h.1) Shape h.2
  breaks-bytes Range h = breaks-text newest bytes fits h.0 (utf8, h.1) Range h.2
  breaks-bytes Order h = breaks-text newest bytes fits h.0 (utf8, h.1) Order h.2
  breaks-bytes Hex h = breaks-text newest bytes fits h.0 (utf8, h.1) Hex h.2
  breaks-bytes Memory h = fits

  pub session-bytes : (session : SessionParts) → IsSessionOf newest bytes session → IsSessionUpTo newest bytes session
  session-bytes session h = session-text newest bytes fits h.0 (utf8, h.1) session h.2

-- ---- bytes that break no rule

all-hold : (rs : List (Rule SessionFault)) → first_broken rs ≡ None → All (λ rule. rule.0 ≡ true) rs
all-hold [] none = All-nil (λ rule. rule.0 ≡ true)
all-hold ((true, fault) ∷ rs) none = All-cons (λ rule. rule.0 ≡ true) (true, fault) rs refl (all-hold rs none)
all-hold ((false, fault) ∷ rs) none = absurd cc

some-of : {X : Type 0} (o : Option X) → is_some o ≡ true → (x : X) × (o ≡ Some x)
some-of (Some x) h = (x, refl)
some-of None h = absurd cc

-- their session
pub record IsFaultless (newest : ℕ) (bytes : List ℕ) : Type 0 where
  pub draft : Draft
  pub shape : draft_in newest bytes ≡ Some draft
  pub range : InRange draft
  pub order : InOrder draft
  pub pages : List PlacedWords
  pub placed : all_placed_of draft.pages ≡ Some pages

pub faultless : (newest : ℕ) (bytes : List ℕ) → first_fault_up_to newest bytes ≡ None → IsFaultless newest bytes
unfolding first_fault_up_to
faultless newest bytes none =
    let hold = all-hold (rules newest bytes) none in
    let rule : Rule SessionFault = (true, Json) in
    let shaped : is_some (draft_in newest bytes) ≡ true = hold 2 rule (omega arith) in
    let ranged : draft_meets in_range (draft_in newest bytes) ≡ true = hold 3 rule (omega arith) in
    let ordered : draft_meets in_order (draft_in newest bytes) ≡ true = hold 4 rule (omega arith) in
    let written : draft_meets in_digits (draft_in newest bytes) ≡ true = hold 5 rule (omega arith) in
    let found = some-of (draft_in newest bytes) shaped in
    let placed = some-of (all_placed_of found.0.pages) (sym (ap (draft_meets in_digits) found.1) ∙ written) in
    record {
      draft = found.0;
      shape = found.1;
      range = (decides-range found.0).0 (sym (ap (draft_meets in_range) found.1) ∙ ranged);
      order = (decides-order found.0).0 (sym (ap (draft_meets in_order) found.1) ∙ ordered);
      pages = placed.0;
      placed = placed.1;
    }

-- ---- bytes that are cut off

-- bytes that are cut off where there are already too many have the fault of all of them
pub fault-cut : (newest n : ℕ) (bytes : List ℕ) → LONGEST_SESSION < n → n ≤ length bytes → first_fault_up_to newest (take n bytes) ≡ first_fault_up_to newest bytes
fault-cut newest n bytes over within =
    let long : LONGEST_SESSION < length (take n bytes) = simp length-take (omega arith) in
    fault-long newest (take n bytes) long ∙ sym (fault-long newest bytes (omega arith))
