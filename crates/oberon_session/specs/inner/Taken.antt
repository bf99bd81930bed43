-- What the readers of JSON take from the tokens of a text.
use Rattle.std.specs.Prelude.{◌≡◌, ◌≢◌, ◌+◌, ◌⊎◌, ℕ, Bool, List, ◌∷◌, length, Option, Some, None, Result, MatchResult, ⊤}
use Rattle.json.specs.Token.{Token}
use Rattle.json.specs.Json.{items, members, value}
use Rattle.serde_json.specs.Data.{Data, Items, Members, Num, array, boolean, null, number, object, string}
use Rattle.serde_json.specs.Find.{as_u64}
use Rattle.serde_json.specs.Read.{converted, of_items, of_json, of_members, read}
use Rattle.oberon_session.specs.Draft.{draft_of}
use Rattle.oberon_session.specs.inner.Drafts.{draft_view}
use Rattle.oberon_session.specs.declared.draft.Draft.{Draft as DraftValue}
use Rattle.oberon_session.specs.declared.fault.SessionFault.{SessionFault}
use Rattle.oberon_session.specs.declared.fault.SessionFault.TheVariants.{Memory, Json, Shape, Range, Order, Hex}
use Rattle.oberon_session.specs.declared.head.Head.{Head}
use Rattle.oberon_session.specs.declared.head.Head.TheVariants as head

-- a value that nests so deep at most, and the tokens after it
abbrev pub one_value : ℕ → List Token → Option (Data × List Token)
one_value depth ts = converted of_json (value depth ts)

-- the items up to the bracket that closes their array, and the tokens after it
abbrev pub all_items : ℕ → List Token → Option (Items × List Token)
all_items depth ts = converted of_items (items (value depth) (length ts) ts)

-- the members up to the brace that closes their object, added to those before them, and the tokens after it
abbrev pub all_members : ℕ → Members → List Token → Option (Members × List Token)
all_members depth before ts = converted (λ ms. of_members ms before) (members (value depth) (length ts) ts)

-- unless memory ran out, the fault is that the tokens are no JSON
abbrev pub Refuses : {A : Type 0} → Option A → SessionFault → Type 0
Refuses taken fault = fault ≢ Memory → (fault ≡ Json) × (taken ≡ None)

-- the result is of what was taken, and these tokens are left; or nothing can be taken
abbrev pub Takes : {A T : Type 0} → Option (A × List Token) → List Token → (A → T → Type 0) → Result T SessionFault → Type 0
Takes {A} taken left IsOf result =
    MatchResult result (λ found. (json : A) × (taken ≡ Some (json, left)) × IsOf json found) (Refuses taken)

-- the value begins with this head
abbrev pub HasHead : Data → Head → Type 0
HasHead json (head.Object depth) = (found : Members) × (json ≡ object found)
HasHead json (head.Array depth) = (found : Items) × (json ≡ array found)
HasHead json (head.Text text) = json ≡ string text.now
HasHead json (head.Number n) = (found : Num) × (json ≡ number found) × (n ≡ as_u64 found)
HasHead json head.Other = (json ≡ null) ⊎ ((b : Bool) × (json ≡ boolean b))

-- the head of the value that the tokens begin with was taken
abbrev pub IsAfterHead : ℕ → List Token → List Token → Head → Type 0
IsAfterHead depth ts left (head.Object inside) = (depth ≡ inside + 1) × (ts ≡ Token.begin_object ∷ left)
IsAfterHead depth ts left (head.Array inside) = (depth ≡ inside + 1) × (ts ≡ Token.begin_array ∷ left)
IsAfterHead depth ts left whole = (json : Data) × (one_value depth ts ≡ Some (json, left)) × HasHead json whole

-- why a text has no draft
abbrev pub LacksDraft : List ℕ → SessionFault → Type 0
LacksDraft text Json = read text ≡ None
LacksDraft text Shape = (json : Data) × (read text ≡ Some json) × (draft_of json ≡ None)
LacksDraft text Range = ⊥
LacksDraft text Order = ⊥
LacksDraft text Hex = ⊥
LacksDraft text Memory = ⊤

-- the draft of a text; or why it has none, unless memory ran out
abbrev pub GivesDraft : List ℕ → Result DraftValue SessionFault → Type 0
GivesDraft text result =
    MatchResult result
    (λ draft. (json : Data) × (read text ≡ Some json) × (draft_of json ≡ Some (draft_view draft)))
    (LacksDraft text)
