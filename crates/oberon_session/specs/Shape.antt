-- The parts of a JSON value that has to have a given shape.
use Rattle.std.specs.Prelude.{◌&&◌, ◌||◌, ℕ, List, [], ◌∷◌, Bool, true, false, Option, Some, None, if◌then◌else◌, option_map}
use Rattle.std.specs.Str.{bytes_eq}
use Rattle.serde_json.specs.Data.{Data, Items, no_items, item, Members, no_members, member}
use Rattle.serde_json.specs.Find.{as_array, as_number, as_object, as_str, as_u64}

-- the second step, if the first returned a value
infixl 10 ◌>>=◌
abbrev pub ◌>>=◌ : {A B : Type 0} → Option A → (A → Option B) → Option B
Some x >>= f = f x
None >>= f = None

-- the value, if the test holds
abbrev pub only_if : {A : Type 0} → Bool → A → Option A
only_if true x = Some x
only_if false x = None

-- the name is one of these
abbrev pub is_among : List (List ℕ) → List ℕ → Bool
is_among [] name = false
is_among (first ∷ names) name = bytes_eq name first || is_among names name

-- the name of each member is one of these
abbrev pub are_among : List (List ℕ) → Members → Bool
are_among names no_members = true
are_among names (member name value rest) = is_among names name && are_among names rest

-- the value, if it is an object with no members but those of these names
abbrev pub only : List (List ℕ) → Data → Option Data
only names json = as_object json >>= λ members. if are_among names members then Some json else None

-- a whole number below 2 ^ 64
abbrev pub number_of : Data → Option ℕ
number_of json = as_number json >>= as_u64

-- a string
abbrev pub text_of : Data → Option (List ℕ)
text_of = as_str

-- the items as a list
abbrev pub list_of : Items → List Data
list_of no_items = []
list_of (item json rest) = json ∷ list_of rest

-- the items of an array
abbrev pub items_of : Data → Option (List Data)
items_of json = option_map list_of (as_array json)

-- what is read from each item, if each can be read
abbrev pub each : {A X : Type 0} → (A → Option X) → List A → Option (List X)
each read [] = Some []
each read (x ∷ rest) = do
  first ← read x
  others ← each read rest
  Some (first ∷ others)

-- the numbers of an array
abbrev pub numbers_of : Data → Option (List ℕ)
numbers_of json = items_of json >>= each number_of
