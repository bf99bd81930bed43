-- What a JSON value of the shape of a session, version 1, 2 or 3, says. The format is this project's own.
use Rattle.std.specs.Prelude.{◌==◌, ◌||◌, ℕ, nat_le, List, [], ◌∷◌, length, not, Option, Some, None, if◌then◌else◌, codes}
use Rattle.std.specs.List.{list_all}
use Rattle.std.specs.Str.{bytes_eq}
use Rattle.serde_json.specs.Data.{Data}
use Rattle.serde_json.specs.Find.{get}
use Rattle.risc_devices.specs.declared.disk.TheConstants.{UNANSWERED}
use Rattle.risc_devices.specs.declared.kinds.TheConstants.{DISK}
use Rattle.oberon_session.specs.Shape.{◌>>=◌, each, items_of, number_of, numbers_of, only, only_if, text_of}

-- the numbers of the initial state
pub record Start : Type 0 where
  pub registers : List ℕ
  pub h : ℕ
  pub pc : ℕ
  pub flags : ℕ
  pub rate : ℕ
  pub phase : ℕ
  pub disk : ℕ

-- a page: its slot, and its digits
pub record PageText : Type 0 where
  pub at : ℕ
  pub hex : List ℕ

-- an input: its count, the number of its kind, and its value
pub record InputNumbers : Type 0 where
  pub count : ℕ
  pub kind : ℕ
  pub value : ℕ

-- a session whose shape is right; ranges and order are not tested
pub record Draft : Type 0 where
  pub version : ℕ
  pub start : Start
  pub pages : List PageText
  pub inputs : List InputNumbers
  pub checkpoints : List ℕ

-- ---- the shape

-- the number of the version, if it is 1, 2 or 3
abbrev pub version_of : Data → Option ℕ
version_of json = do
  version ← number_of json
  only_if (version == 1 || (version == 2 || version == 3)) version

-- a number that versions 2 and 3 have by this name, and that is 0 in version 1
abbrev pub since_2 : ℕ → List ℕ → Data → Option ℕ
since_2 version name json = if version == 1 then Some 0 else get name json >>= number_of

-- the number that only version 3 has: what the disk answered last. In versions 1 and 2 it has not answered
abbrev pub since_3 : ℕ → Data → Option ℕ
since_3 version json = if version == 3 then get (codes "disk") json >>= number_of else Some UNANSWERED

-- the names of the members of the initial state
abbrev pub start_names : ℕ → List (List ℕ)
start_names version =
    if version == 1 then codes "R" ∷ codes "H" ∷ codes "PC" ∷ codes "flags" ∷ []
    else if version == 3 then
    codes "R" ∷ codes "H" ∷ codes "PC" ∷ codes "flags" ∷ codes "rate" ∷ codes "phase" ∷ codes "disk" ∷ []
    else codes "R" ∷ codes "H" ∷ codes "PC" ∷ codes "flags" ∷ codes "rate" ∷ codes "phase" ∷ []

-- an object of exactly these members: R, an array of sixteen numbers; the numbers H, PC and flags; since version 2 the numbers rate
-- and phase; in version 3 the number disk
abbrev pub start_of : ℕ → Data → Option Start
start_of version json = do
  start ← only (start_names version) json
  h ← get (codes "H") start >>= number_of
  pc ← get (codes "PC") start >>= number_of
  flags ← get (codes "flags") start >>= number_of
  rate ← since_2 version (codes "rate") start
  phase ← since_2 version (codes "phase") start
  disk ← since_3 version start
  registers ← get (codes "R") start >>= numbers_of
  sixteen ← only_if (length registers == 16) registers
  Some (record { registers = sixteen; h = h; pc = pc; flags = flags; rate = rate; phase = phase; disk = disk })

-- the names of the members of a page
abbrev pub page_names : List (List ℕ)
page_names = codes "at" ∷ codes "hex" ∷ []

-- an object of exactly these members: at, a number, and hex, a string
abbrev pub page_of : Data → Option PageText
page_of json = do
  page ← only page_names json
  at ← get (codes "at") page >>= number_of
  hex ← get (codes "hex") page >>= text_of
  Some (record { at = at; hex = hex })

-- the number of the kind of input of this name
abbrev pub kind_of : List ℕ → Option ℕ
kind_of name =
    if bytes_eq name (codes "timer") then Some 1
    else if bytes_eq name (codes "switches") then Some 2
    else if bytes_eq name (codes "mouse") then Some 3
    else if bytes_eq name (codes "key") then Some 4
    else if bytes_eq name (codes "serial") then Some 5
    else if bytes_eq name (codes "disk") then Some 6
    else None

-- an array of exactly three items: a count, the name of a kind, and a value
abbrev pub triple_of : List Data → Option InputNumbers
triple_of (first ∷ second ∷ third ∷ []) = do
  count ← number_of first
  name ← text_of second
  kind ← kind_of name
  value ← number_of third
  Some (record { count = count; kind = kind; value = value })
triple_of _ = None

abbrev pub input_of : Data → Option InputNumbers
input_of json = items_of json >>= triple_of

abbrev pub pages_of : Data → Option (List PageText)
pages_of json = items_of json >>= each page_of

abbrev pub inputs_of : Data → Option (List InputNumbers)
inputs_of json = items_of json >>= each input_of

-- inputs of kinds that the version has: only version 3 has answers of a disk
abbrev pub known_inputs : ℕ → List InputNumbers → Option (List InputNumbers)
known_inputs version inputs = only_if (version == 3 || list_all (λ input. not (input.kind == DISK)) inputs) inputs

-- the version, and the values of the other members but format, which is the same in each session
pub record Members : Type 0 where
  pub version : ℕ
  pub start : Data
  pub pages : Data
  pub inputs : Data
  pub checkpoints : Data

-- the names of the members of a session
abbrev pub session_names : List (List ℕ)
session_names =
    codes "format" ∷ codes "version" ∷ codes "start" ∷ codes "pages" ∷ codes "inputs" ∷ codes "checkpoints" ∷ []

-- an object of exactly these members: format, which is oberon-session, version, start, pages, inputs and checkpoints
abbrev pub members_of : Data → Option Members
members_of json = do
  session ← only session_names json
  format ← get (codes "format") session >>= text_of
  named ← only_if (bytes_eq format (codes "oberon-session")) format
  version ← get (codes "version") session >>= version_of
  start ← get (codes "start") session
  pages ← get (codes "pages") session
  inputs ← get (codes "inputs") session
  checkpoints ← get (codes "checkpoints") session
  Some (record { version = version; start = start; pages = pages; inputs = inputs; checkpoints = checkpoints })

-- the draft of a value of this shape
abbrev pub draft_of : Data → Option Draft
draft_of json = do
  members ← members_of json
  start ← start_of members.version members.start
  pages ← pages_of members.pages
  inputs ← inputs_of members.inputs >>= known_inputs members.version
  checkpoints ← numbers_of members.checkpoints
  Some (record { version = members.version; start = start; pages = pages; inputs = inputs; checkpoints = checkpoints })

-- the draft, if its version is at most this one
abbrev pub draft_up_to : ℕ → Data → Option Draft
draft_up_to newest json = draft_of json >>= λ draft. only_if (nat_le draft.version newest) draft
