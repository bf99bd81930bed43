-- What the readers of JSON have found of an object, and how contracts see it.
use Rattle.std.specs.Prelude.{◌==◌, ◌&&◌, ℕ, List, [], ◌∷◌, ◌++◌, length, Bool, false, Option, Some, None, if◌then◌else◌, codes}
use Rattle.std.specs.Prelude.{option_map}
use Rattle.std.specs.Option.{is_some}
use Rattle.std.specs.Str.{bytes_eq}
use Rattle.serde_json.specs.Data.{Data, Members}
use Rattle.serde_json.specs.Find.{as_object, get_member}
use Rattle.risc_devices.specs.declared.disk.TheConstants.{UNANSWERED}
use Rattle.oberon_session.specs.Draft.{Draft, InputNumbers, PageText, Start, inputs_of, kind_of, known_inputs, page_names, pages_of}
use Rattle.oberon_session.specs.Draft.{session_names, start_names, version_of}
use Rattle.oberon_session.specs.Shape.{◌>>=◌, are_among, number_of, numbers_of, only_if, text_of}

-- a list with one more item, if both are there
abbrev pub with_item : {X : Type 0} → Option (List X) → Option X → Option (List X)
with_item (Some xs) (Some x) = Some (xs ++ x ∷ [])
with_item (Some xs) None = None
with_item None item = None

-- ---- a page

-- what the members of a page say, and whether no member has another name
pub record PageFound : Type 0 where
  pub at : Option ℕ
  pub hex : Option (List ℕ)
  pub only : Bool

abbrev pub page_found : Members → PageFound
page_found members = record {
  at = get_member (codes "at") members >>= number_of;
  hex = get_member (codes "hex") members >>= text_of;
  only = are_among page_names members;
}

-- with one more member
abbrev pub with_page_member : List ℕ → Data → PageFound → PageFound
with_page_member name json found =
    if bytes_eq name (codes "at") then record found { at = number_of json }
    else if bytes_eq name (codes "hex") then record found { hex = text_of json }
    else record found { only = false }

-- the page that they say
abbrev pub page_in : PageFound → Option PageText
page_in found = do
  all ← only_if found.only found
  at ← all.at
  hex ← all.hex
  Some (record { at = at; hex = hex })

-- ---- an input

-- the input of a count, the name of a kind and a value
abbrev pub input_in : Option ℕ → Option (List ℕ) → Option ℕ → Option InputNumbers
input_in first second third = do
  count ← first
  name ← second
  kind ← kind_of name
  value ← third
  Some (record { count = count; kind = kind; value = value })

-- ---- the initial state

pub record StartFound : Type 0 where
  pub registers : Option (List ℕ)
  pub h : Option ℕ
  pub pc : Option ℕ
  pub flags : Option ℕ
  pub rate : Option ℕ
  pub phase : Option ℕ
  pub disk : Option ℕ
  pub fits_version_1 : Bool
  pub fits_version_2 : Bool
  pub fits_version_3 : Bool

abbrev pub start_found : Members → StartFound
start_found members = record {
  registers = get_member (codes "R") members >>= numbers_of;
  h = get_member (codes "H") members >>= number_of;
  pc = get_member (codes "PC") members >>= number_of;
  flags = get_member (codes "flags") members >>= number_of;
  rate = get_member (codes "rate") members >>= number_of;
  phase = get_member (codes "phase") members >>= number_of;
  disk = get_member (codes "disk") members >>= number_of;
  fits_version_1 = are_among (start_names 1) members;
  fits_version_2 = are_among (start_names 2) members;
  fits_version_3 = are_among (start_names 3) members;
}

abbrev pub with_start_member : List ℕ → Data → StartFound → StartFound
with_start_member name json found =
    if bytes_eq name (codes "R") then record found { registers = numbers_of json }
    else if bytes_eq name (codes "H") then record found { h = number_of json }
    else if bytes_eq name (codes "PC") then record found { pc = number_of json }
    else if bytes_eq name (codes "flags") then record found { flags = number_of json }
    else if bytes_eq name (codes "rate") then record found { rate = number_of json; fits_version_1 = false }
    else if bytes_eq name (codes "phase") then record found { phase = number_of json; fits_version_1 = false }
    else if bytes_eq name (codes "disk") then record found { disk = number_of json; fits_version_1 = false; fits_version_2 = false }
    else record found { fits_version_1 = false; fits_version_2 = false; fits_version_3 = false }

-- no other members were found than those of this version
abbrev pub fits_version : ℕ → StartFound → Bool
fits_version version found =
    if version == 1 then found.fits_version_1 else if version == 3 then found.fits_version_3 else found.fits_version_2

abbrev pub start_in : ℕ → StartFound → Option Start
start_in version found = do
  all ← only_if (fits_version version found) found
  h ← all.h
  pc ← all.pc
  flags ← all.flags
  rate ← if version == 1 then Some 0 else all.rate
  phase ← if version == 1 then Some 0 else all.phase
  disk ← if version == 3 then all.disk else Some UNANSWERED
  registers ← all.registers
  sixteen ← only_if (length registers == 16) registers
  Some (record { registers = sixteen; h = h; pc = pc; flags = flags; rate = rate; phase = phase; disk = disk })

-- ---- a session

pub record SessionFound : Type 0 where
  pub named : Bool
  pub version : Option ℕ
  pub start : Option StartFound
  pub pages : Option (List PageText)
  pub inputs : Option (List InputNumbers)
  pub checkpoints : Option (List ℕ)
  pub only : Bool

-- the value names the format of sessions
abbrev pub is_format : Data → Bool
is_format json = is_some (text_of json >>= λ format. only_if (bytes_eq format (codes "oberon-session")) format)

abbrev pub start_object : Data → Option StartFound
start_object json = option_map start_found (as_object json)

abbrev pub names_format : Option Data → Bool
names_format None = false
names_format (Some json) = is_format json

abbrev pub session_found : Members → SessionFound
session_found members = record {
  named = names_format (get_member (codes "format") members);
  version = get_member (codes "version") members >>= version_of;
  start = get_member (codes "start") members >>= start_object;
  pages = get_member (codes "pages") members >>= pages_of;
  inputs = get_member (codes "inputs") members >>= inputs_of;
  checkpoints = get_member (codes "checkpoints") members >>= numbers_of;
  only = are_among session_names members;
}

abbrev pub with_session_member : List ℕ → Data → SessionFound → SessionFound
with_session_member name json found =
    if bytes_eq name (codes "format") then record found { named = is_format json }
    else if bytes_eq name (codes "version") then record found { version = version_of json }
    else if bytes_eq name (codes "start") then record found { start = start_object json }
    else if bytes_eq name (codes "pages") then record found { pages = pages_of json }
    else if bytes_eq name (codes "inputs") then record found { inputs = inputs_of json }
    else if bytes_eq name (codes "checkpoints") then record found { checkpoints = numbers_of json }
    else record found { only = false }

abbrev pub draft_found : SessionFound → Option Draft
draft_found found = do
  all ← only_if (found.only && found.named) found
  version ← all.version
  members ← all.start
  start ← start_in version members
  pages ← all.pages
  inputs ← all.inputs >>= known_inputs version
  checkpoints ← all.checkpoints
  Some (record { version = version; start = start; pages = pages; inputs = inputs; checkpoints = checkpoints })
