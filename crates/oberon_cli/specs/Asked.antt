-- What the arguments of the command line ask for.
use Rattle.std.specs.Prelude.{◌≡◌, ◌≢◌, ◌==◌, ℕ, List, [], ◌∷◌, Option, Some, None, option_map, option_and_then, if◌then◌else◌, codes}
use Rattle.std.specs.List.{after_first, before_first}
use Rattle.std.specs.Str.{bytes_eq}
use Rattle.std.specs.Str.Parse.{digits_value, without_leading_plus}
use Rattle.clap.specs.ValueTests.{is_unsigned_in}
use Rattle.clap.specs.Walk.{Row, Text, is_empty, one_of}
use Rattle.clap.specs.Simple.{subcommand_of}
use Rattle.clap.specs.Kinds.{IsAmong, Kinds}
use Rattle.clap.specs.Faults.{fault_of}
use Rattle.clap.specs.declared.error.kind.ErrorKind.TheVariants.{DisplayHelp}
use Rattle.oberon_check.specs.declared.versions.Versions.{Versions}
use Rattle.oberon_check.specs.declared.versions.Versions.TheVariants.{WithoutDisk, WithDisk}
use Rattle.oberon_cli.specs.Program.{program_app}
use Rattle.oberon_cli.specs.declared.arguments.Request.{Request}
use Rattle.oberon_cli.specs.declared.arguments.Request.TheVariants.{Check, Combine, Migrate, Record, Screen, Shard}
use Rattle.oberon_claims.specs.declared.claims.TheConstants.{MAX_WORKERS}
use Rattle.oberon_shards.specs.declared.border.TheConstants.{MAX_SHARDS}
use Rattle.recording_limits.specs.declared.limits.TheConstants.{LAST_CHECKPOINT}

-- the number that the string writes in decimal digits, with an optional plus sign, if it is in the range
abbrev pub whole_number : ℕ → ℕ → Text → Option ℕ
whole_number low high text =
    if is_unsigned_in low high text then Some (digits_value 10 (without_leading_plus text)) else None

-- the number that `clap` finds for an option
abbrev pub number_at : ℕ → ℕ → Text → List Row → Option ℕ
number_at low high id rows = option_and_then (whole_number low high) (one_of id rows)

-- the versions that a command takes, by what `clap` finds for the option `--disk`: all of them if it finds that, as the text `true`
abbrev pub versions_by : Option Text → Versions
versions_by (Some text) = if bytes_eq text (codes "true") then WithDisk else WithoutDisk
versions_by None = WithoutDisk

abbrev pub versions_in : List Row → Versions
versions_in rows = versions_by (one_of (codes "disk") rows)

-- K and N of shard K of N, as `K/N` says it: N from 1 to 4,096, and K from 1 to N
abbrev pub shard_of : Text → Option (ℕ × ℕ)
shard_of text = option_and_then (λ of. option_map (λ index. (index, of)) (whole_number 1 of (before_first (λ c. c == 47) text)))
    (whole_number 1 MAX_SHARDS (after_first (λ c. c == 47) text))

-- a check with the numbers of workers and of segments in a job that `clap` finds
abbrev pub whole_check_of : List Row → Option Request
whole_check_of rows = option_and_then (λ workers. option_map (λ cut. Check (versions_in rows) workers cut)
    (number_at 1 LAST_CHECKPOINT (codes "cut") rows)) (number_at 1 MAX_WORKERS (codes "workers") rows)

-- the shard that `clap` finds, or such a check if it finds none
abbrev pub check_with : Option Text → List Row → Option Request
check_with (Some text) rows = option_map (λ p. Shard (versions_in rows) p.0 p.1) (shard_of text)
check_with None rows = whole_check_of rows

-- what `check` with its options asks for
abbrev pub check_of : List Row → Option Request
check_of rows = check_with (one_of (codes "shard") rows) rows

-- what a subcommand with its options asks for
abbrev pub request_of : Text → List Row → Option Request
request_of name rows =
    if bytes_eq name (codes "check") then check_of rows
    else if bytes_eq name (codes "combine") then Some Combine
    else if bytes_eq name (codes "record") then Some (Record (versions_in rows))
    else if bytes_eq name (codes "screen") then option_map (Screen (versions_in rows)) (number_at 0 LAST_CHECKPOINT (codes "at") rows)
    else if bytes_eq name (codes "migrate") then Some (Migrate (versions_in rows))
    else None

-- the kinds of fault that `clap` finds in the arguments
unfoldable pub faults : List Text → Kinds
faults arguments = fault_of program_app arguments

-- the subcommand that `clap` finds in the arguments, with its options
unfoldable pub found : List Text → Option (Text × List Row)
found arguments = subcommand_of program_app arguments

-- what the arguments ask for as `clap` finds it: nothing if there is a fault
abbrev pub parsed : List Text → Option Request
parsed arguments = if is_empty (faults arguments) then option_and_then (λ p. request_of p.0 p.1) (found arguments) else None

-- what the arguments ask for; no arguments ask for what `check` alone does, which has the defaults of its options
abbrev pub request_in : List Text → Option Request
request_in [] = parsed (codes "check" ∷ [])
request_in (argument ∷ arguments) = parsed (argument ∷ arguments)

-- the arguments ask for help. `clap` reports some arguments, such as `help` before an unknown command, with one of two kinds of
-- fault, so these may get help or may be refused
abbrev pub IsHelp : List Text → Type 0
IsHelp arguments = IsAmong DisplayHelp (faults arguments)

-- the arguments ask for nothing, and not for help alone
abbrev pub IsRefused : List Text → Type 0
IsRefused arguments = (request_in arguments ≡ None) × (faults arguments ≢ DisplayHelp ∷ [])
