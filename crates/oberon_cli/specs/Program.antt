-- The command line, as `clap` reads it (this project's own choice).
use Rattle.std.specs.Prelude.{ℕ, List, [], ◌∷◌, pos, Some, true, codes}
use Rattle.clap.specs.Walk.{Rule}
use Rattle.clap.specs.Simple.{App, Shape, new_app, new_rule, new_shape, with_rule, with_subcommand}
use Rattle.clap.specs.declared.builder.action.ArgAction.TheVariants.{Set, SetTrue}
use Rattle.clap.specs.declared.builder.value_parser.ValueParser.TheVariants.{Signed}
use Rattle.oberon_claims.specs.declared.claims.TheConstants.{MAX_WORKERS}
use Rattle.recording_limits.specs.declared.limits.TheConstants.{LAST_CHECKPOINT}

-- an option that takes one value
abbrev pub number_rule : List ℕ → Rule
number_rule name = record (new_rule name) { long = Some name; action = Some Set; value_names = 1 }

-- `--workers`, from 1 to 64, or 2
abbrev pub workers_rule : Rule
workers_rule =
    record (number_rule (codes "workers")) { defaults = codes "2" ∷ []; parser = Some (Signed (pos 1) (pos MAX_WORKERS)) }

-- `--cut`, from 1 to 4,096, or 1
abbrev pub cut_rule : Rule
cut_rule = record (number_rule (codes "cut")) { defaults = codes "1" ∷ []; parser = Some (Signed (pos 1) (pos LAST_CHECKPOINT)) }

-- `--at`, from 0 to 4,096, required
abbrev pub at_rule : Rule
at_rule = record (number_rule (codes "at")) { required = true; parser = Some (Signed (pos 0) (pos LAST_CHECKPOINT)) }

-- `--disk`, a flag
abbrev pub disk_rule : Rule
disk_rule = record (new_rule (codes "disk")) { long = Some (codes "disk"); action = Some SetTrue }

-- `check`, with its four options: `--shard` takes a text, which says which of how many
abbrev pub check_app : App
check_app =
    with_rule (with_rule (with_rule (with_rule (new_app (codes "check")) workers_rule) cut_rule) (number_rule (codes "shard"))) disk_rule

-- `combine`, with none
abbrev pub combine_app : App
combine_app = new_app (codes "combine")

-- `record`, with one
abbrev pub record_app : App
record_app = with_rule (new_app (codes "record")) disk_rule

-- `screen`, with two
abbrev pub screen_app : App
screen_app = with_rule (with_rule (new_app (codes "screen")) at_rule) disk_rule

-- `migrate`, with one
abbrev pub migrate_app : App
migrate_app = with_rule (new_app (codes "migrate")) disk_rule

-- one of five commands is required, with no program name before it
abbrev pub program_shape : Shape
program_shape =
    record (new_shape (codes "oberon_replay")) { no_binary_name = true; subcommand_required = true }

-- the program: this shape, and the five commands in their order
abbrev pub program_app : App
program_app =
    with_subcommand
    (with_subcommand
    (with_subcommand (with_subcommand (with_subcommand (record { top = program_shape; subs = [] }) check_app.top) combine_app.top) record_app.top)
    screen_app.top)
    migrate_app.top
