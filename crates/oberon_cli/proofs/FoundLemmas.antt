-- What the subcommand that `clap` finds asks for.
use Rattle.std.proofs.Common.{◌≡◌, ◌≢◌, ℕ, Bool, true, false, List, Option, Some, None, Result, Ok, Err, Decides, bytes_eq, codes, refl, sym, ap, ◌∙◌, box_value, option_and_then, option_map, unwrap_or, IsTrue}
use Rattle.std.proofs.lemmas.Slice.Eq.{bytes_eq-Decides}
use Rattle.clap.specs.Words.{Text, found_of, rows_of, subcommand_rows_of}
use Rattle.clap.specs.Walk.{Row, one_of}
use Rattle.clap.specs.Matches.{ReadsOne, TriesOne}
use Rattle.std.specs.Str.Parse.{ParsesBool}
use Rattle.oberon_check.specs.declared.versions.Versions.{Versions}
use Rattle.oberon_check.specs.declared.versions.Versions.TheVariants.{WithoutDisk, WithDisk}
use Rattle.oberon_cli.specs.declared.choice.ShardChoice.{ShardChoice}
use Rattle.oberon_cli.specs.declared.choice.NoShard.{NoShard}
use Rattle.oberon_cli.specs.inner.Requests.{IsChoice, IsWithinLimits}
use Rattle.clap.specs.Matches.{subcommand_name_of}
use Rattle.clap.specs.declared.parser.matches.ArgMatches.{ArgMatches}
use Rattle.clap.specs.declared.parser.matches.ArgMatches.TheViews.{out-ArgMatches, out-SubCommand}
use Rattle.oberon_claims.specs.declared.claims.TheConstants.{MAX_WORKERS}
use Rattle.recording_limits.specs.declared.limits.TheConstants.{LAST_CHECKPOINT}
use Rattle.oberon_cli.specs.Asked.{check_of, check_with, number_at, request_of, shard_of, versions_by, versions_in, whole_check_of}
use Rattle.oberon_cli.specs.declared.arguments.Request.{Request}
use Rattle.oberon_cli.specs.declared.arguments.Request.TheVariants.{Check, Combine, Migrate, Record, Screen, Shard}

joined : {B : Type 0} (f : B → Text) (g : B → List Row) (s : Option B) (name : Text) (rows : List Row) → Some name ≡ option_map f s
    → Some rows ≡ option_map (λ (p : Text × List Row). p.1) (option_map {U = Text × List Row} (λ b. (f b, g b)) s) → option_map {U = Text × List Row} (λ b. (f b, g b)) s ≡ Some (name, rows)
joined f g None name rows named has = cc
joined f g (Some b) name rows named has =
    let name_is : name ≡ f b = cc in
    let rows_are : rows ≡ g b = cc in
    rw (name_is, rows_are) refl

-- the name and the rows are those of the subcommand
pub found_one : (m : ArgMatches) (name : Text) (rows : List Row) → Some name ≡ subcommand_name_of m → Some rows ≡ option_map (λ p. p.1) (subcommand_rows_of m)
    → subcommand_rows_of m ≡ Some (name, rows)
found_one m name rows =
    joined (λ b. (out-SubCommand (box_value b)).name.now) (λ b. rows_of (found_of (out-SubCommand (box_value b)).matches)) (out-ArgMatches m).subcommand name rows

pub asked_migrate : (o : Option (Text × List Row)) (name : Text) (rows : List Row) (v : Versions) → o ≡ Some (name, rows) → name ≡ codes "migrate" → v ≡ versions_in rows
    → Some (Migrate v) ≡ option_and_then (λ p. request_of p.0 p.1) o
asked_migrate o name rows v is named own = rw (is, named, own) refl

pub asked_record : (o : Option (Text × List Row)) (name : Text) (rows : List Row) (v : Versions) → o ≡ Some (name, rows) → name ≡ codes "record" → v ≡ versions_in rows
    → Some (Record v) ≡ option_and_then (λ p. request_of p.0 p.1) o
asked_record o name rows v is named own = rw (is, named, own) refl

pub asked_check : (o : Option (Text × List Row)) (name : Text) (rows : List Row) (request : Option Request) → o ≡ Some (name, rows) → name ≡ codes "check"
    → request ≡ check_of rows → request ≡ option_and_then (λ p. request_of p.0 p.1) o
asked_check o name rows request is named checks = rw (is, named) checks

pub asked_combine : (o : Option (Text × List Row)) (name : Text) (rows : List Row) → o ≡ Some (name, rows) → name ≡ codes "combine"
    → Some Combine ≡ option_and_then (λ p. request_of p.0 p.1) o
asked_combine o name rows is named = rw (is, named) refl

pub asked_whole : (rows : List Row) (v : Versions) (workers cut : ℕ) → v ≡ versions_in rows → Some workers ≡ number_at 1 MAX_WORKERS (codes "workers") rows
    → Some cut ≡ number_at 1 LAST_CHECKPOINT (codes "cut") rows → Some (Check v workers cut) ≡ whole_check_of rows
asked_whole rows v workers cut own one other = rw (← one, ← other, own) refl

-- what `check` asks for, by what `clap` reads of the option `--shard`
module _ (o : Option Text) (rows : List Row) (same : o ≡ one_of (codes "shard") rows) (r : Result (Option ShardChoice) NoShard) (none : o ≡ None → r ≡ Ok None)
    (value : (t : Text) → o ≡ Some t → TriesOne IsChoice t r) where
  -- a check of the shard that a text chooses
  abbrev with_shard : Text → Option Request
  with_shard t = option_map (λ p. Shard (versions_in rows) p.0 p.1) (shard_of t)

  by_text : (request : Option Request) → (o ≡ None → request ≡ whole_check_of rows) → ((t : Text) → o ≡ Some t → request ≡ with_shard t) → request ≡ check_of rows
  by_text request whole shard = go o refl ∙ ap (λ (x : Option Text). check_with x rows) same
    where
      go : (x : Option Text) → o ≡ x → request ≡ check_with o rows
      go None e = rw e (whole e)
      go (Some t) e = rw e (shard t e)

  pub chosen : (choice : ShardChoice) (v : Versions) → r ≡ Ok (Some choice) → v ≡ versions_in rows → Some (Shard v choice.index choice.of) ≡ check_of rows
  chosen choice v is own = by_text (Some (Shard v choice.index choice.of))
      (λ e. let bad : Ok (Some choice) ≡ Ok None = sym is ∙ none e in absurd cc)
      (λ t e. let read : IsChoice t (Ok choice) = rw is at value t e in rw (read.0, own) refl)

  pub chosen_limits : (choice : ShardChoice) → r ≡ Ok (Some choice) → IsWithinLimits (Shard (versions_in rows) choice.index choice.of)
  chosen_limits choice is = go o refl
    where
      go : (x : Option Text) → o ≡ x → IsWithinLimits (Shard (versions_in rows) choice.index choice.of)
      go None e = (let bad : Ok (Some choice) ≡ Ok None = sym is ∙ none e in absurd cc)
      go (Some t) e = (let read : IsChoice t (Ok choice) = rw is at value t e in (read.1, read.2, read.3))

  pub unchosen : (request : Option Request) → r ≡ Ok None → request ≡ whole_check_of rows → request ≡ check_of rows
  unchosen request is whole = by_text request (λ e. whole) (λ t e. let bad : ⊥ = rw is at value t e in absurd bad)

  pub no_choice : (why : NoShard) → r ≡ Err why → None ≡ check_of rows
  no_choice why is = by_text None (λ e. let bad : Err why ≡ Ok None = sym is ∙ none e in absurd cc)
      (λ t e. let read : IsChoice t (Err why) = rw is at value t e in rw read refl)

different : (a b : Text) → a ≢ b → bytes_eq a b ≡ false
different a b differ = go (bytes_eq a b) (bytes_eq-Decides a b)
  where
    go : (r : Bool) → Decides r (a ≡ b) → r ≡ false
    go true is = absurd (differ (is.0 refl))
    go false is = refl

-- the versions, by what `clap` reads of the option `--disk`
module _ (E : Type 0) (o : Option Text) (r : Option Bool) (none : o ≡ None → r ≡ None) (value : (t : Text) → o ≡ Some t → ReadsOne {T = Bool} {E = E} ParsesBool t r) where
  with_disk : r ≡ Some true → WithDisk ≡ versions_by o
  with_disk is = go o refl
    where
      go : (x : Option Text) → o ≡ x → WithDisk ≡ versions_by x
      go None e = (let bad : Some true ≡ None = sym is ∙ none e in absurd cc)
      go (Some t) e =
          let read : ReadsOne {T = Bool} {E = E} ParsesBool t (Some true) = rw is at value t e in
          rw read refl

  without_disk : r ≢ Some true → WithoutDisk ≡ versions_by o
  without_disk other = go o refl
    where
      go : (x : Option Text) → o ≡ x → WithoutDisk ≡ versions_by x
      go None e = refl
      go (Some t) e = rw (different t _ (λ same. other (go_text r same (value t e)))) refl
        where
          go_text : (q : Option Bool) → t ≡ codes "true" → ReadsOne {T = Bool} {E = E} ParsesBool t q → q ≡ Some true
          go_text (Some true) same read = refl
          go_text (Some false) same read = (let bad : codes "true" ≡ codes "false" = sym same ∙ read in absurd cc)
          go_text None same read = absurd (read.1.0 same)

  pub by_flag : (disk : Bool) → disk ≡ unwrap_or r false → (IsTrue disk → WithDisk ≡ versions_by o) × (disk ≡ false → WithoutDisk ≡ versions_by o)
  by_flag disk is = go r refl
    where
      go : (q : Option Bool) → r ≡ q → (IsTrue disk → WithDisk ≡ versions_by o) × (disk ≡ false → WithoutDisk ≡ versions_by o)
      go (Some true) e = ((λ _. with_disk e), λ other. let bad : true ≡ false = sym (is ∙ ap (λ (q : Option Bool). unwrap_or q false) e) ∙ other in absurd cc)
      go (Some false) e = ((λ own. let bad : true ≡ false = sym own ∙ is ∙ ap (λ (q : Option Bool). unwrap_or q false) e in absurd cc), λ _. without_disk (λ own. let bad : Some true ≡ Some false = sym own ∙ e in absurd cc))
      go None e = ((λ own. let bad : true ≡ false = sym own ∙ is ∙ ap (λ (q : Option Bool). unwrap_or q false) e in absurd cc), λ _. without_disk (λ own. let bad : Some true ≡ None = sym own ∙ e in absurd cc))

pub asked_screen : (o : Option (Text × List Row)) (name : Text) (rows : List Row) (v : Versions) (at : ℕ) → o ≡ Some (name, rows) → name ≡ codes "screen" → v ≡ versions_in rows
    → Some at ≡ number_at 0 LAST_CHECKPOINT (codes "at") rows → Some (Screen v at) ≡ option_and_then (λ p. request_of p.0 p.1) o
asked_screen o name rows v at is named own one = rw (is, named, ← one, own) refl

pub asked_other : (o : Option (Text × List Row)) (name : Text) (rows : List Row) → o ≡ Some (name, rows) → name ≢ codes "check" → name ≢ codes "combine" → name ≢ codes "record"
    → name ≢ codes "screen" → name ≢ codes "migrate" → None ≡ option_and_then (λ p. request_of p.0 p.1) o
asked_other o name rows is a b c d e = rw (is, different name _ a, different name _ b, different name _ c, different name _ d, different name _ e) refl
