-- A parse by `clap`, in terms of the definition of what the arguments ask for.
use Rattle.std.proofs.Common.{◌≡◌, ◌==◌, ℕ, zero, suc, ◌≢◌, ◌<◌, ◌∙◌, List, [], ◌∷◌, Some, Option, Result, Ok, Err, IfOk, IfErr, IfSome, None, true, false, ◌⊎◌, arith, refl, sym, ap, length, map, option_and_then, inl, inr, true-eqb}
use Rattle.std.proofs.lemmas.Bool.{ne_eqb}
use Rattle.std.specs.Option.{ok_or}
use Rattle.clap.specs.Words.{App, Text, is_simple, subcommand_of}
use Rattle.clap.specs.Walk.{is_empty}
use Rattle.clap.specs.Kinds.{HasKind, IsAmong, Kinds}
use Rattle.clap.specs.Values.{kind_of}
use Rattle.clap.specs.Faults.{fault_of, is_simple_and_free}
use Rattle.clap.specs.declared.error.Error.{Error}
use Rattle.clap.specs.declared.error.kind.ErrorKind.{ErrorKind}
use Rattle.clap.specs.declared.error.kind.ErrorKind.TheVariants as kind
use Rattle.clap.specs.declared.error.kind.ErrorKind.TheVariants.{DisplayHelp, OutOfMemory}
use Rattle.oberon_cli.specs.Program.{program_app}
use Rattle.oberon_cli.specs.declared.arguments.Request.{Request}
use Rattle.oberon_cli.specs.declared.arguments.Refusal.{Refusal}
use Rattle.oberon_cli.specs.declared.arguments.Refusal.TheVariants.{Words}
use Rattle.oberon_cli.specs.Asked.{IsRefused, request_in, faults, found, request_of}
use Rattle.oberon_cli.specs.inner.Requests.{IsWithinLimits, RefusedBy, refusal_by}

pub some_arguments : (n : ℕ) → false ≡ (n == 0) → 0 < n
some_arguments zero is = cc
some_arguments (suc n) is = omega arith

-- what is true of no arguments is true of these, if there are none
pub no_arguments : {X : Type 0} (P : List Text → Type 0) (arguments : List X) (text : X → Text) → true ≡ (length arguments == 0) → P [] → P (map text arguments)
no_arguments P [] text is none = none
no_arguments P (argument ∷ arguments) text is none =
    let empty : length (argument ∷ arguments) ≡ 0 = true-eqb _ _ is in
    absurd (omega (arith, empty))

pub simple : is_simple program_app ≡ true
simple = refl

pub free : is_simple_and_free program_app ≡ true
free = refl

pub faults_are : (a : App) (arguments : List Text) → a ≡ program_app → fault_of a arguments ≡ faults arguments
unfolding faults
faults_are a arguments e = ap (λ (x : App). fault_of x arguments) e

pub found_is : (a : App) (arguments : List Text) → a ≡ program_app → subcommand_of a arguments ≡ found arguments
unfolding found
found_is a arguments e = ap (λ (x : App). subcommand_of x arguments) e

-- if `clap` finds no fault, the arguments ask for what its subcommand does
pub asked_found : (arguments : List Text) → 0 < length arguments → faults arguments ≡ [] → request_in arguments ≡ option_and_then (λ p. request_of p.0 p.1) (found arguments)
asked_found [] some none = absurd (omega arith)
asked_found (argument ∷ arguments) some none = rw none refl

some_kind : (kinds : Kinds) (k : ErrorKind) → IsAmong k kinds → is_empty kinds ≡ false
some_kind [] k among = absurd among
some_kind (x ∷ rest) k among = ne_eqb _ _ (λ e. omega arith)

-- if it finds one, for nothing
pub asked_none : (arguments : List Text) (k : ErrorKind) → 0 < length arguments → IsAmong k (faults arguments) → request_in arguments ≡ None
asked_none [] k some among = absurd (omega arith)
asked_none (argument ∷ arguments) k some among =
    let has_fault = some_kind (faults (argument ∷ arguments)) k among in
    rw has_fault refl

-- an error that is not a help request refuses the arguments
refused_arguments : (arguments : List Text) (k : ErrorKind) → 0 < length arguments → k ≢ OutOfMemory → k ≢ DisplayHelp → (k ≡ OutOfMemory) ⊎ IsAmong k (faults arguments)
    → IsRefused arguments
refused_arguments arguments k some no_memory no_help (inl h) = absurd (no_memory h)
refused_arguments arguments k some no_memory no_help (inr h) = (asked_none arguments k some h, λ one. not_alone (rw one at h))
  where
    not_alone : IsAmong k (DisplayHelp ∷ []) → ⊥
    not_alone (inl same) = no_help same
    not_alone (inr none) = absurd none

pub refused : (arguments : List Text) (e : Error) → 0 < length arguments → HasKind (faults arguments) e → RefusedBy arguments (refusal_by (kind_of e) e)
refused arguments e some h = go (kind_of e) h
  where
    go : (k : ErrorKind) → (k ≡ OutOfMemory) ⊎ IsAmong k (faults arguments) → RefusedBy arguments (refusal_by k e)
    go kind.DisplayHelp (inl h) =
        let bad : kind.DisplayHelp ≡ kind.OutOfMemory = h in
        cc
    go kind.DisplayHelp (inr h) = h
    go kind.OutOfMemory h = tt
    go kind.InvalidValue h = refused_arguments arguments _ some (λ e. cc) (λ e. cc) h
    go kind.UnknownArgument h = refused_arguments arguments _ some (λ e. cc) (λ e. cc) h
    go kind.InvalidSubcommand h = refused_arguments arguments _ some (λ e. cc) (λ e. cc) h
    go kind.NoEquals h = refused_arguments arguments _ some (λ e. cc) (λ e. cc) h
    go kind.ValueValidation h = refused_arguments arguments _ some (λ e. cc) (λ e. cc) h
    go kind.TooManyValues h = refused_arguments arguments _ some (λ e. cc) (λ e. cc) h
    go kind.TooFewValues h = refused_arguments arguments _ some (λ e. cc) (λ e. cc) h
    go kind.WrongNumberOfValues h = refused_arguments arguments _ some (λ e. cc) (λ e. cc) h
    go kind.ArgumentConflict h = refused_arguments arguments _ some (λ e. cc) (λ e. cc) h
    go kind.MissingRequiredArgument h = refused_arguments arguments _ some (λ e. cc) (λ e. cc) h
    go kind.MissingSubcommand h = refused_arguments arguments _ some (λ e. cc) (λ e. cc) h
    go kind.DisplayHelpOnMissingArgumentOrSubcommand h = refused_arguments arguments _ some (λ e. cc) (λ e. cc) h
    go kind.DisplayVersion h = refused_arguments arguments _ some (λ e. cc) (λ e. cc) h
    go kind.Io h = refused_arguments arguments _ some (λ e. cc) (λ e. cc) h
    go kind.Format h = refused_arguments arguments _ some (λ e. cc) (λ e. cc) h

-- matches of no known command ask for nothing
pub unread : (arguments : List Text) → faults arguments ≡ [] → request_in arguments ≡ None → IsRefused arguments
unread arguments none nothing = (nothing, λ one. no_list (sym none ∙ one))
  where
    no_list : {X : Type 0} {x : X} → [] ≡ x ∷ [] → ⊥
    no_list e = cc

-- matches are answered with the command that the arguments ask for, or the arguments are refused
pub answered : (arguments : List Text) (o : Option Request) (r : Result Request Refusal) → r ≡ ok_or o Words → request_in arguments ≡ o → faults arguments ≡ []
    → IfOk r (λ request. request_in arguments ≡ Some request) × IfErr r (RefusedBy arguments)
answered arguments o (Ok request) is asks none = (go o is asks, tt)
  where
    go : (o : Option Request) → Ok request ≡ ok_or o Words → request_in arguments ≡ o → request_in arguments ≡ Some request
    go None is asks = cc
    go (Some x) is asks = cc
answered arguments o (Err refusal) is asks none = (tt, go o is asks)
  where
    go : (o : Option Request) → Err refusal ≡ ok_or o Words → request_in arguments ≡ o → RefusedBy arguments refusal
    go None is asks =
        let same : refusal ≡ Words = cc in
        rw same (unread arguments none asks)
    go (Some x) is asks = cc

pub within_limits : (o : Option Request) (r : Result Request Refusal) → r ≡ ok_or o Words → IfSome o IsWithinLimits → IfOk r IsWithinLimits
within_limits None r is h = rw is tt
within_limits (Some request) r is h = rw is h
