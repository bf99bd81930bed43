use Rattle.std.proofs.Common.{◌≡◌, ◌∙◌, ◌<◌, [], List, map, length, sym, ap, option_and_then, arith}
use Rattle.std.proofs.lemmas.List.{length-map}
use Rattle.clap.specs.Words.{is_simple, subcommand_rows_of, Text}
use Rattle.clap.specs.Faults.{is_simple_and_free}
use Rattle.clap.specs.Kinds.{HasKind}
use Rattle.oberon_cli.specs.Asked.{request_in, faults, found, request_of}
use Rattle.oberon_cli.proofs.Parsed.{answered, asked_found, faults_are, found_is, free, refused, simple, within_limits}
use Rattle.oberon_cli.proofs.arguments.parsed.Goals as goal

pub returns-in-Ok : goal.returns-in-Ok
returns-in-Ok c =
    let arguments : List Text = map (λ argument. argument.now) c.args.arguments.now in
    let some : 0 < length arguments = simp length-map c.requires in
    let app = c.in_ok-program.ensures.app in
    let none : faults arguments ≡ [] = sym (faults_are _ arguments app) ∙ c.in-Ok.ensures.kinds (ap is_simple_and_free app ∙ free) in
    let subcommand : subcommand_rows_of c.in-Ok.matches ≡ found arguments = (c.in-Ok.ensures.matches (ap is_simple app ∙ simple)).1 ∙ found_is _ arguments app in
    let is : request_in arguments ≡ c.request_of.result = asked_found arguments some none ∙ ap (option_and_then (λ p. request_of p.0 p.1)) (sym subcommand) ∙ sym c.request_of.ensures.value in
    let both = answered arguments _ c.ok_or.result c.ok_or.ensures.value is none in
    record { ok = both.0; limits = within_limits _ c.ok_or.result c.ok_or.ensures.value c.request_of.ensures.limits; err = both.1 }

pub returns-in-Err-clause-err : goal.returns-in-Err-clause-err
returns-in-Err-clause-err c =
    let arguments : List Text = map (λ argument. argument.now) c.args.arguments.now in
    let some : 0 < length arguments = simp length-map c.requires in
    let app = c.in_ok-program.ensures.app in
    let kinds : HasKind (faults arguments) c.in-Err.error = rw (← faults_are _ arguments app) (c.in-Err.ensures.kinds (ap is_simple_and_free app ∙ free)) in
    rw c.refusal_of.ensures (refused arguments c.in-Err.error some kinds)

pub returns-in-Err-clause-ok : goal.returns-in-Err-clause-ok
returns-in-Err-clause-ok c = search arith
