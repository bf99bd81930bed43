use Rattle.std.proofs.Common.{◌∙◌, ap, ap₂, true}
use Rattle.std.proofs.lemmas.Result.{IfOk-weaker}
use Rattle.clap.specs.Words.{App, with_subcommand}
use Rattle.clap.specs.Simple.{app_of_fields}
use Rattle.clap.specs.declared.builder.command.Command.{Command}
use Rattle.clap.specs.declared.builder.command.Command.TheOpen.{Command-F}
use Rattle.oberon_cli.proofs.command.program.Goals as goal

-- a command with the program's two settings
abbrev with_settings : App → App
with_settings a = record { top = record a.top { no_binary_name = true; subcommand_required = true }; subs = a.subs }

pub returns : goal.returns
returns c =
    let none = ap app_of_fields c.subcommand_required.ensures
    ∙ ap (λ (f : Command-F Command). app_of_fields (record f { subcommand_required = true })) c.no_binary_name.ensures
    ∙ ap (λ (f : Command-F Command). with_settings (app_of_fields f)) c.after_help.ensures
    ∙ ap (λ (f : Command-F Command). with_settings (app_of_fields f)) c.about.ensures
    ∙ ap (λ (f : Command-F Command). with_settings (app_of_fields f)) c.in_ok-bin_name.ensures.0
    ∙ ap with_settings c.new.ensures.app in
    let one = c.in_ok-subcommand.ensures.shape c.in_ok-check.ensures.local
    ∙ ap₂ with_subcommand none (ap (λ (a : App). a.top) c.in_ok-check.ensures.app) in
    let two = c.in_ok-subcommand-2.ensures.shape c.combine.ensures.local
    ∙ ap₂ with_subcommand one (ap (λ (a : App). a.top) c.combine.ensures.app) in
    let three = c.in_ok-subcommand-3.ensures.shape c.in_ok-record.ensures.local
    ∙ ap₂ with_subcommand two (ap (λ (a : App). a.top) c.in_ok-record.ensures.app) in
    let four = c.in_ok-subcommand-4.ensures.shape c.in_ok-screen.ensures.local
    ∙ ap₂ with_subcommand three (ap (λ (a : App). a.top) c.in_ok-screen.ensures.app) in
    record {
      app = IfOk-weaker c.subcommand-5.result _ _
          (λ r h. h.shape c.in_ok-migrate.ensures.local
          ∙ ap₂ with_subcommand four (ap (λ (a : App). a.top) c.in_ok-migrate.ensures.app))
          c.subcommand-5.ensures;
    }
