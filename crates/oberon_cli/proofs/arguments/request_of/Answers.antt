use Rattle.oberon_cli.proofs.FoundLemmas.{asked_check, asked_combine, asked_migrate, asked_other, asked_record, asked_screen, found_one}
use Rattle.oberon_cli.proofs.arguments.request_of.Goals as goal

pub returns-in-migrate-clause-value : goal.returns-in-migrate-clause-value
returns-in-migrate-clause-value c =
    asked_migrate _ _ _ _ (found_one c.args.matches.now _ _ c.in_ok-name.ensures.name c.in_ok-name.ensures.rows) c.in-migrate.is c.versions_in-in-migrate.ensures

pub returns-in-record-clause-value : goal.returns-in-record-clause-value
returns-in-record-clause-value c =
    asked_record _ _ _ _ (found_one c.args.matches.now _ _ c.in_ok-name.ensures.name c.in_ok-name.ensures.rows) c.in-record.is c.versions_in.ensures

pub returns-in_default-clause-value : goal.returns-in_default-clause-value
returns-in_default-clause-value c =
    asked_other _ _ _ (found_one c.args.matches.now _ _ c.in_ok-name.ensures.name c.in_ok-name.ensures.rows)
    c.in_default.not-check c.in_default.not-combine c.in_default.not-record c.in_default.not-screen c.in_default.not-migrate

pub returns-in-combine-clause-value : goal.returns-in-combine-clause-value
returns-in-combine-clause-value c =
    asked_combine _ _ _ (found_one c.args.matches.now _ _ c.in_ok-name.ensures.name c.in_ok-name.ensures.rows) c.in-combine.is

pub returns-in-check-clause-value : goal.returns-in-check-clause-value
returns-in-check-clause-value c =
    asked_check _ _ _ _ (found_one c.args.matches.now _ _ c.in_ok-name.ensures.name c.in_ok-name.ensures.rows) c.in-check.is c.check_of.ensures.value

pub returns-in_ok-whole_number-in-screen-clause-value : goal.returns-in_ok-whole_number-in-screen-clause-value
returns-in_ok-whole_number-in-screen-clause-value c =
    asked_screen _ _ _ _ _ (found_one c.args.matches.now _ _ c.in_ok-name.ensures.name c.in_ok-name.ensures.rows) c.in-screen.is c.versions_in-in-screen.ensures
    c.in_ok-whole_number-in-screen.ensures.value
