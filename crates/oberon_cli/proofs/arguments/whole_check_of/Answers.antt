use Rattle.clap.specs.Words.{found_of, rows_of}
use Rattle.oberon_cli.proofs.FoundLemmas.{asked_whole}
use Rattle.oberon_cli.proofs.arguments.whole_check_of.Goals as goal

pub returns-clause-value : goal.returns-clause-value
returns-clause-value c = asked_whole (rows_of (found_of c.args.matches.now)) _ _ _ c.versions_in.ensures c.in_ok-whole_number.ensures.value c.in_ok-whole_number-2.ensures.value
