use Rattle.std.proofs.Common.{◌∙◌, Ok, ap, codes}
use Rattle.clap.specs.Words.{found_of, one_text, rows_of}
use Rattle.clap.proofs.WalkLemmas.{one_text-rows}
use Rattle.oberon_cli.proofs.FoundLemmas.{chosen, chosen_limits, no_choice, unchosen}
use Rattle.oberon_cli.proofs.arguments.check_of.Goals as goal

pub returns-in-Ok-Some-clause-value : goal.returns-in-Ok-Some-clause-value
returns-in-Ok-Some-clause-value c =
    let found = found_of c.args.matches.now in
    chosen (one_text found (codes "shard")) (rows_of found) (one_text-rows found (codes "shard")) c.try_get_one.result c.try_get_one.ensures.none
    c.try_get_one.ensures.value c.in-Ok-Some.choice c.versions_in.result (c.in-Ok-Some.is ∙ ap Ok c.in-Ok-Some.field-0-is) c.versions_in.ensures

pub returns-in-Ok-Some-clause-limits : goal.returns-in-Ok-Some-clause-limits
returns-in-Ok-Some-clause-limits c =
    let found = found_of c.args.matches.now in
    chosen_limits (one_text found (codes "shard")) (rows_of found) (one_text-rows found (codes "shard")) c.try_get_one.result c.try_get_one.ensures.none
    c.try_get_one.ensures.value c.in-Ok-Some.choice (c.in-Ok-Some.is ∙ ap Ok c.in-Ok-Some.field-0-is)

pub returns-in-Ok-None-clause-value : goal.returns-in-Ok-None-clause-value
returns-in-Ok-None-clause-value c =
    let found = found_of c.args.matches.now in
    unchosen (one_text found (codes "shard")) (rows_of found) (one_text-rows found (codes "shard")) c.try_get_one.result c.try_get_one.ensures.none
    c.try_get_one.ensures.value c.whole_check_of.result (c.in-Ok-None.is ∙ ap Ok c.in-Ok-None.field-0-is) c.whole_check_of.ensures.value

pub returns-in-Err-clause-value : goal.returns-in-Err-clause-value
returns-in-Err-clause-value c =
    let found = found_of c.args.matches.now in
    no_choice (one_text found (codes "shard")) (rows_of found) (one_text-rows found (codes "shard")) c.try_get_one.result c.try_get_one.ensures.none
    c.try_get_one.ensures.value c.in-Err.field-0 c.in-Err.is
