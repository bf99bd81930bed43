use Rattle.std.proofs.Common.{◌∙◌, ap, codes}
use Rattle.clap.specs.Words.{found_of, one_text, rows_of}
use Rattle.clap.proofs.WalkLemmas.{one_text-rows}
use Rattle.oberon_cli.specs.Asked.{versions_by}
use Rattle.oberon_cli.proofs.FoundLemmas.{by_flag}
use Rattle.oberon_cli.proofs.arguments.versions_in.Goals as goal

pub returns-then-disk : goal.returns-then-disk
returns-then-disk c =
    let found = found_of c.args.matches.now in
    (by_flag _ (one_text found (codes "disk")) c.get_one.result c.get_one.ensures.none c.get_one.ensures.value c.unwrap_or-disk.result c.unwrap_or-disk.ensures).0 c.if-disk.true
    ∙ ap versions_by (one_text-rows found (codes "disk"))

pub returns-else-disk : goal.returns-else-disk
returns-else-disk c =
    let found = found_of c.args.matches.now in
    (by_flag _ (one_text found (codes "disk")) c.get_one.result c.get_one.ensures.none c.get_one.ensures.value c.unwrap_or-disk.result c.unwrap_or-disk.ensures).1 c.if-disk.false
    ∙ ap versions_by (one_text-rows found (codes "disk"))
