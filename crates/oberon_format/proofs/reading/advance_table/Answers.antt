use Rattle.oberon_format.proofs.Common.{change_count, false, FIRST_VERSION, refl, sym, version, ◌==◌, ◌∙◌, ◌≡◌}
use Rattle.oberon_format.proofs.RuleLemmas.{later_by}
use Rattle.oberon_format.proofs.ReadRules.{prior_is, numbers_next, number_second}
use Rattle.oberon_format.proofs.reading.advance_table.Goals as goal

pub returns-else-is_first_version : goal.returns-else-is_first_version
returns-else-is_first_version c =
    let bytes = c.args.bytes.now in let k = c.args.k in
    let test : (version bytes == FIRST_VERSION) ≡ false = sym c.is_first_version.ensures ∙ c.if-is_first_version.false in
    let is = later_by _ c.requires.meets.sized.known test in let count = change_count bytes c.args.offset in
    λ p lt.
    numbers_next bytes k c.args.offset count c.args.table.now.numbers c.change_table.new.table.numbers c.requires.offset refl (λ q less. c.requires.table q less ∙ prior_is bytes k q is) c.change_table.ensures p lt
    ∙ sym (number_second bytes k p is)
