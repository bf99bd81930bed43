use Rattle.std.proofs.Common.{◌≡◌, ◌∙◌, ap, sym}
use Rattle.oberon_shards.proofs.PartNames.{part_of_name}
use Rattle.oberon_shards.proofs.said.part_in.Goals as goal

pub returns-clause-part : goal.returns-clause-part
returns-clause-part c = λ p inside is.
    rw (c.part_from.ensures.part, c.byte_at.ensures, c.byte_at-2.ensures)
    (part_of_name c.args.name.now p c.index_below-register.result c.index_below-page.result inside is
    (λ n less text. c.index_below-register.ensures.index n less (c.after.ensures ∙ text))
    (λ n less text. c.index_below-page.ensures.index n less (c.after-2.ensures ∙ text)))
