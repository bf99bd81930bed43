use Rattle.oberon_format.proofs.Common.{ap, flags_of, ◌∙◌}
use Rattle.oberon_format.proofs.reading.cpu_of.Goals as goal

pub returns : goal.returns
returns c =
    let flags = c.from_number.ensures ∙ ap flags_of c.u32_at-3.ensures in
    λ i. record { r = c.words_from-r.ensures i; h = c.u32_at.ensures i; pc = c.u32_at-2.ensures i; flags = flags i; stop = c.u32_at-4.ensures i }
