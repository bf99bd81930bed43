use Rattle.std.proofs.Common.{refl, ap, sym, ◌∙◌}
use Rattle.risc_pages.proofs.PoolLemmas.{page_of-zero}
use Rattle.risc_pages.specs.declared.slot.Slot.{Slot}
use Rattle.risc_pages.specs.inner.Slots.{content}
use Rattle.risc_pages.proofs.slot.Slot.is_same.Goals as goal

pub returns-in-Blank-clause-same : goal.returns-in-Blank-clause-same
returns-in-Blank-clause-same c =
    (λ _. ap (λ (p : Slot). content p) c.in-Blank.is ∙ c.in-Blank.field-0.now.blank ∙ sym (page_of-zero _ _ c.if-page_id-eq0.true), λ _. refl)
