-- From the single tests to the rules of the whole draft.
use Rattle.std.proofs.Common.{map}
use Rattle.oberon_session.proofs.Mapped.{mapped-fit, mapped-rises}
use Rattle.oberon_session.specs.Draft.{PageText}
use Rattle.oberon_session.specs.inner.Drafts.{draft_view, input_view, page_view}
use Rattle.oberon_session.specs.Ranges.{input_counts}
use Rattle.oberon_session.specs.inner.Tested.{BreaksDraft, BreaksInputs, InOrder, InRange, InputsFit, NeverFalls, NumbersFit, NumbersRise, PageFits}
use Rattle.oberon_session.specs.declared.fault.SessionFault.{SessionFault}
use Rattle.oberon_session.specs.declared.fault.SessionFault.TheVariants.{Json, Shape, Range, Order, Hex, Memory}
use Rattle.oberon_session.specs.declared.draft.Draft.{Draft as DraftValue}

module _ (d : DraftValue) where
  pub in-range : NumbersFit d → InputsFit d.version (map input_view d.inputs.items) → InRange (draft_view d)
  in-range fit inputs =
      record { start = fit.0; pages = (mapped-fit 1024 PageFits page_view d.pages.items).0 fit.1; inputs = inputs; checkpoints = fit.2 }

  pub numbers-fit : InRange (draft_view d) → NumbersFit d
  numbers-fit range = (range.start, (mapped-fit 1024 PageFits page_view d.pages.items).1 range.pages, range.checkpoints)

  pub in-order : NumbersRise d → NeverFalls (input_counts (map input_view d.inputs.items)) → InOrder (draft_view d)
  in-order rise inputs =
      record { pages = (mapped-rises (λ (page : PageText). page.at) page_view d.pages.items).0 rise.0; inputs = inputs; checkpoints = rise.1 }

  pub numbers-rise : InOrder (draft_view d) → NumbersRise d
  numbers-rise order = ((mapped-rises (λ (page : PageText). page.at) page_view d.pages.items).1 order.pages, order.checkpoints)

  pub breaks-inputs : NumbersFit d → (fault : SessionFault) → BreaksInputs d.version (map input_view d.inputs.items) fault → BreaksDraft (draft_view d) fault
  breaks-inputs fit Json h = h
  breaks-inputs fit Shape h = h
  breaks-inputs fit Range h = λ range. h range.inputs
  breaks-inputs fit Order h = (in-range fit h.0, λ order. h.1 order.inputs)
  breaks-inputs fit Hex h = absurd h
  breaks-inputs fit Memory h = h
