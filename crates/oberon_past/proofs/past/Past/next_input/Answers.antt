use Rattle.std.proofs.Common.{◌≡◌, arith, length, max, subst}
use Rattle.risc_model.specs.InputOrder.{AreOrdered, count_before}
use Rattle.oberon_past.proofs.NextInputs.{next-from, next-to}
use Rattle.oberon_past.specs.Past.{PastParts}
use Rattle.oberon_past.proofs.past.Past.next_input.Goals as goal

pub returns : goal.returns
returns c = λ inputs.
    let past = c.args.self.now in
    let before = past.run.inputs in
    let ordered = subst (λ (p : PastParts). AreOrdered p.run.inputs) c.self.view_is c.events.ensures.ordered in
    let least : c.max.result ≡ max past.end (count_before before (length before)) = search arith in (
      λ next. next-from before inputs past.end c.max.result least next.ordered next.after,
      λ is. let all = next-to before inputs past.end c.max.result least ordered is.0 is.1 in record { ordered = all.0; after = all.1 },
    )
