use Rattle.oberon_format.proofs.Common.{[], ap, arith, IsEventAt, length-append, subst, ℕ, ◌∙◌, ◌∷◌}
use Rattle.oberon_format.proofs.Bytes.{each_push}
use Rattle.oberon_format.specs.Layout.{event_start}
use Rattle.oberon_format.specs.inner.Decoded.{IsEvent}
use Rattle.oberon_format.proofs.reading.events_of.Goals as goal

pub loop-i-preserved : goal.loop-i-preserved
loop-i-preserved c =
    let bytes = c.args.bytes.now in let i = c.loop-i.i in let items = c.loop-i.list.items in let event = c.event_of.result in
    let start = c.event_start.ensures ∙ ap (λ (pages : ℕ). event_start pages i) c.page_count-pages.ensures in
    let here = subst (λ (at : ℕ). IsEvent bytes at event) start c.event_of.ensures in
    rw c.in_ok-push.ensures.items (record {
      len = omega (arith, length-append items (event ∷ []), c.loop-i.invariant.len);
      each = each_push (IsEventAt bytes) items i event c.loop-i.invariant.len c.loop-i.invariant.each here;
    })
