use Rattle.std.proofs.Common.{◌≡◌, ◌∙◌, ◌+◌, ◌≤◌, ℕ, List, ap, map, subst, sym, take}
use Rattle.std.proofs.lemmas.List.{take-map}
use Rattle.risc_model.proofs.OrderLemmas.{ordered-take}
use Rattle.risc_model.specs.InputOrder.{IsNextAt}
use Rattle.risc_model.specs.declared.event.Event.{Event}
use Rattle.oberon_format.specs.CheckpointParts.{checkpoint_parts}
use Rattle.oberon_format.specs.Recording.{parts_of}
use Rattle.oberon_format.specs.declared.checkpoint.Checkpoint.{Checkpoint}
use Rattle.oberon_past.proofs.Cutting.{is-up_to, up_to-kept}
use Rattle.oberon_past.proofs.Inputs.{take-before}
use Rattle.oberon_past.specs.Live.{IsUpTo}
use Rattle.oberon_past.specs.Past.{PastParts, nearest, past_of}
use Rattle.oberon_past.proofs.past.Past.branch.Goals as goal

pub inputs_copy-requires : goal.inputs_copy-requires
inputs_copy-requires c = ordered-take c.events-events.result.now c.first_from-next.result c.first_from-next.ensures.ordered

pub invariant_of-result-2 : goal.invariant_of-result-2
invariant_of-result-2 c =
    let past = c.self.inside in
    let at : ℕ = c.args.at in
    let k : ℕ = c.nearest-kept.result in
    let first : ℕ = c.first_from-next.result in
    let begun = subst (λ (p : PastParts). p.run.start ≤ at) (sym c.self.view_is) c.in_default.ensures.first in
    let inside = subst (λ (p : PastParts). at ≤ p.end) (sym c.self.view_is) c.in_default.ensures.end in
    let near = subst (λ (p : PastParts). k ≡ nearest p at) (sym c.self.view_is) c.nearest-kept.ensures.index in
    let next = subst (λ (es : List Event). IsNextAt es first at) c.events-events.ensures.events c.first_from-next.ensures in
    up_to-kept (parts_of past.stored.pool past.inputs past.keyframes.items) past.spacing.count past.end c.self.invariant at k begun inside near
    c.in_ok-pool_copy.field-0 c.in_ok-inputs_copy.field-0 c.in_ok-keyframes_copy.field-0.items c.in_ok-pool_copy.ensures
    (c.in_ok-inputs_copy.ensures ∙ ap (λ (es : List Event). take first es) c.events-events.ensures.events ∙ take-before past.inputs first at next)
    (c.in_ok-keyframes_copy.ensures ∙ ap (λ (l : List Checkpoint). map checkpoint_parts (take (k + 1) l)) c.deref.ensures.value
    ∙ sym (take-map checkpoint_parts (k + 1) past.keyframes.items))

pub returns-clause-branch : goal.returns-clause-branch
returns-clause-branch c =
    let past = c.self.inside in
    let at : ℕ = c.args.at in
    let k : ℕ = c.nearest-kept.result in
    let first : ℕ = c.first_from-next.result in
    let begun = subst (λ (p : PastParts). p.run.start ≤ at) (sym c.self.view_is) c.in_default.ensures.first in
    let inside = subst (λ (p : PastParts). at ≤ p.end) (sym c.self.view_is) c.in_default.ensures.end in
    let near = subst (λ (p : PastParts). k ≡ nearest p at) (sym c.self.view_is) c.nearest-kept.ensures.index in
    let next = subst (λ (es : List Event). IsNextAt es first at) c.events-events.ensures.events c.first_from-next.ensures in
    subst
    (λ (p : PastParts). IsUpTo at p
    (past_of (parts_of c.in_ok-pool_copy.field-0 c.in_ok-inputs_copy.field-0 c.in_ok-keyframes_copy.field-0.items) past.spacing.count at))
    c.self.view_is
    (is-up_to (parts_of past.stored.pool past.inputs past.keyframes.items) past.spacing.count past.end c.self.invariant at k begun inside near
    c.in_ok-pool_copy.field-0 c.in_ok-inputs_copy.field-0 c.in_ok-keyframes_copy.field-0.items c.in_ok-pool_copy.ensures
    (c.in_ok-inputs_copy.ensures ∙ ap (λ (es : List Event). take first es) c.events-events.ensures.events ∙ take-before past.inputs first at next)
    (c.in_ok-keyframes_copy.ensures ∙ ap (λ (l : List Checkpoint). map checkpoint_parts (take (k + 1) l)) c.deref.ensures.value
    ∙ sym (take-map checkpoint_parts (k + 1) past.keyframes.items)))
