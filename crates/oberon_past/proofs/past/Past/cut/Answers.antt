use Rattle.std.proofs.Common.{◌≡◌, ◌∙◌, ◌+◌, ◌≤◌, ℕ, List, ap, map, refl, subst, sym, take}
use Rattle.std.proofs.lemmas.List.{take-map}
use Rattle.risc_model.specs.InputOrder.{IsNextAt}
use Rattle.risc_model.specs.declared.event.Event.{Event}
use Rattle.oberon_format.specs.CheckpointParts.{checkpoint_parts}
use Rattle.oberon_format.specs.Recording.{parts_of}
use Rattle.oberon_past.proofs.Cutting.{is-up_to, up_to-kept}
use Rattle.oberon_past.proofs.Inputs.{take-before}
use Rattle.oberon_past.specs.Live.{IsUpTo}
use Rattle.oberon_past.specs.Past.{PastParts, nearest, past_of}
use Rattle.oberon_past.proofs.past.Past.cut.Goals as goal

pub invariant_of-self : goal.invariant_of-self
invariant_of-self c =
    let past = c.self.inside in
    let at : ℕ = c.args.at in
    let k : ℕ = c.nearest-kept.result in
    let begun = subst (λ (p : PastParts). p.run.start ≤ at) (sym c.self.view_is) c.in_default.ensures.first in
    let inside = subst (λ (p : PastParts). at ≤ p.end) (sym c.self.view_is) c.in_default.ensures.end in
    let near = subst (λ (p : PastParts). k ≡ nearest p at) (sym c.self.view_is) c.nearest-kept.ensures.index in
    let next = subst (λ (es : List Event). IsNextAt es c.first_from-next.result at) c.events.ensures.events c.first_from-next.ensures in
    up_to-kept (parts_of past.stored.pool past.inputs past.keyframes.items) past.spacing.count past.end c.self.invariant at k begun inside near
    past.stored.pool c.truncate-2.new.self c.truncate.new.self.items refl (c.truncate-2.ensures ∙ take-before past.inputs c.first_from-next.result at next)
    (ap (map checkpoint_parts) c.truncate.ensures.items ∙ sym (take-map checkpoint_parts (k + 1) past.keyframes.items))

pub returns-clause-cut : goal.returns-clause-cut
returns-clause-cut c =
    let past = c.self.inside in
    let at : ℕ = c.args.at in
    let k : ℕ = c.nearest-kept.result in
    let begun = subst (λ (p : PastParts). p.run.start ≤ at) (sym c.self.view_is) c.in_default.ensures.first in
    let inside = subst (λ (p : PastParts). at ≤ p.end) (sym c.self.view_is) c.in_default.ensures.end in
    let near = subst (λ (p : PastParts). k ≡ nearest p at) (sym c.self.view_is) c.nearest-kept.ensures.index in
    let next = subst (λ (es : List Event). IsNextAt es c.first_from-next.result at) c.events.ensures.events c.first_from-next.ensures in
    subst
    (λ (p : PastParts). IsUpTo at p (past_of (parts_of past.stored.pool c.truncate-2.new.self c.truncate.new.self.items) past.spacing.count at))
    c.self.view_is
    (is-up_to (parts_of past.stored.pool past.inputs past.keyframes.items) past.spacing.count past.end c.self.invariant at k begun inside near
    past.stored.pool c.truncate-2.new.self c.truncate.new.self.items refl (c.truncate-2.ensures ∙ take-before past.inputs c.first_from-next.result at next)
    (ap (map checkpoint_parts) c.truncate.ensures.items ∙ sym (take-map checkpoint_parts (k + 1) past.keyframes.items)))
