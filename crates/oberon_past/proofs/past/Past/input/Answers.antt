use Rattle.std.proofs.Common.{◌≡◌, ℕ, List, ◌++◌, subst, sym}
use Rattle.risc_model.specs.declared.event.Event.{Event}
use Rattle.oberon_format.specs.Recording.{parts_of}
use Rattle.oberon_past.proofs.Adding.{added-kept, has-inputs}
use Rattle.oberon_past.proofs.Warming.{either-way, warm-same}
use Rattle.oberon_past.specs.Live.{AreNext, HasInputs}
use Rattle.oberon_past.specs.Past.{PastParts, past_of}
use Rattle.oberon_past.specs.inner.Warm.{IsWarm}
use Rattle.oberon_past.proofs.past.Past.input.Goals as goal

pub invariant_of-self-inside : goal.invariant_of-self-inside
invariant_of-self-inside c =
    let past = c.self.inside in
    let old = parts_of past.stored.pool past.inputs past.keyframes.items in
    let new = parts_of past.stored.pool c.append.new.self past.keyframes.items in
    let spacing : ℕ = past.spacing.count in
    let end : ℕ = past.end in
    let next = subst (λ (p : PastParts). AreNext p c.args.inputs.now) (sym c.self.view_is) (c.are_next.ensures.0 c.if-not-are_next.false) in
    let added = λ (is : c.append.new.self ≡ past.inputs ++ c.args.inputs.now).
    let has = has-inputs old spacing end c.self.invariant c.args.inputs.now c.append.new.self next is in
    warm-same (past_of old spacing end).run (past_of new spacing end).run end past.warm has.states past.warm_at_end in (
      either-way (λ (es : List Event). IsWarm (parts_of past.stored.pool es past.keyframes.items) spacing end past.warm) c.append.result
          (past.inputs ++ c.args.inputs.now) past.inputs c.append.new.self c.append.ensures.appended c.append.ensures.unchanged added past.warm_at_end,
      tt,
    )

pub invariant_of-self-2 : goal.invariant_of-self-2
invariant_of-self-2 c =
    let past = c.self.inside in
    let next = subst (λ (p : PastParts). AreNext p c.args.inputs.now) (sym c.self.view_is) (c.are_next.ensures.0 c.if-not-are_next.false) in
    added-kept (parts_of past.stored.pool past.inputs past.keyframes.items) past.spacing.count past.end c.self.invariant c.args.inputs.now
    c.append.new.self next c.in_ok-append.ensures.appended

pub returns-clause-added : goal.returns-clause-added
returns-clause-added c =
    let past = c.self.inside in
    let next = subst (λ (p : PastParts). AreNext p c.args.inputs.now) (sym c.self.view_is) (c.are_next.ensures.0 c.if-not-are_next.false) in
    subst
    (λ (p : PastParts). HasInputs p c.args.inputs.now (past_of (parts_of past.stored.pool c.append.new.self past.keyframes.items) past.spacing.count past.end))
    c.self.view_is
    (has-inputs (parts_of past.stored.pool past.inputs past.keyframes.items) past.spacing.count past.end c.self.invariant c.args.inputs.now
    c.append.new.self next c.in_ok-append.ensures.appended)
