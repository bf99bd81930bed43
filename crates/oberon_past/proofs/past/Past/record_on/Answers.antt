use Rattle.std.proofs.Common.{◌≡◌, ◌∙◌, ◌++◌, ◌≤◌, ℕ, List, ap, arith, refl, subst}
use Rattle.std.proofs.lemmas.Result.{err_from_is_err_and}
use Rattle.oberon_format.specs.Defined.{Outcome}
use Rattle.oberon_session.specs.Extended.{IsExtended}
use Rattle.oberon_past.proofs.Drafts.{checkpoint-refused, claim-is, extended-draft, ran-on, too-much}
use Rattle.oberon_past.specs.Draft.{next_inputs}
use Rattle.oberon_past.specs.Past.{PastParts}
use Rattle.oberon_past.proofs.past.Past.record_on.Goals as goal

pub returns-then-ran-to-clause-refused : goal.returns-then-ran-to-clause-refused
returns-then-ran-to-clause-refused c =
    let inputs = ap (λ (p : PastParts). p.run.inputs) c.self.view_is in
    let stretch = c.in_ok-ran.ensures.stretch in
    too-much c.args.self.now.run c.args.draft c.args.count c.in_ok-ran.ran.end c.room_of-room.result _ _ inputs c.in_ok-machine.ensures
    stretch.further.0 (omega (arith, c.if-ran-to.true, c.min-to.ensures)) c.room_of-room.ensures (stretch.full c.if-ran-to.true)

pub returns-in_err-recording-clause-refused : goal.returns-in_err-recording-clause-refused
returns-in_err-recording-clause-refused c =
    let inputs = ap (λ (p : PastParts). p.run.inputs) c.self.view_is in
    let run = c.args.self.now.run in
    let count : ℕ = c.args.count in
    let stretch = c.in_ok-ran.ensures.stretch in
    let to-is : c.min-to.result ≡ count = omega (arith, c.if-to-count.false, c.min-to.ensures) in
    let ends : c.in_ok-ran.ran.end ≡ c.min-to.result = omega (arith, c.if-ran-to.false, stretch.further.1) in
    let claim = claim-is run c.args.draft count c.min-to.result c.in_ok-ran.ran.end _ _ c.run_with_room.new.machine.state c.in_ok-ran.ran.sent.items
    c.deref-2.result.now inputs c.requires.begun c.requires.on to-is ends c.in_ok-machine.ensures (c.in_ok-ran.ensures.state ends) stretch.sent
    (c.deref-2.ensures.value ∙ c.in_ok-extend_from_slice.ensures.items ∙ ap (λ (l : List ℕ). c.args.draft.sent.items ++ l) c.deref.ensures.value) in
    let from = err_from_is_err_and c.from_residual-in_err-recording.result c.from_residual-in_err-recording.ensures.1 in
    rw (from.1, from.2)
    (checkpoint-refused c.args.self.now c.args.draft count _ _ c.requires.inside claim c.in_err-recording.ensures.refused)

pub returns-clause-drafted : goal.returns-clause-drafted
returns-clause-drafted c =
    let inputs = ap (λ (p : PastParts). p.run.inputs) c.self.view_is in
    let run = c.args.self.now.run in
    let count : ℕ = c.args.count in
    let stretch = c.in_ok-ran.ensures.stretch in
    let to-is : c.min-to.result ≡ count = omega (arith, c.if-to-count.false, c.min-to.ensures) in
    let ends : c.in_ok-ran.ran.end ≡ c.min-to.result = omega (arith, c.if-ran-to.false, stretch.further.1) in
    let claim = claim-is run c.args.draft count c.min-to.result c.in_ok-ran.ran.end _ _ c.run_with_room.new.machine.state c.in_ok-ran.ran.sent.items
    c.deref-2.result.now inputs c.requires.begun c.requires.on to-is ends c.in_ok-machine.ensures (c.in_ok-ran.ensures.state ends) stretch.sent
    (c.deref-2.ensures.value ∙ c.in_ok-extend_from_slice.ensures.items ∙ ap (λ (l : List ℕ). c.args.draft.sent.items ++ l) c.deref.ensures.value) in (
      subst (λ (o : Outcome). IsExtended c.args.draft.recording (next_inputs run c.args.draft.recording count) count o c.in_ok-recording.recording)
          claim c.in_ok-recording.ensures.extended,
      refl,
      c.new.ensures.items,
    )

pub returns-clause-truth : goal.returns-clause-truth
returns-clause-truth c = λ is.
    let inputs = ap (λ (p : PastParts). p.run.inputs) c.self.view_is in
    let run = c.args.self.now.run in
    let count : ℕ = c.args.count in
    let stretch = c.in_ok-ran.ensures.stretch in
    let to-is : c.min-to.result ≡ count = omega (arith, c.if-to-count.false, c.min-to.ensures) in
    let ends : c.in_ok-ran.ran.end ≡ c.min-to.result = omega (arith, c.if-ran-to.false, stretch.further.1) in
    let claim = claim-is run c.args.draft count c.min-to.result c.in_ok-ran.ran.end _ _ c.run_with_room.new.machine.state c.in_ok-ran.ran.sent.items
    c.deref-2.result.now inputs c.requires.begun c.requires.on to-is ends c.in_ok-machine.ensures (c.in_ok-ran.ensures.state ends) stretch.sent
    (c.deref-2.ensures.value ∙ c.in_ok-extend_from_slice.ensures.items ∙ ap (λ (l : List ℕ). c.args.draft.sent.items ++ l) c.deref.ensures.value) in
    extended-draft run c.args.draft is c.in_ok-recording.ensures.lawful c.in_ok-recording.ensures.ordered count c.requires.on _
    (subst (λ (o : Outcome). IsExtended c.args.draft.recording (next_inputs run c.args.draft.recording count) count o c.in_ok-recording.recording)
    claim c.in_ok-recording.ensures.extended)
    refl c.new.ensures.items

pub returns-then-to-count-clause-truth : goal.returns-then-to-count-clause-truth
returns-then-to-count-clause-truth c = λ is.
    let inputs = ap (λ (p : PastParts). p.run.inputs) c.self.view_is in
    let run = c.args.self.now.run in
    let to : ℕ = c.min-to.result in
    let stretch = c.in_ok-ran.ensures.stretch in
    let ends : c.in_ok-ran.ran.end ≡ to = omega (arith, c.if-ran-to.false, stretch.further.1) in
    let on : c.args.draft.at ≤ to = omega (arith, stretch.further.0, ends) in
    let claim = claim-is run c.args.draft to to c.in_ok-ran.ran.end _ _ c.run_with_room.new.machine.state c.in_ok-ran.ran.sent.items _ inputs
    c.requires.begun on refl ends c.in_ok-machine.ensures (c.in_ok-ran.ensures.state ends) stretch.sent
    (c.in_ok-extend_from_slice.ensures.items ∙ ap (λ (l : List ℕ). c.args.draft.sent.items ++ l) c.deref.ensures.value) in
    ran-on run c.args.draft is _ (refl, on, ap (λ (o : Outcome). o.sent) claim)
