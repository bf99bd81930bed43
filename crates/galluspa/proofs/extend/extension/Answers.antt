use Rattle.std.proofs.Common.{◌∙◌, subst, sym}
use Rattle.std.proofs.lemmas.Result.{IfErr-weaker, IfOk-weaker, err_from_is_err_and}
use Rattle.oberon_format.proofs.One.{same_recording_with_disk}
use Rattle.galluspa.specs.inner.Extending.{IsNoMore, IsUnextended}
use Rattle.galluspa.proofs.ExtendLemmas.{can-follow, is-extension, memory-not-range, out-of-place, unextended}
use Rattle.galluspa.proofs.extend.extension.Goals as goal

pub returns-in_err-more-clause-refused : goal.returns-in_err-more-clause-refused
returns-in_err-more-clause-refused c =
    let from = err_from_is_err_and c.from_residual.result c.from_residual.ensures.1 in
    rw (from.1, from.2)
    (unextended c.args.bytes.now c.args.inputs.now c.args.state.now c.args.words.now c.args.sent.now c.in-Some.claim
    c.in-Some.ensures.count c.in-Some.ensures.outcome same_recording_with_disk _ c.in_err-more.ensures.refused)

pub returns-clause-extension : goal.returns-clause-extension
returns-clause-extension c =
    IfOk-weaker c.written.result _ _ (λ bytes text.
    is-extension c.args.bytes.now c.args.inputs.now c.args.state.now c.args.words.now c.args.sent.now c.in-Some.claim
    c.in-Some.ensures.count c.in-Some.ensures.outcome c.in_ok-more.more bytes.items c.in_ok-more.ensures.more text)
    c.written.ensures.text

pub returns-clause-follows : goal.returns-clause-follows
returns-clause-follows c =
    IfOk-weaker c.written.result _ _ (λ _ _.
    can-follow c.args.bytes.now c.args.inputs.now c.args.state.now c.args.words.now c.args.sent.now c.in-Some.claim
    c.in-Some.ensures.count c.in-Some.ensures.outcome c.in_ok-more.more c.in_ok-more.ensures.more c.in-Some.ensures.whole)
    c.written.ensures.text

pub returns-in_err-more-clause-whole : goal.returns-in_err-more-clause-whole
returns-in_err-more-clause-whole c =
    let from = err_from_is_err_and c.from_residual.result c.from_residual.ensures.1 in
    rw from.1 (λ _. c.in-Some.ensures.whole)

pub returns-in_err-more-clause-ordered : goal.returns-in_err-more-clause-ordered
returns-in_err-more-clause-ordered c =
    let from = err_from_is_err_and c.from_residual.result c.from_residual.ensures.1 in
    rw from.1 (λ _. c.are_in_order.ensures.0 c.if-not-are_in_order.false)

pub returns-in_err-more-clause-reason : goal.returns-in_err-more-clause-reason
returns-in_err-more-clause-reason c =
    let from = err_from_is_err_and c.from_residual.result c.from_residual.ensures.1 in
    let no-more = IsNoMore c.args.bytes.now c.args.inputs.now c.in-Some.claim in
    rw from.1 (λ is. out-of-place c.args.bytes.now c.args.inputs.now c.args.state.now c.args.words.now c.args.sent.now c.in-Some.claim
    c.in-Some.ensures.count c.in-Some.ensures.outcome (subst no-more (sym from.2 ∙ is) c.in_err-more.ensures.refused))

pub returns-clause-refused : goal.returns-clause-refused
returns-clause-refused c =
    IfErr-weaker c.written.result _ (IsUnextended c.args.bytes.now c.args.inputs.now c.args.state.now c.args.words.now c.args.sent.now)
    (λ refusal is. rw is c.in_ok-more.ensures.more.no_fault) c.written.ensures.memory

pub returns-clause-whole : goal.returns-clause-whole
returns-clause-whole c = IfErr-weaker c.written.result _ _ (λ _ _ _. c.in-Some.ensures.whole) c.written.ensures.memory

pub returns-clause-ordered : goal.returns-clause-ordered
returns-clause-ordered c =
    IfErr-weaker c.written.result _ _ (λ _ _ _. c.are_in_order.ensures.0 c.if-not-are_in_order.false) c.written.ensures.memory

pub returns-clause-reason : goal.returns-clause-reason
returns-clause-reason c =
    IfErr-weaker c.written.result _ _ (λ refusal is range. absurd (memory-not-range (sym is ∙ range))) c.written.ensures.memory
