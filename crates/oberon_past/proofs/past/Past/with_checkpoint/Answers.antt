use Rattle.std.proofs.Common.{◌∙◌, ap, length, refl}
use Rattle.std.proofs.lemmas.Result.{err_from_is_err_and}
use Rattle.risc_pages.specs.declared.sizes.TheConstants.{MEMORY_WORDS}
use Rattle.oberon_past.proofs.Drafts.{extended-so, next-slice, refused-so}
use Rattle.oberon_past.proofs.Pages.{all-long, all-words}
use Rattle.oberon_past.specs.Past.{PastParts}
use Rattle.oberon_past.proofs.past.Past.with_checkpoint.Goals as goal

pub extend_recording-requires-clause-whole : goal.extend_recording-requires-clause-whole
extend_recording-requires-clause-whole c =
    ap length c.deref.ensures.value ∙ all-long c.in_ok-words.words.items c.memory-memory.result.now.words MEMORY_WORDS c.in_ok-words.ensures c.owned-owned.ensures.memory.words

pub returns-in_err-extend_recording-clause-refused : goal.returns-in_err-extend_recording-clause-refused
returns-in_err-extend_recording-clause-refused c =
    let words = c.deref.ensures.value
    ∙ all-words c.in_ok-words.words.items c.memory-memory.result.now.words MEMORY_WORDS c.in_ok-words.ensures c.owned-owned.ensures.memory.words
    ∙ c.memory-memory.ensures.words in
    let inputs = next-slice c.args.self.now.run c.args.recording c.args.count c.first_from-next.result c.min-taken.result _ c.events-events.result.now
    (c.events-events.ensures.events ∙ ap (λ (p : PastParts). p.run.inputs) c.self.view_is) c.first_from-next.ensures
    (ap length (c.events.ensures.events ∙ c.inputs.ensures.inputs)) c.min-taken.ensures in
    let from = err_from_is_err_and c.from_residual-in_err-extend_recording.result c.from_residual-in_err-extend_recording.ensures.1 in
    rw (from.1, from.2)
    (refused-so c.args.recording _ _ c.args.count _ _ c.args.machine.now.state c.args.sent.now c.in_err-extend_recording.ensures.refused inputs
    c.cpu.ensures.cpu (c.copy.ensures.copy ∙ c.devices.ensures) words refl)

pub returns-clause-extended : goal.returns-clause-extended
returns-clause-extended c =
    let words = c.deref.ensures.value
    ∙ all-words c.in_ok-words.words.items c.memory-memory.result.now.words MEMORY_WORDS c.in_ok-words.ensures c.owned-owned.ensures.memory.words
    ∙ c.memory-memory.ensures.words in
    let inputs = next-slice c.args.self.now.run c.args.recording c.args.count c.first_from-next.result c.min-taken.result _ c.events-events.result.now
    (c.events-events.ensures.events ∙ ap (λ (p : PastParts). p.run.inputs) c.self.view_is) c.first_from-next.ensures
    (ap length (c.events.ensures.events ∙ c.inputs.ensures.inputs)) c.min-taken.ensures in
    extended-so c.args.recording _ _ c.args.count _ c.in_ok-extend_recording.field-0 c.args.machine.now.state c.args.sent.now
    c.in_ok-extend_recording.ensures.extended inputs c.cpu.ensures.cpu (c.copy.ensures.copy ∙ c.devices.ensures) words refl
