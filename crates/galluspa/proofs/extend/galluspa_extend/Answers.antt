use Rattle.std.proofs.Common.{◌∙◌, ap, arith, subst, sym}
use Rattle.galluspa.specs.Extend.{IsExtension}
use Rattle.galluspa.specs.declared.refusal.TheConstants.{NO_RECORDING, OUT_OF_MEMORY, OUT_OF_RANGE, PENDING_INPUTS, TOO_MANY_CHECKPOINTS, TOO_MANY_INPUTS, TOO_MANY_PAGES, TOO_MUCH_OUTPUT}
use Rattle.galluspa.specs.inner.Extending.{code_of}
use Rattle.galluspa.proofs.ExtendLemmas.{no-other, refusal-by, unextended-by}
use Rattle.galluspa.proofs.extend.galluspa_extend.Goals as goal

pub returns-in-Ok-clause-extended : goal.returns-in-Ok-clause-extended
returns-in-Ok-clause-extended c = λ done.
    subst (IsExtension c.args.recording.now c.args.inputs.now c.args.state.now c.args.words.now c.args.sent.now)
    (sym c.deref.ensures.value ∙ sym (c.put.ensures.done done).1) c.in-Ok.ensures.extension

pub returns-in-Ok-clause-no_room : goal.returns-in-Ok-clause-no_room
returns-in-Ok-clause-no_room c = λ full.
    let is = subst (IsExtension c.args.recording.now c.args.inputs.now c.args.state.now c.args.words.now c.args.sent.now) (sym c.deref.ensures.value)
    c.in-Ok.ensures.extension in
    let needed = c.put.ensures.no_room full in
    (c.deref.result.now, is, needed.0, needed.1)

pub returns-in-Ok-clause-in_range : goal.returns-in-Ok-clause-in_range
returns-in-Ok-clause-in_range c = λ _ _. c.in-Ok.ensures.follows

pub returns-in-Ok-clause-ordered : goal.returns-in-Ok-clause-ordered
returns-in-Ok-clause-ordered c = λ _. (c.in-Ok.ensures.follows.events, c.in-Ok.ensures.follows.are_events)

pub returns-in-Err-clause-whole : goal.returns-in-Err-clause-whole
returns-in-Err-clause-whole c = λ some. c.in-Err.ensures.whole (λ is. some (c.code.ensures.code ∙ ap code_of is))

pub returns-in-Err-clause-ordered : goal.returns-in-Err-clause-ordered
returns-in-Err-clause-ordered c = λ some. c.in-Err.ensures.ordered (λ is. some (c.code.ensures.code ∙ ap code_of is))

pub returns-in-Err-clause-range : goal.returns-in-Err-clause-range
returns-in-Err-clause-range c =
    unextended-by c.args.recording.now c.args.inputs.now c.args.state.now c.args.words.now c.args.sent.now c.in-Err.refusal c.in-Err.ensures.refused
    c.code.result c.code.ensures.code OUT_OF_RANGE

pub returns-in-Err-clause-reason : goal.returns-in-Err-clause-reason
returns-in-Err-clause-reason c = λ is. c.in-Err.ensures.reason (refusal-by c.in-Err.refusal c.code.result c.code.ensures.code OUT_OF_RANGE is)

pub returns-in-Err-clause-no_recording : goal.returns-in-Err-clause-no_recording
returns-in-Err-clause-no_recording c =
    unextended-by c.args.recording.now c.args.inputs.now c.args.state.now c.args.words.now c.args.sent.now c.in-Err.refusal c.in-Err.ensures.refused
    c.code.result c.code.ensures.code NO_RECORDING

pub returns-in-Err-clause-memory : goal.returns-in-Err-clause-memory
returns-in-Err-clause-memory c =
    unextended-by c.args.recording.now c.args.inputs.now c.args.state.now c.args.words.now c.args.sent.now c.in-Err.refusal c.in-Err.ensures.refused
    c.code.result c.code.ensures.code OUT_OF_MEMORY

pub returns-in-Err-clause-pending : goal.returns-in-Err-clause-pending
returns-in-Err-clause-pending c =
    unextended-by c.args.recording.now c.args.inputs.now c.args.state.now c.args.words.now c.args.sent.now c.in-Err.refusal c.in-Err.ensures.refused
    c.code.result c.code.ensures.code PENDING_INPUTS

pub returns-in-Err-clause-inputs : goal.returns-in-Err-clause-inputs
returns-in-Err-clause-inputs c =
    unextended-by c.args.recording.now c.args.inputs.now c.args.state.now c.args.words.now c.args.sent.now c.in-Err.refusal c.in-Err.ensures.refused
    c.code.result c.code.ensures.code TOO_MANY_INPUTS

pub returns-in-Err-clause-checkpoints : goal.returns-in-Err-clause-checkpoints
returns-in-Err-clause-checkpoints c =
    unextended-by c.args.recording.now c.args.inputs.now c.args.state.now c.args.words.now c.args.sent.now c.in-Err.refusal c.in-Err.ensures.refused
    c.code.result c.code.ensures.code TOO_MANY_CHECKPOINTS

pub returns-in-Err-clause-output : goal.returns-in-Err-clause-output
returns-in-Err-clause-output c =
    unextended-by c.args.recording.now c.args.inputs.now c.args.state.now c.args.words.now c.args.sent.now c.in-Err.refusal c.in-Err.ensures.refused
    c.code.result c.code.ensures.code TOO_MUCH_OUTPUT

pub returns-in-Err-clause-pages : goal.returns-in-Err-clause-pages
returns-in-Err-clause-pages c =
    unextended-by c.args.recording.now c.args.inputs.now c.args.state.now c.args.words.now c.args.sent.now c.in-Err.refusal c.in-Err.ensures.refused
    c.code.result c.code.ensures.code TOO_MANY_PAGES

pub returns-in-Ok-clause-range : goal.returns-in-Ok-clause-range
returns-in-Ok-clause-range c = no-other c.put.result c.put.ensures.codes OUT_OF_RANGE (omega arith) (omega arith)

pub returns-in-Ok-clause-reason : goal.returns-in-Ok-clause-reason
returns-in-Ok-clause-reason c = no-other c.put.result c.put.ensures.codes OUT_OF_RANGE (omega arith) (omega arith)

pub returns-in-Ok-clause-no_recording : goal.returns-in-Ok-clause-no_recording
returns-in-Ok-clause-no_recording c = no-other c.put.result c.put.ensures.codes NO_RECORDING (omega arith) (omega arith)

pub returns-in-Ok-clause-memory : goal.returns-in-Ok-clause-memory
returns-in-Ok-clause-memory c = no-other c.put.result c.put.ensures.codes OUT_OF_MEMORY (omega arith) (omega arith)

pub returns-in-Ok-clause-pending : goal.returns-in-Ok-clause-pending
returns-in-Ok-clause-pending c = no-other c.put.result c.put.ensures.codes PENDING_INPUTS (omega arith) (omega arith)

pub returns-in-Ok-clause-inputs : goal.returns-in-Ok-clause-inputs
returns-in-Ok-clause-inputs c = no-other c.put.result c.put.ensures.codes TOO_MANY_INPUTS (omega arith) (omega arith)

pub returns-in-Ok-clause-checkpoints : goal.returns-in-Ok-clause-checkpoints
returns-in-Ok-clause-checkpoints c = no-other c.put.result c.put.ensures.codes TOO_MANY_CHECKPOINTS (omega arith) (omega arith)

pub returns-in-Ok-clause-output : goal.returns-in-Ok-clause-output
returns-in-Ok-clause-output c = no-other c.put.result c.put.ensures.codes TOO_MUCH_OUTPUT (omega arith) (omega arith)

pub returns-in-Ok-clause-pages : goal.returns-in-Ok-clause-pages
returns-in-Ok-clause-pages c = no-other c.put.result c.put.ensures.codes TOO_MANY_PAGES (omega arith) (omega arith)

pub returns-in-Ok-clause-whole : goal.returns-in-Ok-clause-whole
returns-in-Ok-clause-whole c = λ _. c.in-Ok.ensures.follows.is_whole

pub returns-in-Ok-clause-room : goal.returns-in-Ok-clause-room
returns-in-Ok-clause-room c = λ done. (c.put.ensures.done done).0

pub returns-in-Ok-clause-rest : goal.returns-in-Ok-clause-rest
returns-in-Ok-clause-rest c = c.put.ensures.rest

pub returns-in-Ok-clause-unchanged : goal.returns-in-Ok-clause-unchanged
returns-in-Ok-clause-unchanged c = c.put.ensures.unchanged
