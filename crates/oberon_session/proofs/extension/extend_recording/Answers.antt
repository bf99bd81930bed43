use Rattle.std.proofs.lemmas.Result.{err_from_is_err_and}
use Rattle.oberon_session.proofs.Growing.{grown-extended, grown-lawful, grown-plain, too-many-pages}
use Rattle.oberon_session.proofs.extension.extend_recording.Goals as goal

pub returns-in_err-stored-clause-refused : goal.returns-in_err-stored-clause-refused
returns-in_err-stored-clause-refused c =
    let from = err_from_is_err_and c.from_residual-in_err-stored.result c.from_residual-in_err-stored.ensures.1 in
    rw (from.1, from.2)
    (too-many-pages c.args.recording c.in_err-stored.ensures.lawful c.args.inputs.now c.args.claim.now c.requires.whole c.in_default.ensures.room _ c.in_err-stored.ensures.refused)

pub recording_of-requires : goal.recording_of-requires
recording_of-requires c =
    grown-lawful c.args.recording c.in_ok-stored.ensures.lawful c.args.inputs.now c.in_ok-inputs.inputs c.args.claim.now c.requires.whole
    c.in_ok-stored.stored c.in_ok-stored.checkpoints.items c.in_ok-stored.ensures.grown c.in_ok-inputs.ensures
    c.requires.counter c.requires.stop c.in_default.ensures.room

pub returns-clause-extended : goal.returns-clause-extended
returns-clause-extended c =
    grown-extended c.args.recording c.in_ok-stored.ensures.lawful c.args.inputs.now c.in_ok-inputs.inputs c.args.claim.now c.requires.whole
    c.in_ok-stored.stored c.in_ok-stored.checkpoints.items c.in_ok-stored.ensures.grown c.in_ok-inputs.ensures c.recording_of.result c.recording_of.ensures.parts

pub returns-clause-plain : goal.returns-clause-plain
returns-clause-plain c = λ plain none.
    grown-plain c.args.recording c.in_ok-stored.ensures.lawful c.args.inputs.now c.in_ok-inputs.inputs c.args.claim.now c.requires.whole
    c.in_ok-stored.stored c.in_ok-stored.checkpoints.items c.in_ok-stored.ensures.grown c.in_ok-inputs.ensures
    plain c.in_default.ensures.room.inputs_fit none c.recording_of.result c.recording_of.ensures.parts
