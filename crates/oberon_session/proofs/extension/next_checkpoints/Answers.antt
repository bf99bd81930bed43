use Rattle.std.proofs.Common.{arith}
use Rattle.std.proofs.lemmas.Result.{err_from_is_err_and}
use Rattle.oberon_session.proofs.Growing.{has-grown, last-named, last-needs}
use Rattle.oberon_session.proofs.extension.next_checkpoints.Goals as goal

pub next_stored-requires-clause-named : goal.next_stored-requires-clause-named
next_stored-requires-clause-named c =
    last-named c.args.recording c.into_parts-pool.ensures.lawful c.into_parts-pool.result.0 c.into_parts-pool.result.1 c.into_parts-pool.result.2.items
    c.into_parts-pool.ensures.parts c.index-last.result.now _ (omega arith) c.index-last.ensures

pub returns-in_err-stored-clause-refused : goal.returns-in_err-stored-clause-refused
returns-in_err-stored-clause-refused c =
    let from = err_from_is_err_and c.from_residual.result c.from_residual.ensures.1 in
    rw (from.1, from.2)
    (last-needs c.args.recording c.into_parts-pool.ensures.lawful c.into_parts-pool.result.0 c.into_parts-pool.result.1 c.into_parts-pool.result.2.items
    c.into_parts-pool.ensures.parts c.index-last.result.now _ (omega arith) c.index-last.ensures c.args.claim.now.words.now _ c.in_err-stored.ensures.refused)

pub returns-clause-grown : goal.returns-clause-grown
returns-clause-grown c =
    has-grown c.args.recording c.into_parts-pool.ensures.lawful c.into_parts-pool.result.0 c.into_parts-pool.result.1 c.into_parts-pool.result.2.items
    c.into_parts-pool.ensures.parts c.index-last.result.now _ (omega arith) c.index-last.ensures c.args.claim.now c.in_ok-stored.stored
    c.push.new.self.items c.in_ok-next.next c.in_ok-stored.ensures.stored c.in_ok-stored.ensures.few c.in_ok-stored.ensures.pages
    c.in_ok-push.ensures.items c.in_ok-next.ensures.checkpoint c.in_ok-next.ensures.devices c.in_ok-next.ensures.bytes
