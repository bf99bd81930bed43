use Rattle.oberon_format.proofs.Decode.{events_ordered}
use Rattle.oberon_format.proofs.reading.inputs_of.Goals as goal

pub unreachable-requires : goal.unreachable-requires
unreachable-requires c =
    let list = c.in_ok-list.list.items in let wrong = c.in-Err.ensures.first_wrong in
    let ordered = events_ordered c.args.bytes.now list c.requires c.in_ok-list.ensures.0 c.in_ok-list.ensures.1 in
    wrong.wrong (ordered c.in-Err.field-0.at wrong.inside)
