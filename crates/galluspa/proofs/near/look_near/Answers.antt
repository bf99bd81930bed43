use Rattle.std.proofs.Common.{◌<◌, arith}
use Rattle.oberon_past.specs.Past.{nearest_count}
use Rattle.galluspa.specs.Past.{from_of}
use Rattle.galluspa.proofs.MomentLemmas.{err-room, moment-few, near-done, ok-written}
use Rattle.galluspa.proofs.near.look_near.Goals as goal

pub write_moment-requires-clause-few : goal.write_moment-requires-clause-few
write_moment-requires-clause-few c =
    let p = c.args.past.now in let from = from_of c.args.from in let m = c.in-Done.moment in
    moment-few p.run (nearest_count p c.args.at) from m (near-done p c.args.at c.from_of.result from c.in_ok-moment.field-0 m c.in_ok-moment.ensures.answer c.in-Done.is c.from_of.ensures).1

pub returns-in-Done-clause-moment : goal.returns-in-Done-clause-moment
returns-in-Done-clause-moment c =
    let p = c.args.past.now in let from = from_of c.args.from in let m = c.in-Done.moment in let w = c.write_moment in
    ok-written w.result p.run (nearest_count p c.args.at) from m w.new.state w.new.slots w.new.changed w.new.changed_count
    (near-done p c.args.at c.from_of.result from c.in_ok-moment.field-0 m c.in_ok-moment.ensures.answer c.in-Done.is c.from_of.ensures).1
    w.ensures.state w.ensures.slots w.ensures.pages

pub returns-in-Done-clause-refused : goal.returns-in-Done-clause-refused
returns-in-Done-clause-refused c =
    let p = c.args.past.now in let from = from_of c.args.from in let m = c.in-Done.moment in let w = c.write_moment in
    let is = near-done p c.args.at c.from_of.result from c.in_ok-moment.field-0 m c.in_ok-moment.ensures.answer c.in-Done.is c.from_of.ensures in
    let some : 0 < 1 = omega arith in
    err-room w.result p c.args.at (nearest_count p c.args.at) from m 1 _ w.new.changed_count some is.0 is.1 w.ensures.count w.ensures.refusal w.ensures.no_room
