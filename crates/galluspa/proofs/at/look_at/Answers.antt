use Rattle.std.proofs.Common.{◌<◌, ℕ, subst}
use Rattle.galluspa.specs.Past.{from_of}
use Rattle.galluspa.proofs.MomentLemmas.{at-done, err-room, moment-few, ok-written}
use Rattle.galluspa.proofs.at.look_at.Goals as goal

pub write_moment-requires-clause-few : goal.write_moment-requires-clause-few
write_moment-requires-clause-few c =
    let run = c.args.past.now.run in let from = from_of c.args.from in let m = c.in-Done.moment in
    moment-few run c.args.at from m (at-done run c.args.past.now.end c.args.at c.from_of.result from c.in_ok-moment.field-0 m c.in_ok-moment.ensures.answer c.in-Done.is c.from_of.ensures).1

pub returns-in-Done-clause-moment : goal.returns-in-Done-clause-moment
returns-in-Done-clause-moment c =
    let run = c.args.past.now.run in let from = from_of c.args.from in let m = c.in-Done.moment in let w = c.write_moment in
    ok-written w.result run c.args.at from m w.new.state w.new.slots w.new.changed w.new.changed_count
    (at-done run c.args.past.now.end c.args.at c.from_of.result from c.in_ok-moment.field-0 m c.in_ok-moment.ensures.answer c.in-Done.is c.from_of.ensures).1
    w.ensures.state w.ensures.slots w.ensures.pages

pub returns-in-Done-clause-refused : goal.returns-in-Done-clause-refused
returns-in-Done-clause-refused c =
    let p = c.args.past.now in let from = from_of c.args.from in let m = c.in-Done.moment in let w = c.write_moment in
    let is = at-done p.run p.end c.args.at c.from_of.result from c.in_ok-moment.field-0 m c.in_ok-moment.ensures.answer c.in-Done.is c.from_of.ensures in
    let some : 0 < c.args.budget = subst (λ (n : ℕ). 0 < n) c.in-Some.ensures.some c.in-Some.budget.some in
    err-room w.result p c.args.at c.args.at from m c.args.budget _ w.new.changed_count some is.0 is.1 w.ensures.count w.ensures.refusal w.ensures.no_room
