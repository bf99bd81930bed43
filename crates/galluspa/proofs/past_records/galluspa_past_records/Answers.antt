use Rattle.std.proofs.Common.{◌≡◌, ℕ, arith, length, subst}
use Rattle.oberon_past.specs.Past.{PastParts}
use Rattle.oberon_past.specs.Run.{Run}
use Rattle.oberon_past.specs.Trace.{IsRecorded}
use Rattle.oberon_past.specs.declared.traced.Recorded.TheVariants as recorded
use Rattle.galluspa.specs.Ranges.{AreRecordsOf}
use Rattle.galluspa.proofs.RecordedLemmas.{records-of, writable}
use Rattle.galluspa.proofs.past_records.galluspa_past_records.Goals as goal

pub write_recorded-requires-clause-writable : goal.write_recorded-requires-clause-writable
write_recorded-requires-clause-writable c =
    let p = c.deref_mut.result.now in
    let is : IsRecorded p.run p.end c.args.from.now c.args.to (length c.args.records.now) (recorded.Done c.in-Ok-Done.recorded) =
    (rw c.in-Ok-Done.field-0-is at c.in-Ok-Done.ensures.recorded) in
    writable p.run c.args.from.now c.in-Ok-Done.recorded is.1

pub write_recorded-requires-in-Ok-More-clause-writable : goal.write_recorded-requires-in-Ok-More-clause-writable
write_recorded-requires-in-Ok-More-clause-writable c =
    let p = c.deref_mut.result.now in
    let is : IsRecorded p.run p.end c.args.from.now c.args.to (length c.args.records.now) (recorded.More c.in-Ok-More.recorded) =
    (rw c.in-Ok-More.field-0-is at c.in-Ok-More.ensures.recorded) in
    writable p.run c.args.from.now c.in-Ok-More.recorded is.1

pub returns-in-Ok-Done-clause-recorded : goal.returns-in-Ok-Done-clause-recorded
returns-in-Ok-Done-clause-recorded c = λ _.
    let p = c.deref_mut.result.now in
    let same : p ≡ c.in-Some.here.value = search arith in
    let from : ℕ = c.args.from.now in
    let w = c.write_recorded in
    let is : IsRecorded p.run p.end from c.args.to (length c.args.records.now) (recorded.Done c.in-Ok-Done.recorded) =
    (rw c.in-Ok-Done.field-0-is at c.in-Ok-Done.ensures.recorded) in
    record {
      past = c.in-Some.here.value;
      holds = c.in-Some.ensures.some;
      is = subst (λ (q : PastParts). AreRecordsOf w.new.out_count w.new.out q.run from) same
          (records-of p.run from c.in-Ok-Done.recorded w.new.out w.new.out_count w.ensures.count is.1 w.ensures.front);
    }

pub returns-in-Ok-More-clause-recorded : goal.returns-in-Ok-More-clause-recorded
returns-in-Ok-More-clause-recorded c = λ _.
    let p = c.deref_mut.result.now in
    let same : p ≡ c.in-Some.here.value = search arith in
    let from : ℕ = c.args.from.now in
    let w = c.write_recorded-in-Ok-More in
    let is : IsRecorded p.run p.end from c.args.to (length c.args.records.now) (recorded.More c.in-Ok-More.recorded) =
    (rw c.in-Ok-More.field-0-is at c.in-Ok-More.ensures.recorded) in
    record {
      past = c.in-Some.here.value;
      holds = c.in-Some.ensures.some;
      is = subst (λ (q : PastParts). AreRecordsOf w.new.out_count w.new.out q.run from) same
          (records-of p.run from c.in-Ok-More.recorded w.new.out w.new.out_count w.ensures.count is.1 w.ensures.front);
    }
