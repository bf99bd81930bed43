use Rattle.std.proofs.Common.{◌≢◌, ◌<◌, ◌≤◌, Some, ◌+◌, ◌∙◌, ℕ, List, ap, arith, length, subst, sym, get_or}
use Rattle.std.proofs.lemmas.Result.{err_from_is_err_and}
use Rattle.risc_pages.specs.declared.table.Table.{Table}
use Rattle.risc_model.specs.MachineState.{cpu_state}
use Rattle.recording_limits.specs.declared.limits.TheConstants.{MAX_PAGES}
use Rattle.oberon_session.proofs.PagesStored.{few-changes, low-changes}
use Rattle.oberon_session.proofs.Reaching.{few-sent, inside-of, last-count, last-fit, next-count, recorded-more, refused-output, refused-pages}
use Rattle.oberon_session.proofs.Steps.{count-rises}
use Rattle.oberon_session.specs.declared.record_fault.RecordFault.{RecordFault}
use Rattle.oberon_session.proofs.recorder.record_next.Goals as goal

pub index-last-requires : goal.index-last-requires
index-last-requires c = omega (arith, inside-of _ c.requires.recorded)

pub overflow_sub-room : goal.overflow_sub-room
overflow_sub-room c = omega (arith, few-sent _ c.requires.recorded)

pub reach-requires-clause-named : goal.reach-requires-clause-named
reach-requires-clause-named c = (last-fit _ c.requires.recorded c.index-last.ensures).named

pub reach-requires-clause-counter : goal.reach-requires-clause-counter
reach-requires-clause-counter c = (last-fit _ c.requires.recorded c.index-last.ensures).cpu.counter

pub reach-requires-clause-stop : goal.reach-requires-clause-stop
reach-requires-clause-stop c = (last-fit _ c.requires.recorded c.index-last.ensures).cpu.stops

pub reach-requires-clause-rises : goal.reach-requires-clause-rises
reach-requires-clause-rises c =
    let here = last-count _ c.requires.recorded c.index-last.ensures in
    let next = next-count c.args.session.now c.args.k c.counts.ensures.counts in
    omega (arith, here, next, count-rises c.args.session.now c.counts.ensures.lawful c.args.k c.requires.inside)

pub returns-in_err-reached-clause-refused : goal.returns-in_err-reached-clause-refused
returns-in_err-reached-clause-refused c =
    let from = err_from_is_err_and c.from_residual.result c.from_residual.ensures.1 in
    rw from.1
    (λ no_memory.
    let memory : c.in_err-reached.field-0.0 ≢ RecordFault.Memory = λ is. no_memory (from.2 ∙ is) in
    let refused = c.in_err-reached.ensures.refused memory in
    let record-fault = refused-output _ c.requires.recorded c.index-last.ensures c.counts.ensures.lawful c.requires.inside
    c.inputs.ensures.inputs (next-count c.args.session.now c.args.k c.counts.ensures.counts) refused.1 in
    record-fault ∙ ap Some (sym refused.0 ∙ sym from.2))

pub store_pages-requires-clause-few : goal.store_pages-requires-clause-few
store_pages-requires-clause-few c =
    rw c.deref.ensures.value (few-changes _ _ c.in_ok-reached.reached.changed.items c.in_ok-reached.ensures.reached.changed)

pub store_pages-requires-clause-slots : goal.store_pages-requires-clause-slots
store_pages-requires-clause-slots c =
    rw c.deref.ensures.value (low-changes _ _ c.in_ok-reached.reached.changed.items c.in_ok-reached.ensures.reached.changed)

pub returns-then-len-gt-MAX_PAGES-clause-refused : goal.returns-then-len-gt-MAX_PAGES-clause-refused
returns-then-len-gt-MAX_PAGES-clause-refused c =
    let stored-so = rw c.deref.ensures.value at c.in_ok-store_pages.ensures.stored in
    λ _. refused-pages _ c.requires.recorded c.index-last.ensures c.counts.ensures.lawful c.requires.inside
    c.inputs.ensures.inputs (next-count c.args.session.now c.args.k c.counts.ensures.counts) c.in_ok-reached.ensures.reached stored-so c.in_ok-reached.ensures.room
    (subst (λ (n : ℕ). MAX_PAGES < n) c.len.ensures.count c.if-len-gt-MAX_PAGES.true)

pub returns-clause-recorded : goal.returns-clause-recorded
returns-clause-recorded c =
    let stored-so = rw c.deref.ensures.value at c.in_ok-store_pages.ensures.stored in
    let bytes = rw c.deref-sent.ensures.value at c.bytes_fit.ensures in
    let r = c.in_ok-reached.reached in
    let count : ℕ = get_or c.counts.result.now c.args.k 0 in
    recorded-more _ c.requires.recorded c.index-last.ensures c.counts.ensures.lawful c.requires.inside
    c.inputs.ensures.inputs (next-count c.args.session.now c.args.k c.counts.ensures.counts) c.in_ok-reached.ensures.reached stored-so c.in_ok-reached.ensures.room
    (subst (λ (n : ℕ). n ≤ MAX_PAGES) c.len.ensures.count c.if-len-gt-MAX_PAGES.false) c.len.ensures.pages c.timer-timer.ensures.ranges bytes
    c.push.new.self.items _ c.in_ok-push.ensures.items
    (ap (λ (t : Table). record { count = count; cpu = cpu_state r.cpu; devices = r.devices; sent = r.sent.items; table = t.numbers }) c.copy.ensures)
    (c.args.recorder.now.sent + length c.deref-sent.result.now) (ap (λ (l : List ℕ). c.args.recorder.now.sent + length l) c.deref-sent.ensures.value)
