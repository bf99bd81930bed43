use Rattle.oberon_format.proofs.Common.{event_floor, event_of, event_offset, false, fields_of, is_event, version, ◌<◌, ◌≡◌}
use Rattle.oberon_format.proofs.RuleLemmas.{each_unmet}
use Rattle.oberon_format.specs.declared.fault.Fault.TheVariants as fault
use Rattle.oberon_format.proofs.rules.events_fault.Goals as goal

pub returns-then-not-is_event : goal.returns-then-not-is_event
returns-then-not-is_event c =
    let bytes = c.args.bytes.now in
    let fails : is_event (version bytes) (event_floor (fields_of bytes) c.loop-i.i) (event_of bytes (event_offset bytes c.loop-i.i)) ≡ false = cc in
    let lt : c.loop-i.i < c.event_count-i-end.result = c.loop-i-test.true in
    let found = each_unmet (λ k. is_event (version bytes) (event_floor (fields_of bytes) k) (event_of bytes (event_offset bytes k))) (λ k. fault.Event (event_offset bytes k)) c.loop-i.i c.event_count-i-end.result lt c.loop-i.invariant fails in
    cc
