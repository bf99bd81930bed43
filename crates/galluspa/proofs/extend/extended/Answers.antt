use Rattle.std.proofs.Common.{◌≢◌, arith}
use Rattle.oberon_format.specs.Text.{TextWithDisk}
use Rattle.oberon_format.specs.declared.fault.Fault.{Fault}
use Rattle.galluspa.proofs.ExtendLemmas.{unextended-full}
use Rattle.galluspa.proofs.TextLemmas.{no-fault, no-fault-memory, no-text, read-text}
use Rattle.galluspa.proofs.extend.extended.Goals as goal

pub returns-in-Err-Memory-clause-refused : goal.returns-in-Err-Memory-clause-refused
returns-in-Err-Memory-clause-refused c = no-fault-memory c.args.bytes.now (TextWithDisk c.args.bytes.now) _ c.in-Err-Memory.ensures c.in-Err-Memory.field-0-is

pub returns-in-Err-Memory-clause-more : goal.returns-in-Err-Memory-clause-more
returns-in-Err-Memory-clause-more c = tt

pub extend_recording-requires-clause-counter : goal.extend_recording-requires-clause-counter
extend_recording-requires-clause-counter c = c.requires.counter

pub extend_recording-requires-clause-stop : goal.extend_recording-requires-clause-stop
extend_recording-requires-clause-stop c = c.requires.stop

pub extend_recording-requires-clause-whole : goal.extend_recording-requires-clause-whole
extend_recording-requires-clause-whole c = c.requires.whole

pub returns-in-Ok-extend_recording-clause-refused : goal.returns-in-Ok-extend_recording-clause-refused
returns-in-Ok-extend_recording-clause-refused c = tt

pub returns-in-Ok-extend_recording-clause-more : goal.returns-in-Ok-extend_recording-clause-more
returns-in-Ok-extend_recording-clause-more c = record {
  no_fault = no-fault c.args.bytes.now (TextWithDisk c.args.bytes.now) c.in-Ok.recording c.in-Ok.ensures;
  old = c.in-Ok.recording;
  is_text = read-text c.args.bytes.now c.in-Ok.recording c.in-Ok.ensures;
  events = c.in-Ok-inputs_of.inputs;
  are_events = c.in-Ok-inputs_of.ensures;
  room = rw c.events.ensures.events at c.in-Ok-extend_recording.ensures.room;
  extended = rw c.events.ensures.events at c.in-Ok-extend_recording.ensures.extended;
  lawful = c.in-Ok-extend_recording.ensures.lawful;
}

pub returns-clause-refused : goal.returns-clause-refused
returns-clause-refused c =
    rw c.unextended.ensures
    (unextended-full c.args.bytes.now c.args.inputs.now c.in-Ok-inputs_of.inputs c.args.claim.now c.in-Ok.recording
    (read-text c.args.bytes.now c.in-Ok.recording c.in-Ok.ensures) c.in-Ok-inputs_of.ensures
    (no-fault c.args.bytes.now (TextWithDisk c.args.bytes.now) c.in-Ok.recording c.in-Ok.ensures)
    c.in-Err-extend_recording.fault (rw c.events.ensures.events at c.in-Err-extend_recording.ensures.refused))

pub returns-in-Err : goal.returns-in-Err
returns-in-Err c =
    let other : c.in-Err.field-0 ≢ Fault.Memory = search arith in
    record { more = tt; refused = no-text c.args.bytes.now c.in-Err.field-0 c.in-Err.ensures other }
