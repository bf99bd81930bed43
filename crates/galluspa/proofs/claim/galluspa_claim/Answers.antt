use Rattle.std.proofs.Common.{arith, refl}
use Rattle.oberon_format.specs.Text.{TextWithDisk}
use Rattle.galluspa.proofs.TextLemmas.{no-fault, no-fault-memory, read-text}
use Rattle.galluspa.proofs.claim.galluspa_claim.Goals as goal

pub returns-then-at-count-clause-no_checkpoint : goal.returns-then-at-count-clause-no_checkpoint
returns-then-at-count-clause-no_checkpoint c = λ _. record {
  recording = c.in-Ok.valid;
  is_text = read-text c.args.recording.now c.in-Ok.valid c.in-Ok.ensures;
  beyond = omega (arith, c.count.ensures.count, c.if-at-count.true);
}

pub returns-in-Err-Memory-clause-no_recording : goal.returns-in-Err-Memory-clause-no_recording
returns-in-Err-Memory-clause-no_recording c = λ is. absurd (omega arith)

pub returns-in-Ok-write_claim-clause-claim : goal.returns-in-Ok-write_claim-clause-claim
returns-in-Ok-write_claim-clause-claim c = λ _. record {
  recording = c.in-Ok.valid;
  is_text = read-text c.args.recording.now c.in-Ok.valid c.in-Ok.ensures;
  there = omega (arith, c.count.ensures.count, c.if-at-count.false);
  count_is = c.in-Ok-write_claim.ensures.count;
  state_is = c.in-Ok-write_claim.ensures.claim;
}

pub returns-in-Ok-write_claim-clause-written : goal.returns-in-Ok-write_claim-clause-written
returns-in-Ok-write_claim-clause-written c = λ _. c.in-Ok-write_claim.ensures.written

pub returns-in-Ok-write_claim-clause-unchanged : goal.returns-in-Ok-write_claim-clause-unchanged
returns-in-Ok-write_claim-clause-unchanged c = λ other. absurd (other refl)

pub returns-in-Ok-write_claim-clause-in_range : goal.returns-in-Ok-write_claim-clause-in_range
returns-in-Ok-write_claim-clause-in_range c = λ _. omega arith

pub returns-in-Ok-write_claim-clause-range : goal.returns-in-Ok-write_claim-clause-range
returns-in-Ok-write_claim-clause-range c = λ is. absurd (omega arith)

pub returns-in-Ok-write_claim-clause-no_recording : goal.returns-in-Ok-write_claim-clause-no_recording
returns-in-Ok-write_claim-clause-no_recording c = λ is. absurd (omega arith)

pub returns-in-Ok-write_claim-clause-no_checkpoint : goal.returns-in-Ok-write_claim-clause-no_checkpoint
returns-in-Ok-write_claim-clause-no_checkpoint c = λ is. absurd (omega arith)

pub write_claim-requires-clause-there : goal.write_claim-requires-clause-there
write_claim-requires-clause-there c = omega (arith, c.count.ensures.count, c.if-at-count.false)

pub returns-then-words-clause-claim : goal.returns-then-words-clause-claim
returns-then-words-clause-claim c = λ is. absurd (omega arith)

pub returns-then-words-clause-written : goal.returns-then-words-clause-written
returns-then-words-clause-written c = λ is. absurd (omega arith)

pub returns-then-words-clause-no_recording : goal.returns-then-words-clause-no_recording
returns-then-words-clause-no_recording c = λ is. absurd (omega arith)

pub returns-then-words-clause-no_checkpoint : goal.returns-then-words-clause-no_checkpoint
returns-then-words-clause-no_checkpoint c = λ is. absurd (omega arith)

pub returns-then-words-clause-in_range : goal.returns-then-words-clause-in_range
returns-then-words-clause-in_range c = λ other. absurd (other refl)

pub returns-then-at-count-clause-claim : goal.returns-then-at-count-clause-claim
returns-then-at-count-clause-claim c = λ is. absurd (omega arith)

pub returns-then-at-count-clause-written : goal.returns-then-at-count-clause-written
returns-then-at-count-clause-written c = λ is. absurd (omega arith)

pub returns-then-at-count-clause-range : goal.returns-then-at-count-clause-range
returns-then-at-count-clause-range c = λ is. absurd (omega arith)

pub returns-then-at-count-clause-no_recording : goal.returns-then-at-count-clause-no_recording
returns-then-at-count-clause-no_recording c = λ is. absurd (omega arith)

pub returns-then-at-count-clause-in_range : goal.returns-then-at-count-clause-in_range
returns-then-at-count-clause-in_range c = λ _. omega arith

pub returns-in-Err-Memory-clause-claim : goal.returns-in-Err-Memory-clause-claim
returns-in-Err-Memory-clause-claim c = λ is. absurd (omega arith)

pub returns-in-Err-Memory-clause-written : goal.returns-in-Err-Memory-clause-written
returns-in-Err-Memory-clause-written c = λ is. absurd (omega arith)

pub returns-in-Err-Memory-clause-range : goal.returns-in-Err-Memory-clause-range
returns-in-Err-Memory-clause-range c = λ is. absurd (omega arith)

pub returns-in-Err-Memory-clause-no_checkpoint : goal.returns-in-Err-Memory-clause-no_checkpoint
returns-in-Err-Memory-clause-no_checkpoint c = λ is. absurd (omega arith)

pub returns-in-Err-Memory-clause-in_range : goal.returns-in-Err-Memory-clause-in_range
returns-in-Err-Memory-clause-in_range c = λ _. omega arith

pub returns-in-Err-Memory-clause-memory : goal.returns-in-Err-Memory-clause-memory
returns-in-Err-Memory-clause-memory c = λ _. no-fault-memory c.args.recording.now (TextWithDisk c.args.recording.now) _ c.in-Err-Memory.ensures c.in-Err-Memory.field-0-is

pub returns-clause-memory : goal.returns-clause-memory
returns-clause-memory c = λ _. no-fault c.args.recording.now (TextWithDisk c.args.recording.now) c.in-Ok.valid c.in-Ok.ensures
