use Rattle.std.proofs.Common.{◌≡◌, ◌≤◌, ◌*◌, vec_len}
use Rattle.recording_texts.specs.Claims.{changes_below}
use Rattle.recording_texts.proofs.claim.changes.Given as goal

abbrev pub invariant-loop-slot : goal.invariant-loop-slot
invariant-loop-slot l = record {
  changes : l.changes.items ≡ changes_below l.before l.after l.slot;
  few : vec_len l.changes ≤ 8 * l.slot;
}
