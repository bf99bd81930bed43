use Rattle.std.proofs.Common.{◌≡◌, ◌++◌}
use Rattle.recording_texts.specs.Bytes.{padded}
use Rattle.recording_texts.proofs.claim.push_sixteen.Given as goal

abbrev pub invariant-loop-i : goal.invariant-loop-i
invariant-loop-i l = l.bytes.items ≡ l.fn.bytes.items ++ padded l.keys l.i
