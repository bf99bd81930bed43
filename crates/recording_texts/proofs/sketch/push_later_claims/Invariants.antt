use Rattle.std.proofs.Common.{◌≡◌, ◌++◌, replicate, take}
use Rattle.recording_texts.specs.Layout.{later_claims}
use Rattle.recording_texts.proofs.Encoded.{table_after}
use Rattle.recording_texts.proofs.sketch.push_later_claims.Given as goal

abbrev pub invariant-loop-k : goal.invariant-loop-k
invariant-loop-k l = record {
  file : l.file.items ≡ l.fn.file.items ++ later_claims l.version (replicate 1024 0) (take l.k l.claims);
  before : l.before ≡ table_after (replicate 1024 0) (take l.k l.claims);
}
