use Rattle.std.proofs.Common.{◌≡◌, ◌++◌, take}
use Rattle.std.specs.List.{flat_map}
use Rattle.recording_texts.specs.Claims.{first_bytes}
use Rattle.recording_texts.proofs.sketch.push_first_claims.Given as goal

abbrev pub invariant-loop-claim : goal.invariant-loop-claim
invariant-loop-claim l = l.file.items ≡ l.fn.file.items ++ flat_map first_bytes (take l.claim-index l.claims)
