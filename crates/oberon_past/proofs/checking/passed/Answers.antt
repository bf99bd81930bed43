use Rattle.std.proofs.Common.{◌≡◌, ℕ, ap, arith}
use Rattle.oberon_format.specs.CheckpointParts.{CheckpointParts}
use Rattle.oberon_format.specs.Recording.{count_at}
use Rattle.oberon_past.proofs.Checks.{next-true, true-next}
use Rattle.oberon_past.proofs.checking.passed.Goals as goal

pub returns-clause-checked : goal.returns-clause-checked
returns-clause-checked c = λ at.
    let r = c.args.recording.now in
    let k : ℕ = c.args.at.checkpoint in
    let there : c.checkpoint.result.now.count ≡ count_at r k = ap (λ (x : CheckpointParts). x.count) c.checkpoint.ensures.checkpoint in
    next-true r c.count.ensures.lawful k c.checkpoint.result.now.count there (true-next r k (c.in_default.ensures at) at.truth.before)
