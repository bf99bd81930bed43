use Rattle.std.proofs.Common.{◌∙◌, arith, length-set, refl}
use Rattle.oberon_format.specs.Recording.{checkpoint_at}
use Rattle.galluspa.specs.inner.Claiming.{IsRawCheckpoint}
use Rattle.galluspa.proofs.ClaimLemmas.{filled-more, kept-more}
use Rattle.galluspa.proofs.claims.write_checkpoints.Goals as goal

pub loop-k-init : goal.loop-k-init
loop-k-init c = record { count = refl; each = λ k d h. absurd (omega arith); rest = λ k d h. refl }

pub loop-k-preserved : goal.loop-k-preserved
loop-k-preserved c =
    let so_far = c.loop-k.invariant in
    let checkpoints = c.loop-k.checkpoints in
    let k = c.loop-k.k in
    record {
      count = length-set checkpoints k c.raw_checkpoint.result ∙ so_far.count;
      each = filled-more (λ i claim. IsRawCheckpoint (checkpoint_at c.args.recording.now i) claim) checkpoints k c.raw_checkpoint.result (omega arith) c.raw_checkpoint.ensures so_far.each;
      rest = kept-more c.args.checkpoints.now checkpoints k c.raw_checkpoint.result so_far.rest;
    }
