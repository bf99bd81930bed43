use Rattle.std.proofs.Common.{◌∙◌, ap}
use Rattle.oberon_format.specs.CheckpointParts.{CheckpointParts}
use Rattle.risc_pages.specs.Tables.{table_words}
use Rattle.galluspa.proofs.claim.write_claim.Goals as goal

pub returns-clause-count : goal.returns-clause-count
returns-clause-count c = c.state_of.ensures.count ∙ ap (λ (p : CheckpointParts). p.count) c.checkpoint-checkpoint.ensures.checkpoint

pub returns-clause-claim : goal.returns-clause-claim
returns-clause-claim c =
    let parts = c.checkpoint-checkpoint.ensures.checkpoint in
    let cpu = c.state_of.ensures.cpu ∙ ap (λ (p : CheckpointParts). p.cpu) parts in
    let devices = c.state_of.ensures.devices ∙ ap (λ (p : CheckpointParts). p.devices) parts in
    let words = c.copy_words.ensures ∙ c.in_ok-memory.ensures.words ∙ (λ i. table_words (c.pool.ensures.pool i) (parts i).table) in
    λ i. record { cpu = cpu i; devices = devices i; words = words i }
