-- The checkpoints of a recording, as Rust values and as parts.
use Rattle.oberon_format.proofs.Common.{ap, arith, Checkpoint, checkpoint_parts, Event, get_or, get_or-map, IsFit, IsLawfulWithDisk, length, length-map, List, map, no_checkpoint, parts_of, RecordingParts, subst, sym, ℕ, ◌<◌, ◌∙◌, ◌≡◌}

-- checkpoint k of the parts is that of the list
pub checkpoint_here : (cs : List Checkpoint) (k : ℕ) (d : Checkpoint) → k < length cs → get_or (map checkpoint_parts cs) k no_checkpoint ≡ checkpoint_parts (get_or cs k d)
checkpoint_here cs k d lt = get_or-map checkpoint_parts cs k d no_checkpoint lt

pub checkpoint_at-is : (cs : List Checkpoint) (k : ℕ) (c : Checkpoint) → k < length cs → c ≡ get_or cs k c → get_or (map checkpoint_parts cs) k no_checkpoint ≡ checkpoint_parts c
checkpoint_at-is cs k c lt is = checkpoint_here cs k c lt ∙ ap checkpoint_parts (sym is)

-- a checkpoint of a lawful recording is in its ranges
pub fit_at : (r : RecordingParts) (pool : List (List ℕ)) (inputs : List Event) (cs : List Checkpoint) (k : ℕ) (c : Checkpoint) → parts_of pool inputs cs ≡ r → IsLawfulWithDisk (parts_of pool inputs cs) → k < length r.checkpoints → c ≡ get_or cs k c → IsFit r.pool (checkpoint_parts c)
fit_at r pool inputs cs k c same lawful lt is =
    let pools : pool ≡ r.pool = ap (λ (x : RecordingParts). x.pool) same in
    let count : length (map checkpoint_parts cs) ≡ length r.checkpoints = ap (λ (x : RecordingParts). length x.checkpoints) same in
    let len = length-map cs checkpoint_parts in let inside : k < length cs = omega arith in
    let fit : IsFit pool (get_or (map checkpoint_parts cs) k no_checkpoint) = lawful.fit k (omega arith) in
    subst (λ (p : List (List ℕ)). IsFit p (checkpoint_parts c)) pools (subst (IsFit pool) (checkpoint_at-is cs k c inside is) fit)
