-- The checkpoints of a file of version 2 or 3 after a loop over them.
use Rattle.std.proofs.Common.{◌≡◌, ◌<◌, ◌+◌, ◌++◌, ◌∷◌, [], List, ℕ, suc, length, take, get_or, sym, ap, ◌∙◌, append_assoc, append-nil, arith}
use Rattle.std.specs.List.{fold}
use Rattle.std.proofs.Math.Seq.{take-suc}
use Rattle.recording_texts.specs.Claims.{later_bytes, page_ids}
use Rattle.recording_texts.specs.Layout.{later_claims}
use Rattle.recording_texts.specs.declared.claim.Claim.{Claim}
use Rattle.recording_texts.proofs.Lists.{one_more}

-- the table of the last of these checkpoints, or the one before them all
abbrev pub table_after : List ℕ → List Claim → List ℕ
table_after before claims = fold (λ (table : List ℕ) (claim : Claim). page_ids claim) before claims

later_snoc : (v : ℕ) (before : List ℕ) (claims : List Claim) (claim : Claim) →
    later_claims v before (claims ++ claim ∷ []) ≡ later_claims v before claims ++ later_bytes v (table_after before claims) claim
later_snoc v before [] claim = append-nil _
later_snoc v before (c ∷ cs) claim =
    ap (λ (rest : List ℕ). later_bytes v before c ++ rest) (later_snoc v (page_ids c) cs claim)
    ∙ sym (append_assoc (later_bytes v before c) _ _)

next : (k : ℕ) → k + 1 ≡ suc k
next k = omega arith

pub one_later_more : (v : ℕ) (before : List ℕ) (claims : List Claim) (k : ℕ) (d : Claim) → k < length claims →
    later_claims v before (take (k + 1) claims) ≡ later_claims v before (take k claims)
    ++ later_bytes v (table_after before (take k claims)) (get_or claims k d)
one_later_more v before claims k d near =
    ap (λ (n : ℕ). later_claims v before (take n claims)) (next k) ∙ ap (later_claims v before) (take-suc claims k d near)
    ∙ later_snoc v before (take k claims) (get_or claims k d)

pub table_of_one_more : (before : List ℕ) (claims : List Claim) (k : ℕ) (d : Claim) → k < length claims →
    table_after before (take (k + 1) claims) ≡ page_ids (get_or claims k d)
table_of_one_more before claims k d near =
    ap (λ (n : ℕ). table_after before (take n claims)) (next k)
    ∙ one_more (λ (table : List ℕ) (claim : Claim). page_ids claim) before claims k d near

-- a checkpoint after those before
pub later_after : (v : ℕ) (start bytes part new zeros table : List ℕ) (claims : List Claim) (k : ℕ) (d : Claim) → k < length claims →
    new ≡ bytes ++ part → bytes ≡ start ++ later_claims v zeros (take k claims) → table ≡ table_after zeros (take k claims) →
    part ≡ later_bytes v table (get_or claims k d) →
    new ≡ start ++ later_claims v zeros (take (k + 1) claims)
later_after v start bytes part new zeros table claims k d near pushed before was is =
    pushed ∙ ap (λ (bs : List ℕ). bs ++ part) before ∙ append_assoc start (later_claims v zeros (take k claims)) part
    ∙ ap (λ (bs : List ℕ). start ++ (later_claims v zeros (take k claims) ++ bs))
    (is ∙ ap (λ (t : List ℕ). later_bytes v t (get_or claims k d)) was)
    ∙ ap (λ (bs : List ℕ). start ++ bs) (sym (one_later_more v zeros claims k d near))
