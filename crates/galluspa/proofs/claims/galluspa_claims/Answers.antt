use Rattle.std.proofs.Common.{◌≡◌, ◌∙◌, ◌+◌, ◌<◌, ◌≤◌, ℕ, List, ap, arith, length, refl, slice_index_or, subst, sym}
use Rattle.oberon_format.specs.Text.{TextWithDisk}
use Rattle.risc_pages.specs.Pages.{page_of}
use Rattle.risc_pages.proofs.PoolLemmas.{page_of-zero}
use Rattle.galluspa.specs.Claim.{IsClaimOf}
use Rattle.galluspa.specs.declared.claims.RawPage.{RawPage}
use Rattle.galluspa.proofs.ClaimLemmas.{claim-is}
use Rattle.galluspa.proofs.TextLemmas.{no-fault-memory, read-text}
use Rattle.galluspa.proofs.claims.galluspa_claims.Goals as goal

pub returns-in-Err-Memory-clause-memory : goal.returns-in-Err-Memory-clause-memory
returns-in-Err-Memory-clause-memory c = λ _. no-fault-memory c.args.recording.now (TextWithDisk c.args.recording.now) _ c.in-Err-Memory.ensures c.in-Err-Memory.field-0-is

pub returns-clause-claims : goal.returns-clause-claims
returns-clause-claims c = λ _.
    let r = c.in-Ok.valid in
    let checkpoints = c.write_checkpoints.new.checkpoints in
    let pages = c.write_pages.new.pages in
    let lawful = c.count.ensures.lawful in
    let many : c.len.result ≡ length r.pool = c.len.ensures.count ∙ ap (λ (p : List (List ℕ)). length p) c.pool.ensures.pool in
    let P : List (List ℕ) → Type 0 = λ (pool : List (List ℕ)). (id : ℕ) (d : RawPage) → id ≤ length pool → (slice_index_or pages id d).words ≡ page_of pool id in
    let each : P r.pool = subst P c.pool-2.ensures.pool c.write_pages.ensures.each in
    record {
      recording = r;
      is_text = read-text c.args.recording.now r c.in-Ok.ensures;
      count_is = c.count.ensures.count;
      pages_are = ap (λ (n : ℕ). n + 1) many;
      checkpoints_fit = omega arith;
      pages_fit = omega arith;
      blank = λ d. each 0 d (omega arith) ∙ page_of-zero r.pool 0 refl;
      each = λ k d h.
          let inside : k < length r.checkpoints = omega (arith, c.count.ensures.count, h) in
          let Q : ℕ → Type 0 = λ (n : ℕ). IsClaimOf r k (slice_index_or checkpoints k d) pages n in
          subst Q (ap (λ (n : ℕ). n + 1) (sym many)) (claim-is r k (slice_index_or checkpoints k d) pages lawful.pool (lawful.fit k inside) (c.write_checkpoints.ensures.each k d inside) each);
    }
