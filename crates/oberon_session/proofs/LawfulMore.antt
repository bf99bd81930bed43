-- A lawful recording with one more checkpoint, over a pool that has grown.
use Rattle.std.proofs.Common.{◌≡◌, ℕ, ◌+◌, ◌<◌, ◌≤◌, inl, inr, List, [], ◌∷◌, ◌++◌, ap, arith, length, length-append, refl, subst, sym, ◌∙◌}
use Rattle.std.proofs.lemmas.Bool.{cases_lt}
use Rattle.std.proofs.lemmas.Grind.{common_steps}
use Rattle.std.proofs.lemmas.List.{get_or_push, length_push}
use Rattle.risc_pages.specs.Pages.{ArePages}
use Rattle.recording_limits.specs.declared.limits.TheConstants.{LAST_CHECKPOINT, MAX_OUTPUT, MAX_PAGES}
use Rattle.oberon_format.proofs.Output.{output_of_push}
use Rattle.oberon_format.specs.CheckpointParts.{CheckpointParts, no_checkpoint}
use Rattle.oberon_format.specs.Recording.{IsFit, IsLawfulWithDisk, RecordingParts, checkpoint_at, count_at, last_of, output_of}

-- a checkpoint that fits fits over a larger pool
fit-grown : (pool extra : List (List ℕ)) (c : CheckpointParts) → IsFit pool c → IsFit (pool ++ extra) c
fit-grown pool extra c fit = record {
  bounded = fit.bounded;
  cpu = fit.cpu;
  devices = fit.devices;
  table = fit.table;
  named = λ k d lt. omega (arith, fit.named k d lt, length-append pool extra);
  bytes = fit.bytes;
}

module _ (r : RecordingParts) (extra : List (List ℕ)) (c : CheckpointParts) where
  abbrev pub more : RecordingParts
  more = record { pool = r.pool ++ extra; inputs = r.inputs; checkpoints = r.checkpoints ++ c ∷ [] }

  at-before : (k : ℕ) → k < length r.checkpoints → checkpoint_at more k ≡ checkpoint_at r k
  at-before k lt = grind (arith, common_steps)

  at-last : checkpoint_at more (length r.checkpoints) ≡ c
  at-last = get_or_push r.checkpoints c no_checkpoint (length r.checkpoints) refl

  pub lawful-more : IsLawfulWithDisk r → length (r.pool ++ extra) ≤ MAX_PAGES → ArePages (r.pool ++ extra) → length r.checkpoints ≤ LAST_CHECKPOINT
      → count_at r (last_of r) < c.count → IsFit (r.pool ++ extra) c → length (output_of r.checkpoints) + length c.sent ≤ MAX_OUTPUT → IsLawfulWithDisk more
  lawful-more lawful pages pool few rises fit output =
      let long = length_push r.checkpoints c in
      record {
        pages = pages;
        pool = pool;
        events = lawful.events;
        ordered = lawful.ordered;
        some = omega arith;
        few = omega arith;
        begins = ap (λ (x : CheckpointParts). x.count) (at-before 0 lawful.some) ∙ lawful.begins;
        rises = λ k lt. elim (cases_lt (k + 1) (length r.checkpoints)) [
          | inl inside ↦
              let here = ap (λ (x : CheckpointParts). x.count) (at-before k (omega arith)) in
              let next = ap (λ (x : CheckpointParts). x.count) (at-before (k + 1) inside) in
              omega (arith, here, next, lawful.rises k inside)
          | inr last ↦
              let this : k ≡ last_of r = omega (arith, lawful.some) in
              let here : count_at more k ≡ count_at r (last_of r) = ap (λ (x : CheckpointParts). x.count) (at-before k (omega (arith, lawful.some))) ∙ ap (λ (j : ℕ). count_at r j) this in
              let next : count_at more (k + 1) ≡ c.count =
              let end : k + 1 ≡ length r.checkpoints = omega (arith, lawful.some) in
              ap (λ (j : ℕ). count_at more j) end ∙ ap (λ (x : CheckpointParts). x.count) at-last in
              omega (arith, here, next)
        ];
        silent = ap (λ (x : CheckpointParts). x.sent) (at-before 0 lawful.some) ∙ lawful.silent;
        output = omega (arith, ap length (output_of_push r.checkpoints c), length-append (output_of r.checkpoints) c.sent);
        fit = λ k lt. elim (cases_lt k (length r.checkpoints)) [
          | inl inside ↦ subst (IsFit (r.pool ++ extra)) (sym (at-before k inside)) (fit-grown r.pool extra (checkpoint_at r k) (lawful.fit k inside))
          | inr last ↦
              let this : length r.checkpoints ≡ k = omega arith in
              subst (λ (j : ℕ). IsFit (r.pool ++ extra) (checkpoint_at more j)) this (subst (IsFit (r.pool ++ extra)) (sym at-last) fit)
        ];
      }
