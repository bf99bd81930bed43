use Rattle.std.proofs.Common.{◌≡◌, ◌∙◌, List, ℕ, ap, arith, length, refl, subst, sym}
use Rattle.std.specs.Int.{div_ceil}
use Rattle.std.specs.Prelude.{All}
use Rattle.std.proofs.lemmas.List.{length-replicate}
use Rattle.std.proofs.lemmas.List.Elements.{All-replicate}
use Rattle.oberon_claims.specs.Pass.{PassRecord, fresh_pass}
use Rattle.oberon_check.proofs.check.check_recording.Goals as goal

jobs_of : (jobs n m cut : ℕ) → jobs ≡ div_ceil n cut → n ≡ m → jobs ≡ div_ceil m cut
jobs_of jobs n m cut is same = is ∙ ap (λ (k : ℕ). div_ceil k cut) same

pub work_all-requires-clause-jobs : goal.work_all-requires-clause-jobs
work_all-requires-clause-jobs g c = λ _ _. jobs_of _ _ _ _ (c.in_ok-claims.ensures.jobs ∙ c.div_ceil-jobs.ensures) (omega (arith, c.count.ensures.count))

pub work_all-requires-clause-fresh : goal.work_all-requires-clause-fresh
work_all-requires-clause-fresh g c = λ _ _.
    subst (λ (ps : List PassRecord). All (λ p. p ≡ fresh_pass c.in_ok-claims.claims) ps) (sym c.in_ok-claims.ensures.passes)
    (All-replicate (λ p. p ≡ fresh_pass c.in_ok-claims.claims) c.args.workers (fresh_pass c.in_ok-claims.claims) refl)

pub verdict_of-requires-clause-len : goal.verdict_of-requires-clause-len
verdict_of-requires-clause-len g c =
    c.in_ok-results.ensures.len ∙ c.in_ok-claims.passes.ok.0 ∙ ap length c.in_ok-claims.ensures.passes
    ∙ length-replicate c.args.workers (fresh_pass c.in_ok-claims.claims) ∙ sym c.in_ok-claims.ensures.workers

pub verdict_of-requires-clause-shares : goal.verdict_of-requires-clause-shares
verdict_of-requires-clause-shares g c = (c.args.cut, c.in_ok-results.ensures.shares)
