use Rattle.std.proofs.Common.{◌≡◌, ◌∙◌, ◌-◌, ◌≤◌, ℕ, ap, arith, subst, sym}
use Rattle.oberon_format.specs.CheckpointParts.{CheckpointParts}
use Rattle.oberon_format.specs.Recording.{count_at}
use Rattle.oberon_session.specs.Extended.{last_count}
use Rattle.oberon_past.specs.Check.{IsCheckable, IsTrueProgress}
use Rattle.oberon_past.specs.Past.{PastParts}
use Rattle.oberon_past.specs.declared.checked.CheckProgress.{CheckProgress}
use Rattle.oberon_past.proofs.Checks.{begun-true, checked-of}
use Rattle.oberon_past.proofs.past.Past.check.Goals as goal

pub returns-clause-checked : goal.returns-clause-checked
returns-clause-checked c =
    let r = c.args.recording.now in
    let p : PastParts = c.args.self.now in
    let last : c.checkpoint.result.now.count ≡ last_count r =
    ap (λ (x : CheckpointParts). x.count) c.checkpoint.ensures.checkpoint ∙ ap (λ (n : ℕ). count_at r (n - 1)) c.count.ensures.count in
    let end = ap (λ (q : PastParts). q.end) c.self.view_is in
    let inside : last_count r ≤ p.end = omega (arith, last, end, c.if-checkpoint-self.false) in
    let can : IsCheckable p r c.args.progress = record {
      inside = inside;
      progress = c.is_progress.ensures.0 c.if-not-is_progress.false;
      run = c.in_ok-is_run_of.ensures.0 c.if-not-branch.false;
    } in
    checked-of r p c.args.progress can c.check_start.result
    (λ truth. subst (λ (q : CheckProgress). IsTrueProgress r q) (sym c.check_start.ensures) (begun-true r c.count.ensures.lawful c.args.progress truth))
    c.check_from.result c.check_from.ensures.checked c.check_from.ensures.answered
