use Rattle.std.proofs.Common.{◌≡◌, ℕ, refl, ap, sym, ◌∙◌, subst, arith}
use Rattle.std.specs.Prelude.{is_some}
use Rattle.oberon_check.proofs.Series.{HeldPiece, held_first, held_more, series_failed, series_whole}
use Rattle.oberon_claims.specs.Pass.{PassRecord, pass_with_reported}
use Rattle.oberon_check.proofs.worker.replay_series.Goals as goal

pub loop-segment-init : goal.loop-segment-init
loop-segment-init c = record { pass = refl; held = held_first c.args.replayer.now c.args.from c.args.verdicts.now.items; kept = refl }

pub loop-segment-preserved : goal.loop-segment-preserved
loop-segment-preserved c =
    let i = c.loop-segment.invariant in
    let v = c.in_ok-verdict.ensures in record {
      pass = i.pass;
      held = held_more c.args.replayer.now c.args.from c.loop-segment.segment _ _ _ c.in_ok-verdict.verdict i.held c.in_ok-push.ensures.items (v.recording ∙ i.kept) v.segment
          (ap is_some (sym c.part.ensures.part) ∙ sym c.is_some-failed.ensures ∙ c.if-failed.false);
      kept = c.replay.ensures.kept ∙ i.kept;
    }

pub returns-then-failed-clause-series : goal.returns-then-failed-clause-series
returns-then-failed-clause-series c =
    let i = c.loop-segment.invariant in
    let v = c.in_ok-verdict.ensures in
    series_failed c.args.replayer.now c.args.from c.loop-segment.segment c.args.to _ _ _ _ _ c.in_ok-verdict.verdict i.held c.in_ok-push.ensures.items (v.recording ∙ i.kept) v.segment
    (ap is_some (sym c.part.ensures.part) ∙ sym c.is_some-failed.ensures ∙ c.if-failed.true) c.loop-segment-test.true
    (c.tell.ensures ∙ ap (λ (h : PassRecord). pass_with_reported h c.loop-segment.segment) i.pass)

pub returns-clause-series : goal.returns-clause-series
returns-clause-series c =
    let i = c.loop-segment.invariant in
    let test = c.loop-segment-test.false in
    let auto = c.loop-segment.auto in
    let range = c.requires.range in
    let k : c.loop-segment.segment ≡ c.args.to = omega arith in
    series_whole c.args.replayer.now c.args.from c.args.to _ _ _ _ (subst (λ (n : ℕ). HeldPiece c.args.replayer.now c.args.from n c.args.verdicts.now.items c.loop-segment.verdicts.items) k i.held) i.pass
