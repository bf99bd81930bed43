use Rattle.std.proofs.Common.{◌≡◌, ◌∙◌, ◌-◌, ℕ, ap, arith, refl, sym}
use Rattle.std.proofs.lemmas.Bool.{false≢true}
use Rattle.oberon_format.specs.CheckpointParts.{CheckpointParts}
use Rattle.oberon_format.specs.Defined.{claimed}
use Rattle.oberon_format.specs.Recording.{count_at}
use Rattle.oberon_session.specs.Extended.{last_count}
use Rattle.oberon_past.specs.Past.{PastParts}
use Rattle.oberon_past.proofs.Checks.{first-state, initial-differs, initial-same, run-so}
use Rattle.oberon_past.proofs.past.Past.is_run_of.Goals as goal

pub returns-then-is_some : goal.returns-then-is_some
returns-then-is_some c =
    let r = c.args.recording.now in
    let run = c.args.self.now.run in
    let s = c.in_ok-machine.machine.state in
    let differs = c.claim_difference.ensures (claimed r 0).sent (λ _. refl, λ _. refl) in (
      λ no. absurd (false≢true no),
      λ is. absurd (initial-differs r s c.claim_difference.result (sym c.is_some.ensures ∙ c.if-is_some.true) differs
          (is.first ∙ sym (first-state run s is.starts c.in_ok-machine.ensures))),
    )

pub returns : goal.returns
returns c =
    let r = c.args.recording.now in
    let run = c.args.self.now.run in
    let s = c.in_ok-machine.machine.state in
    let differs = c.claim_difference.ensures (claimed r 0).sent (λ _. refl, λ _. refl) in
    let starts : run.start ≡ 0 = omega (arith, c.extent.ensures.first, c.if-extent-ne0.false) in
    let same = initial-same r s c.claim_difference.result (sym c.is_some.ensures ∙ c.if-is_some.false) differs in
    let end : c.checkpoint.result.now.count ≡ last_count r =
    ap (λ (x : CheckpointParts). x.count) c.checkpoint.ensures.checkpoint ∙ ap (λ (n : ℕ). count_at r (n - 1)) c.count.ensures.count in
    run-so r run c.checkpoint.result.now.count _ _ c.same_before.result end (c.events.ensures.events ∙ c.inputs.ensures.inputs)
    (c.events-2.ensures.events ∙ ap (λ (p : PastParts). p.run.inputs) c.self.view_is) c.same_before.ensures starts
    (same ∙ first-state run s starts c.in_ok-machine.ensures)
