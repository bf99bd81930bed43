use Rattle.oberon_format.proofs.Common.{answer_rules, ap, arith, each, eq-eqb, first_broken, length-map, true, checkpoint_at, checkpoint_parts, CheckpointParts, get_or, false, IsUnanswered, length, ne_eqb, parts_of, Some, sym, UNANSWERED, VERSION_WITH_DISK, ℕ, ◌==◌, ◌∙◌, ◌≡◌}
use Rattle.oberon_format.proofs.CheckpointLemmas.{checkpoint_here}
use Rattle.oberon_format.proofs.LawfulLemmas.{answer_met, answer_unmet, answers_met}
use Rattle.oberon_format.proofs.RuleLemmas.{each_broken, each_more}
use Rattle.oberon_format.specs.declared.fault.Fault.TheVariants as fault
use Rattle.oberon_format.proofs.parts.answers_fault.Goals as goal

pub returns-then-version-eq-VERSION_WITH_DISK : goal.returns-then-version-eq-VERSION_WITH_DISK
returns-then-version-eq-VERSION_WITH_DISK c =
    let r = parts_of c.args.pool.now c.args.inputs.now c.args.checkpoints.now in
    let known : (c.args.version == VERSION_WITH_DISK) ≡ true = eq-eqb _ _ c.if-version-eq-VERSION_WITH_DISK.true in
    let len : length r.checkpoints ≡ length c.args.checkpoints.now = length-map c.args.checkpoints.now checkpoint_parts in
    sym (ap (λ (n : ℕ). first_broken (each n (answer_rules c.args.version r))) (sym len) ∙ answers_met c.args.version r (λ other. absurd (grind arith)))

pub returns-then-disk-ne-UNANSWERED : goal.returns-then-disk-ne-UNANSWERED
returns-then-disk-ne-UNANSWERED c =
    let checkpoints = c.args.checkpoints.now in let r = parts_of c.args.pool.now c.args.inputs.now checkpoints in
    let k = c.loop-k.k in let x = get_or checkpoints k c.index-checkpoints-k.result in
    let here : checkpoint_at r k ≡ checkpoint_parts x = checkpoint_here checkpoints k c.index-checkpoints-k.result c.loop-k-test.true in
    let other : (c.args.version == VERSION_WITH_DISK) ≡ false = ne_eqb _ _ c.if-version-eq-VERSION_WITH_DISK.false in
    let some : ¬ (IsUnanswered (checkpoint_at r k)) = λ none.
    let own : c.disk.result ≡ UNANSWERED = c.disk.ensures.value ∙ ap (λ (y : CheckpointParts). y.devices.disk) (sym here) ∙ none in absurd (grind arith) in
    sym (each_broken (answer_rules c.args.version r) k (length checkpoints) (fault.Checkpoint c.checkpoint_start-offset.result) c.loop-k-test.true c.loop-k.invariant
    (answer_unmet c.args.version r k other some ∙ ap (λ (n : ℕ). Some (fault.Checkpoint n)) (sym c.checkpoint_start-offset.ensures)))

pub loop-k-preserved : goal.loop-k-preserved
loop-k-preserved c =
    let checkpoints = c.args.checkpoints.now in let r = parts_of c.args.pool.now c.args.inputs.now checkpoints in
    let k = c.loop-k.k in let x = get_or checkpoints k c.index-checkpoints-k.result in
    let here : checkpoint_at r k ≡ checkpoint_parts x = checkpoint_here checkpoints k c.index-checkpoints-k.result c.loop-k-test.true in
    let is : c.disk.result ≡ UNANSWERED = grind arith in
    each_more (answer_rules c.args.version r) k c.loop-k.invariant (answer_met c.args.version r k (ap (λ (y : CheckpointParts). y.devices.disk) here ∙ sym c.disk.ensures.value ∙ is))
