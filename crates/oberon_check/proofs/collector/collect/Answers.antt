use Rattle.std.proofs.Common.{refl, ◌≡◌, ◌+◌, ◌-◌, ◌<◌, ◌≤◌, ℕ, length, ap, ◌∙◌, arith}
use Rattle.oberon_format.specs.Recording.{last_of, count_at}
use Rattle.oberon_format.specs.CheckpointParts.{CheckpointParts}
use Rattle.oberon_check.specs.declared.collector.TheConstants.{MAX_SEGMENTS}
use Rattle.oberon_check.specs.inner.Tally.{end_of, IsMarked}
use Rattle.oberon_check.specs.Verdict.{IsFirstFalse}
use Rattle.oberon_check.proofs.Collects.{truth, is_missing, end_within, collected, collected_false, collected_true, collected_whole, IsCollected}
use Rattle.oberon_check.proofs.collector.collect.Goals as goal

end_small : (c : goal.After-end) → (c.end.result ≤ MAX_SEGMENTS) × (end_of c.in-Ok.tally.least (last_of c.args.r.now) ≤ last_of c.args.r.now) × (c.end.result ≡ end_of c.in-Ok.tally.least (last_of c.args.r.now))
end_small c =
    let vs = c.args.verdicts.now in
    let t = truth c.args.r.now vs c.requires c.in-Ok.ensures.truth in
    let w = end_within c.args.r.now vs (length vs) c.in-Ok.tally.least t c.in-Ok.ensures.ok.least_failed in
    let few = c.count-last.ensures.lawful.few in
    let e : c.end.result ≡ end_of c.in-Ok.tally.least (last_of c.args.r.now) = c.end.ensures ∙ ap (λ (n : ℕ). end_of c.in-Ok.tally.least (n - 1)) c.count-last.ensures.count in
    (omega arith, w, e)

pub first_unmarked-requires : goal.first_unmarked-requires
first_unmarked-requires c = (end_small c).0

pub returns-in-Some-clause-fault : goal.returns-in-Some-clause-fault
returns-in-Some-clause-fault c =
    let vs = c.args.verdicts.now in
    let few = end_small c.before.before in
    let m = c.in-Some.ensures in
    let below = m.0 in
    is_missing c.args.r.now vs c.in-Ok.tally.seen c.in-Ok.tally.least _ c.in-Ok.ensures.ok (omega arith) few.1 (omega arith) m.1 m.2

all_collected : (c : goal.After-end) → ((s : ℕ) → s < c.end.result → IsMarked c.in-Ok.tally.seen s) → IsCollected c.args.r.now c.args.verdicts.now c.in-Ok.tally.seen c.in-Ok.tally.least
all_collected c marked =
    collected c.args.r.now c.args.verdicts.now c.in-Ok.tally.seen c.in-Ok.tally.least c.count-last.result c.end.result
    c.count-last.ensures.lawful c.requires c.in-Ok.ensures.truth c.in-Ok.ensures.ok c.count-last.ensures.count c.end.ensures marked

first : (c : goal.In-Some-least) (count : ℕ) → count ≡ count_at c.args.r.now (c.in-Some-least.segment + 1) → IsFirstFalse c.args.r.now (c.in-Some-least.segment + 1) count c.in-Some-least.part
first c count is = collected_false _ _ _ _ (c.in-Some-least.segment, c.in-Some-least.part) count is (all_collected c.before.before.before c.in_default.ensures) c.in-Some-least.is

pub overflow_add-result : goal.overflow_add-result
overflow_add-result c = let h = (first c _ refl).inside in let few = c.count-last.ensures.lawful.few in omega arith

pub overflow_add-segment : goal.overflow_add-segment
overflow_add-segment c = let h = (first c _ refl).inside in let few = c.count-last.ensures.lawful.few in omega arith

pub checkpoint-requires : goal.checkpoint-requires
checkpoint-requires c = let h = (first c _ refl).inside in let few = c.count-last.ensures.lawful.few in omega arith

pub returns-in-Some-least-clause-verdict : goal.returns-in-Some-least-clause-verdict
returns-in-Some-least-clause-verdict c = first c.before _ (ap (λ (k : CheckpointParts). k.count) c.checkpoint.ensures.checkpoint)

pub returns-in-Some-least-clause-whole : goal.returns-in-Some-least-clause-whole
returns-in-Some-least-clause-whole c = collected_whole _ _ _ _ (all_collected c.before.before.before.before c.in_default.ensures)

pub returns-in-None-clause-verdict : goal.returns-in-None-clause-verdict
returns-in-None-clause-verdict c =
    let count = c.count-last.ensures.count in
    let last : c.count-last.result - 1 ≡ last_of c.args.r.now = omega arith in
    let k = all_collected c.before.before.before.before c.in_default.ensures in
    collected_true _ _ _ _ k c.in-None.is _ _ last (ap (λ (k : CheckpointParts). k.count) c.checkpoint-in-None.ensures.checkpoint ∙ ap (λ (n : ℕ). count_at c.args.r.now n) last)

pub returns-in-None-clause-whole : goal.returns-in-None-clause-whole
returns-in-None-clause-whole c = collected_whole _ _ _ _ (all_collected c.before.before.before.before c.in_default.ensures)
