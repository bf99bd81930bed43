use Rattle.std.proofs.Common.{arith, rules}
use Rattle.oberon_check.proofs.InVersions.{one_in}
use Rattle.oberon_shards.proofs.Apart.{alike, failed_line, held_before, not_both, rises_to, unlike}
use Rattle.oberon_shards.proofs.combining.fail_apart.Goals as goal

pub returns-then-a-b-clause-apart : goal.returns-then-a-b-clause-apart
returns-then-a-b-clause-apart c = λ differ v file is_a is_b.
    unlike _ _ c.ne.result c.ne.ensures differ (failed_line v (one_in c.one_recording_with_disk_law.ensures v) file c.args.a.now c.args.b.now is_a is_b c.requires.a c.requires.b c.if-a-b.true)

pub returns-then-a-b-clause-agree : goal.returns-then-a-b-clause-agree
returns-then-a-b-clause-agree c = λ same. (λ _. alike _ _ c.ne.result c.ne.ensures same, λ less. absurd (omega (arith, less, c.if-a-b.true)))

pub returns-then-b-a-2-clause-apart : goal.returns-then-b-a-2-clause-apart
returns-then-b-a-2-clause-apart c = λ _ v file is_a is_b.
    held_before v (one_in c.one_recording_with_disk_law.ensures v) file c.args.a.now c.args.b.now is_a is_b c.requires.a c.requires.b (search rules) (search rules)

pub returns-clause-apart : goal.returns-clause-apart
returns-clause-apart c = λ falls v file is_a is_b.
    not_both c.rise.result falls
    (c.rise.ensures.1 (rises_to v (one_in c.one_recording_with_disk_law.ensures v) file c.args.a.now c.args.b.now is_a is_b c.requires.a c.requires.b (search rules)))
