use Rattle.std.proofs.Common.{rules}
use Rattle.oberon_check.proofs.InVersions.{one_in}
use Rattle.oberon_shards.proofs.Apart.{held_there, not_both, rises_to_last}
use Rattle.oberon_shards.proofs.combining.fails_there.Goals as goal

pub returns-then-a-b-clause-apart : goal.returns-then-a-b-clause-apart
returns-then-a-b-clause-apart c = λ _ v file is_a is_b.
    held_there v (one_in c.one_recording_with_disk_law.ensures v) file c.args.a.now c.args.b.now is_a is_b c.requires.a c.requires.b (search rules) (search rules)

pub returns-clause-apart : goal.returns-clause-apart
returns-clause-apart c = λ falls v file is_a is_b.
    not_both c.rise.result falls
    (c.rise.ensures.1 (rises_to_last v (one_in c.one_recording_with_disk_law.ensures v) file c.args.a.now c.args.b.now is_a is_b c.requires.a c.requires.b))
