use Rattle.std.proofs.Common.{sym, ◌∙◌}
use Rattle.oberon_check.proofs.InVersions.{either_in, one_in}
use Rattle.oberon_shards.proofs.Apart.{both_refused, held_line, holds_alone, same_last, unlike}
use Rattle.oberon_shards.proofs.combining.contradict.Goals as goal

pub returns-then-a-b-clause-apart : goal.returns-then-a-b-clause-apart
returns-then-a-b-clause-apart c = λ differ v file is_a is_b.
    c.if-a-b.true (same_last v (one_in c.one_recording_with_disk_law.ensures v) (either_in c.file_or_fault_law.ensures c.file_or_fault_with_disk_law.ensures v) file c.args.a.now c.args.b.now is_a is_b)

pub returns-in-Holds-finding-clause-apart : goal.returns-in-Holds-finding-clause-apart
returns-in-Holds-finding-clause-apart c = λ differ v file is_a is_b.
    unlike _ _ c.ne.result c.ne.ensures differ (held_line v (one_in c.one_recording_with_disk_law.ensures v) file c.args.a.now c.args.b.now is_a is_b c.in-Holds.is c.in-Holds-finding.is)

pub returns-in-Refused-finding-clause-apart : goal.returns-in-Refused-finding-clause-apart
returns-in-Refused-finding-clause-apart c = λ differ v file is_a is_b.
    both_refused v (one_in c.one_recording_with_disk_law.ensures v) (either_in c.file_or_fault_law.ensures c.file_or_fault_with_disk_law.ensures v) file c.args.b.now c.args.a.now is_b is_a c.in-Refused-finding.is (λ e. absurd (holds_alone (sym c.in-Holds.is ∙ e)))

pub returns-in_default-clause-apart : goal.returns-in_default-clause-apart
returns-in_default-clause-apart c = λ differ v file is_a is_b.
    both_refused v (one_in c.one_recording_with_disk_law.ensures v) (either_in c.file_or_fault_law.ensures c.file_or_fault_with_disk_law.ensures v) file c.args.a.now c.args.b.now is_a is_b c.in-Refused.is c.in_default.not-Refused
