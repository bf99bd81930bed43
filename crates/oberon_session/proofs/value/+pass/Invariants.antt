use Rattle.std.proofs.Common.{◌+◌, ◌*◌, List, ℕ, length}
use Rattle.serde_json.specs.Data.{Data, Members}
use Rattle.oberon_session.specs.declared.head.Head.{Head}
use Rattle.oberon_session.specs.declared.head.Head.TheVariants as head
use Rattle.oberon_session.proofs.Taking.{HasFound, HasTaken}
use Rattle.oberon_session.proofs.value.+pass.Given as goal

abbrev pub rank : Head → ℕ
rank (head.Object inside) = 3 * inside + 4
rank (head.Array inside) = 3 * inside + 4
rank (head.Text text) = 0
rank (head.Number n) = 0
rank head.Other = 0

abbrev pub decreases-finish : goal.decreases-finish
decreases-finish l = rank l.head

abbrev pub decreases-pass : goal.decreases-pass
decreases-pass l = 3 * l.depth + 2

abbrev pub decreases-pass_items : goal.decreases-pass_items
decreases-pass_items l = 3 * l.depth + 3

abbrev pub decreases-pass_members : goal.decreases-pass_members
decreases-pass_members l = 3 * l.depth + 3

abbrev pub invariant-pass_items-items : goal.invariant-pass_items-items
invariant-pass_items-items l = (taken : List Data) × HasTaken l.depth l.initial.reader taken l.reader

abbrev pub decreases-pass_items-items : goal.decreases-pass_items-items
decreases-pass_items-items l = length l.reader

abbrev pub invariant-pass_members-members : goal.invariant-pass_members-members
invariant-pass_members-members l = (found : Members) × HasFound l.depth l.initial.reader found l.reader

abbrev pub decreases-pass_members-members : goal.decreases-pass_members-members
decreases-pass_members-members l = length l.reader
