use Rattle.std.proofs.Common.{◌≡◌, length}
use Rattle.serde_json.specs.Data.{Members}
use Rattle.oberon_session.specs.inner.Found.{start_found}
use Rattle.oberon_session.specs.inner.FoundViews.{start_found_view}
use Rattle.oberon_session.proofs.Taking.{HasFound}
use Rattle.oberon_session.proofs.start.StartMembers.take_all.Given as goal

abbrev pub invariant-members : goal.invariant-members
invariant-members l = (members : Members) × HasFound l.depth l.initial.reader members l.reader × (start_found_view l.self ≡ start_found members)

abbrev pub decreases-members : goal.decreases-members
decreases-members l = length l.reader
