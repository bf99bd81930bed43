use Rattle.std.proofs.Common.{◌≡◌, length}
use Rattle.serde_json.specs.Data.{Members}
use Rattle.oberon_session.specs.inner.Found.{page_found}
use Rattle.oberon_session.specs.inner.FoundViews.{page_found_view}
use Rattle.oberon_session.proofs.Taking.{HasFound}
use Rattle.oberon_session.proofs.page.page_members.Given as goal

abbrev pub invariant-members : goal.invariant-members
invariant-members l = (members : Members) × HasFound l.depth l.initial.reader members l.reader × (page_found_view l.found ≡ page_found members)

abbrev pub decreases-members : goal.decreases-members
decreases-members l = length l.reader
