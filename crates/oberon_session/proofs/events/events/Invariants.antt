use Rattle.std.proofs.Common.{◌≡◌, map, take}
use Rattle.std.specs.List.{All}
use Rattle.oberon_session.specs.inner.Drafts.{input_view}
use Rattle.oberon_session.specs.inner.Tested.{InputFits}
use Rattle.oberon_session.specs.Session.{numbers_of_event}
use Rattle.oberon_session.proofs.events.events.Given as goal

abbrev pub invariant-loop-draft : goal.invariant-loop-draft
invariant-loop-draft l =
    (map numbers_of_event l.events.items ≡ map input_view (take l.draft-index l.drafts))
    × All InputFits (map input_view (take l.draft-index l.drafts))
