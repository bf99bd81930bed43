use Rattle.std.proofs.Common.{◌≡◌, List, length, map, option_map}
use Rattle.serde_json.specs.Data.{Data}
use Rattle.oberon_session.specs.Draft.{input_of}
use Rattle.oberon_session.specs.Shape.{each}
use Rattle.oberon_session.specs.inner.Drafts.{input_view}
use Rattle.oberon_session.proofs.Taking.{HasTaken}
use Rattle.oberon_session.proofs.input.inputs_inside.Given as goal

abbrev pub invariant-items : goal.invariant-items
invariant-items l =
    (taken : List Data) × HasTaken l.depth l.initial.reader taken l.reader × (option_map (λ v. map input_view v.items) l.found ≡ each input_of taken)

abbrev pub decreases-items : goal.decreases-items
decreases-items l = length l.reader
