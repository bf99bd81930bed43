use Rattle.std.proofs.Common.{refl}
use Rattle.oberon_past.proofs.Drafts.{begun-draft}
use Rattle.oberon_past.proofs.past.Past.draft.Goals as goal

pub returns-clause-draft : goal.returns-clause-draft
returns-clause-draft c =
    begun-draft c.args.self.now.run _ c.in_ok-recording.ensures.starts c.in_ok-recording.ensures.begun refl c.new.ensures.items
