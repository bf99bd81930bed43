use Rattle.oberon_past.proofs.Drafts.{same-draft}
use Rattle.oberon_past.proofs.past.Past.record.Goals as goal

pub returns-then-not-branch-clause-drafted : goal.returns-then-not-branch-clause-drafted
returns-then-not-branch-clause-drafted c = same-draft c.args.self.now.run c.args.draft c.args.count c.in_default.ensures.on
