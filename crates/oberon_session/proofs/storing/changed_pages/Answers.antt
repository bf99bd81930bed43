use Rattle.std.proofs.Common.{◌∙◌, ap₂}
use Rattle.oberon_session.proofs.PagesStored.{changes}
use Rattle.oberon_session.specs.Stored.{changed_pages}
use Rattle.oberon_session.proofs.storing.changed_pages.Goals as goal

pub returns : goal.returns
returns c =
    changes _ _ c.in_ok-delta.delta.changed.items c.in_ok-delta.ensures.delta
    ∙ ap₂ changed_pages (c.in_ok-write_words.ensures.base ∙ c.in_ok-memory.ensures.base) c.in_ok-write_words.ensures.words
