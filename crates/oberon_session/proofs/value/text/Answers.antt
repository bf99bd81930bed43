use Rattle.oberon_session.proofs.Taking.{not-text, takes-weaker}
use Rattle.oberon_session.proofs.value.text.Goals as goal

pub returns-in_default : goal.returns-in_default
returns-in_default c =
    takes-weaker _ _ _ _ _ (λ json found h. rw h.1 (not-text json _ h.0 c.in_default.not-Text))
    (c.pass_other.ensures c.args.depth c.args.reader.now c.in_ok-head.ensures.ok)
