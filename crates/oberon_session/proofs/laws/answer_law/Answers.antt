use Rattle.oberon_session.proofs.OneAnswers.{one-answer}
use Rattle.oberon_session.proofs.laws.answer_law.Goals as goal

pub returns : goal.returns
returns c = one-answer
