use Rattle.std.proofs.Common.{refl}
use Rattle.oberon_session.proofs.laws.piece_law.Goals as goal

pub returns : goal.returns
returns c = refl
