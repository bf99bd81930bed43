use Rattle.std.proofs.Common.{refl}
use Rattle.oberon_claims.proofs.laws.book_limits_law.Goals as goal

pub returns : goal.returns
returns c = record { jobs = refl; workers = refl }
