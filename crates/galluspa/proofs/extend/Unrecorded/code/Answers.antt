use Rattle.std.proofs.Common.{arith}
use Rattle.galluspa.proofs.extend.Unrecorded.code.Goals as goal

pub returns-in-Pages-clause-code : goal.returns-in-Pages-clause-code
returns-in-Pages-clause-code c = search arith
