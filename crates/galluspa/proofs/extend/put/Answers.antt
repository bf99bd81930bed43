use Rattle.std.proofs.Common.{arith}
use Rattle.galluspa.proofs.extend.put.Goals as goal

pub returns-then-bytes-out-clause-no_room : goal.returns-then-bytes-out-clause-no_room
returns-then-bytes-out-clause-no_room c = search arith
