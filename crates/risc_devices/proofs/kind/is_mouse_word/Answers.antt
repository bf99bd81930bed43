use Rattle.std.proofs.Common.{arith}
use Rattle.risc_devices.specs.InputKind.{is_mouse}
use Rattle.risc_devices.proofs.kind.is_mouse_word.Goals as goal

pub returns-then-word-2 : goal.returns-then-word-2
unfolding is_mouse
returns-then-word-2 c = search arith
