use Rattle.std.proofs.Common.{arith}
use Rattle.oberon_check.proofs.part.Part.letters.Goals as goal

pub returns-in-Leds : goal.returns-in-Leds
returns-in-Leds c = search arith
