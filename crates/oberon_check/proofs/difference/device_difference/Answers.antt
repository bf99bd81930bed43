use Rattle.std.proofs.Common.{arith}
use Rattle.std.proofs.lemmas.Grind.{common_steps}
use Rattle.oberon_check.proofs.difference.device_difference.Goals as goal

pub returns-then-timer : goal.returns-then-timer
returns-then-timer c = search arith

pub returns-then-rate : goal.returns-then-rate
returns-then-rate c = search arith

pub returns-then-phase : goal.returns-then-phase
returns-then-phase c = search arith

pub returns-then-switches : goal.returns-then-switches
returns-then-switches c = search arith

pub returns-then-leds : goal.returns-then-leds
returns-then-leds c = search arith

pub returns-then-mouse : goal.returns-then-mouse
returns-then-mouse c = search arith

pub returns-then-serial : goal.returns-then-serial
returns-then-serial c = grind (arith, common_steps)

pub returns-then-ne : goal.returns-then-ne
returns-then-ne c = grind (arith, common_steps)

pub returns-then-disk : goal.returns-then-disk
returns-then-disk c = grind (arith, common_steps)

pub returns : goal.returns
returns c = grind (arith, common_steps)
