use Rattle.std.proofs.Common.{◌≡◌, map, take}
use Rattle.galluspa.specs.Raw.{raw_input}
use Rattle.galluspa.proofs.advance.events_of.Given as goal

abbrev pub invariant-loop-input : goal.invariant-loop-input
invariant-loop-input l = map raw_input l.events.items ≡ take l.input-index l.inputs
