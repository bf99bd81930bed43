-- What a machine keeps over the calls of a search.
use Rattle.std.proofs.Common.{◌∙◌, refl}
use Rattle.risc_machine.specs.Allocation.{Held, Keeps}

pub keeps-all : (m : Held) → Keeps m m
keeps-all m = record { owned = λ page h. h; base = refl }

pub keeps-on : (a b c : Held) → Keeps a b → Keeps b c → Keeps a c
keeps-on a b c first then = record { owned = λ page h. then.owned page (first.owned page h); base = then.base ∙ first.base }
