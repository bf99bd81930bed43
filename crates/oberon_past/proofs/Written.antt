-- What writes a part where a search for its writes finds a hit.
use Rattle.std.proofs.Common.{ℕ, zero, suc, List, arith}
use Rattle.risc_model.specs.declared.event.Event.{Event}
use Rattle.risc_search.proofs.ClauseLemmas.{first-holds}
use Rattle.risc_search.specs.declared.condition.Condition.TheVariants.{Takes}
use Rattle.risc_search.specs.Condition.{HasInput}
use Rattle.risc_search.specs.Search.{IsMet}
use Rattle.risc_search.specs.Step.{Step}
use Rattle.oberon_past.specs.Writes.{HasWriter, alone, clause_of, clauses}
use Rattle.oberon_past.specs.declared.part.Part.{Part}
use Rattle.oberon_past.specs.declared.part.Part.TheVariants.{Register, Word, Leds, Inputs, Stop}
use Rattle.oberon_past.specs.declared.part.WriteKind.{WriteKind}

has-input : (number : ℕ) (es : List Event) (step : Step) (index : ℕ) → IsMet (alone (Takes number)) es step index → HasInput number es step.count
has-input number es step zero met = (first-holds (alone (Takes number)) es step 0 (clause_of (Takes number)) met.holds).1
has-input number es step (suc n) met = absurd (omega (arith, met.holds.inside))

-- an input writes a part that inputs set
pub has-writer : (part : Part) (kind : WriteKind) (es : List Event) (step : Step) (index : ℕ) → IsMet (clauses part kind) es step index → HasWriter part es step.count
has-writer (Register register mask) kind es step index met = tt
has-writer (Word number mask) kind es step index met = tt
has-writer Leds kind es step index met = tt
has-writer (Inputs number) kind es step index met = has-input number es step index met
has-writer Stop kind es step index met = tt
