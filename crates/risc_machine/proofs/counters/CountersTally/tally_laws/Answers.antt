use Rattle.risc_machine.proofs.TallyLemmas.{counted-none, counted-over, counted-quiet, counted-rests}
use Rattle.risc_machine.proofs.counters.CountersTally.tally_laws.Goals as goal

pub returns-clause-rests : goal.returns-clause-rests
returns-clause-rests c = λ n s tally stopped. counted-rests n s tally stopped

pub returns-clause-begins : goal.returns-clause-begins
returns-clause-begins c = λ es from n s tally none. counted-none es from n s tally none

pub returns-clause-goes_on : goal.returns-clause-goes_on
returns-clause-goes_on c = λ es start at end g s m a b d low fed_now quiet later below before more. counted-quiet es start at end g s m a b d low fed_now quiet later below before more

pub returns-clause-over : goal.returns-clause-over
returns-clause-over c = λ es start at end s t a b low later reached stopped before. counted-over es start at end s t a b low later reached stopped before
