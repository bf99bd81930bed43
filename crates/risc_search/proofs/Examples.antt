-- Worked examples of ranges of values, of joined conditions and of lists of hits, computed outright.
use Rattle.std.proofs.Common.{◌≡◌, [], ◌∷◌, List, true, false, refl, nat_le}
use Rattle.risc_core.specs.Arithmetic.{and_word}
use Rattle.risc_core.specs.Word.{from_bits_below}
use Rattle.risc_search.specs.declared.condition.Clause.{Clause}
use Rattle.risc_search.specs.declared.condition.Condition.TheVariants.{Sends, Stops}
use Rattle.risc_search.specs.Clauses.{begins}
use Rattle.risc_search.specs.Hits.{EndsAt}
use Rattle.risc_search.specs.Values.{steps_up}

-- the signed numbers from -10 to 10: 5 is one, and -11 is not
five : nat_le (steps_up 0xFFFFFFF6 5) (steps_up 0xFFFFFFF6 10) ≡ true
five = refl

less : nat_le (steps_up 0xFFFFFFF6 0xFFFFFFF5) (steps_up 0xFFFFFFF6 10) ≡ false
less = refl

-- all but 7, from 8 round to 6
seven : nat_le (steps_up 8 7) (steps_up 8 6) ≡ false
seven = refl

eight : nat_le (steps_up 8 0) (steps_up 8 6) ≡ true
eight = refl

-- one value alone: the greatest
alone : nat_le (steps_up 0xFFFFFFFF 0xFFFFFFFF) (steps_up 0xFFFFFFFF 0xFFFFFFFF) ≡ true
alone = refl

not_alone : nat_le (steps_up 0xFFFFFFFF 0) (steps_up 0xFFFFFFFF 0xFFFFFFFF) ≡ false
not_alone = refl

-- the byte of lane 1
lane : and_word 0x44332211 0xFF00 ≡ 0x2200
unfolding and_word from_bits_below
lane = refl

-- the first of three clauses is joined to the second: conditions begin at 0 and 2
abbrev three : List Clause
three = record { condition = Sends; joined = true } ∷ record { condition = Stops; joined = false } ∷ record { condition = Stops; joined = false } ∷ []

first : begins three 0 ≡ true
first = refl

second : begins three 1 ≡ false
second = refl

third : begins three 2 ≡ true
third = refl

-- a list ends at the count after its last hit
last : EndsAt (record { count = 3; condition = 0 } ∷ record { count = 7; condition = 1 } ∷ []) 8
last = refl
