-- The conditions of a search as a caller's numbers (this project's own choice).
use Rattle.std.specs.Prelude.{ℕ, ◌≡◌, ◌≤◌, ◌<◌, ◌+◌, ◌/◌, ◌%◌, ◌^◌, ◌==◌, ◌&&◌, ◌||◌, not, nat_lt, nat_le, if◌then◌else◌, Bool, false}
use Rattle.std.specs.Prelude.{List, All, Option, None, Some, IsSome, length, map, option_map, slice_get}
use Rattle.risc_search.specs.declared.condition.Clause.{Clause}
use Rattle.risc_search.specs.declared.condition.Condition.{Condition}
use Rattle.risc_search.specs.declared.condition.Condition.TheVariants.{Counter, Store, Change, Load, Becomes}
use Rattle.risc_search.specs.declared.condition.Condition.TheVariants.{Sends, SendsByte, Takes, Stops, Writes, WritesFlags, Alters, Is, IsWord}
use Rattle.risc_search.specs.declared.hit.Hit.{Hit}
use Rattle.risc_search.specs.declared.register.Register.{Register}
use Rattle.risc_search.specs.declared.register.Register.TheVariants.{Numbered, Auxiliary, Flags}
use Rattle.risc_search.specs.declared.span.Span.{Span}
use Rattle.risc_search.specs.declared.values.Values.{Values}
use Rattle.galluspa.specs.declared.conditions.RawCondition.{RawCondition}
use Rattle.galluspa.specs.declared.conditions.RawHit.{RawHit}

-- the range of a condition, if it is not empty, and ends at `most` or before
abbrev pub span_of : ℕ → RawCondition → Option Span
span_of most c = if nat_lt c.from c.end && nat_le c.end most then Some (record { from = c.from; end = c.end }) else None

-- a register has become a value: 0 to 15 are R0 to R15, 16 is H, and 17 the flags, whose values are below 16
abbrev pub becomes : RawCondition → Option Condition
becomes c =
    if nat_lt c.from 16 then Some (Becomes (Numbered c.from) c.value)
    else if c.from == 16 then Some (Becomes Auxiliary c.value)
    else if c.from == 17 && nat_lt c.value 16 then Some (Becomes Flags c.value)
    else None

-- a bit that the mask names has changed, of a byte in the range. A mask that names no bit is out of its range
abbrev pub changes : RawCondition → Option Condition
changes c = if c.value == 0 then None else option_map (λ bytes. Change bytes c.value) (span_of (2 ^ 20) c)

-- the register of a number: 0 to 15 are R0 to R15, 16 is H, and 17 the flags
abbrev pub register_of : ℕ → Option Register
register_of number =
    if nat_lt number 16 then Some (Numbered number) else if number == 16 then Some Auxiliary else if number == 17 then Some Flags else None

-- a register is written
abbrev pub writes : RawCondition → Option Condition
writes c = option_map (λ register. Writes register) (register_of c.from)

-- a bit that the mask names of a register has changed. A mask that names no bit is out of its range, and so is one of the flags that is
-- not below 16
abbrev pub alters : RawCondition → Option Condition
alters c =
    if c.value == 0 || (c.from == 17 && not (nat_lt c.value 16)) then None
    else option_map (λ register. Alters register c.value) (register_of c.from)

-- the values from the least up to the most
abbrev pub values_of : RawCondition → Values
values_of c = record { least = c.least; most = c.most }

-- a register has one of these values. Those of the flags are below 16
abbrev pub is_value : RawCondition → Option Condition
is_value c =
    if c.from == 17 && (not (nat_lt c.least 16) || not (nat_lt c.most 16)) then None
    else option_map (λ register. Is register (values_of c)) (register_of c.from)

-- the bits of a word of RAM that the mask names have one of these values. The word has an address, which 4 divides; a mask that names no
-- bit is out of its range
abbrev pub is_word : RawCondition → Option Condition
is_word c =
    if nat_lt c.from (2 ^ 20) && c.from % 4 == 0 && not (c.value == 0) then Some (IsWord (c.from / 4) c.value (values_of c)) else None

-- the number of a condition's kind
abbrev pub kind_of : RawCondition → ℕ
kind_of c = c.kind % 2 ^ 31

-- a condition is joined to the next one: 2 ^ 31 is added to its kind
abbrev pub is_joined : RawCondition → Bool
is_joined c = nat_le (2 ^ 31) c.kind

-- the condition of a caller's numbers, if they are in their ranges. Program counters are below 2^22, addresses below 2^24, and
-- those of RAM below 2^20
unfoldable pub condition_of : RawCondition → Option Condition
condition_of c =
    if kind_of c == 1 then option_map (λ words. Counter words) (span_of (2 ^ 22) c)
    else if kind_of c == 2 then option_map (λ bytes. Store bytes) (span_of (2 ^ 24) c)
    else if kind_of c == 3 then changes c
    else if kind_of c == 4 then option_map (λ bytes. Load bytes) (span_of (2 ^ 24) c)
    else if kind_of c == 5 then becomes c
    else if kind_of c == 6 then Some Sends
    else if kind_of c == 7 then (if nat_lt c.value (2 ^ 8) then Some (SendsByte c.value) else None)
    else if kind_of c == 8 then (if nat_le 1 c.value && nat_le c.value 6 then Some (Takes c.value) else None)
    else if kind_of c == 9 then Some Stops
    else if kind_of c == 10 then writes c
    else if kind_of c == 11 then is_value c
    else if kind_of c == 12 then is_word c
    else if kind_of c == 13 then alters c
    else if kind_of c == 14 then (if nat_le 1 c.value && nat_lt c.value (2 ^ 4) then Some (WritesFlags c.value) else None)
    else None

-- the same with whether it is joined
abbrev pub clause_of : RawCondition → Option Clause
clause_of c = option_map (λ condition. record { condition = condition; joined = is_joined c }) (condition_of c)

-- by which conditions of a list are joined to the next one: at most four are joined with one another, and the last is not. So of each
-- condition and the three after it one is in the list and not joined
abbrev pub AreJoinable : List Bool → Type 0
AreJoinable joined =
    (index : ℕ) → index < length joined → (k : ℕ) × (index ≤ k) × (k < index + 4) × (slice_get joined k ≡ Some false)

-- each condition of a caller is in its range
abbrev pub AreEachConditions : List RawCondition → Type 0
AreEachConditions raws = All (λ c. IsSome (condition_of c)) raws

-- and they can be joined as they are
abbrev pub AreConditions : List RawCondition → Type 0
AreConditions raws = AreEachConditions raws × AreJoinable (map is_joined raws)

-- a caller's conditions are these clauses
abbrev pub AreClauses : List RawCondition → List Clause → Type 0
AreClauses raws clauses = map clause_of raws ≡ map (λ c. Some c) clauses

-- what is found, as it is written to a caller
abbrev pub hit_of : RawHit → Hit
hit_of hit = record { count = hit.count; condition = hit.condition }
