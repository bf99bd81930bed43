-- What a step does: its access, and the inputs that it takes.
use Rattle.std.proofs.Common.{◌==◌, ℤ, pos, ◌+ℤ◌, if◌then◌else◌, ◌≡◌, ◌≢◌, ◌∙◌, ◌+◌, ◌-◌, ◌*◌, ◌/◌, ◌%◌, ◌^◌, ◌<◌, ◌≤◌, ◌++◌, ℕ, suc, zero, Bool, true, false, List, [], ◌∷◌, Option, None, Some, length, length-drop, length-take, get_or, take, drop, map, inl, inr, ap, sym, refl, subst, arith}
use Rattle.std.specs.Prelude.{◌&&◌, IfSome, slice_index, nat_lt, nat_le}
use Rattle.std.proofs.lemmas.List.{append-nil, take-append-drop, get_or-drop, get_or-take, drop-map, take-map}
use Rattle.std.proofs.lemmas.List.Elements.{filter-append}
use Rattle.std.proofs.lemmas.Bool.{and_parts, cases_eq, eq-eqb, eqb-true, le-ltb, leb-true, lt-ltb, ltb-false, ltb-true, ne_eqb}
use Rattle.std.specs.List.{filter}
use Rattle.risc_core.specs.declared.address.Place.{Place}
use Rattle.risc_core.specs.declared.address.Place.TheVariants.{Ram, Device, Nowhere}
use Rattle.risc_core.specs.declared.instruction.Instr.{Instr}
use Rattle.risc_core.specs.declared.instruction.Instr.TheVariants.{Reg, Imm, Load, Store, BranchReg, BranchOff}
use Rattle.risc_core.specs.Instruction.{instruction_of}
use Rattle.risc_core.specs.Word.{field}
use Rattle.risc_core.specs.Place.{IsInside, address_of, lane_of, target_of}
use Rattle.risc_core.proofs.LawLemmas.{floor_mod-below}
use Rattle.risc_model.specs.declared.event.Event.{Event}
use Rattle.risc_devices.specs.DeviceWords.{read_value}
use Rattle.risc_model.specs.InputOrder.{IsNextAt, count_at}
use Rattle.risc_model.specs.MachineState.{CpuState, State}
use Rattle.risc_model.specs.Replay.{fed, feed}
use Rattle.risc_search.specs.declared.access.Access.{Access}
use Rattle.risc_search.specs.Access.{access_at, access_to, accessed, next_access, part_of_word}
use Rattle.risc_search.specs.declared.effect.Accessed.{Accessed}
use Rattle.risc_search.specs.declared.effect.Effect.{Effect}
use Rattle.risc_search.specs.Effects.{IsEffect, accessed_by, accessed_in, loaded, next_word, stored, taken_at, word_with}
use Rattle.risc_search.proofs.DueLemmas.{index-order}
use Rattle.risc_search.specs.inner.Accesses.{IsAccess, IsCount, IsReachable}

-- ---- which accesses there are

part-in_ram : (stores byte : Bool) (word lane : ℕ) → word < 2 ^ 18 → lane < 4 → IsAccess (part_of_word stores byte (4 * word) lane)
part-in_ram stores true word lane inside low = record { reachable = inl (omega arith); count = inl refl; aligned = λ four. absurd (omega (arith, four)) }
part-in_ram stores false word lane inside low = record { reachable = inl (omega arith); count = inr refl; aligned = λ four. omega arith }

part-of_device : (stores byte : Bool) (word lane : ℕ) → word < 16 → lane < 4 → IsAccess (part_of_word stores byte (2 ^ 24 - 64 + 4 * word) lane)
part-of_device stores true word lane inside low = record { reachable = inr (omega arith, omega arith); count = inl refl; aligned = λ four. absurd (omega (arith, four)) }
part-of_device stores false word lane inside low = record { reachable = inr (omega arith, omega arith); count = inr refl; aligned = λ four. omega arith }

to-is : (stores byte : Bool) (place : Place) (lane : ℕ) (access : Access) → IsInside place → lane < 4 → access_to stores byte place lane ≡ Some access → IsAccess access
unfolding access_to
to-is stores byte (Ram word) lane access inside low is =
    let same : part_of_word stores byte (4 * word) lane ≡ access = cc in
    subst IsAccess same (part-in_ram stores byte word lane inside low)
to-is stores byte (Device word) lane access inside low is =
    let same : part_of_word stores byte (2 ^ 24 - 64 + 4 * word) lane ≡ access = cc in
    subst IsAccess same (part-of_device stores byte word lane inside low)
to-is stores byte Nowhere lane access inside low is = cc

by-device : (address : ℕ) → address < 2 ^ 24 → 2 ^ 20 ≤ address → (b : Bool) → nat_le (2 ^ 24 - 64) address ≡ b → IsInside (if b then Device ((address - (2 ^ 24 - 64)) / 4) else Nowhere)
by-device address below high true is = let least = leb-true (2 ^ 24 - 64) address is in omega arith
by-device address below high false is = tt

by-ram : (address : ℕ) → address < 2 ^ 24 → (b : Bool) → nat_lt address (2 ^ 20) ≡ b
    → IsInside (if b then Ram (address / 4) else if nat_le (2 ^ 24 - 64) address then Device ((address - (2 ^ 24 - 64)) / 4) else Nowhere)
by-ram address below true is = let low = ltb-true address (2 ^ 20) is in omega arith
by-ram address below false is = by-device address below (ltb-false address (2 ^ 20) is) (nat_le (2 ^ 24 - 64) address) refl

target-inside : (address : ℕ) → address < 2 ^ 24 → IsInside (target_of address)
unfolding target_of
target-inside address below = by-ram address below (nat_lt address (2 ^ 20)) refl

lane-below : (address : ℕ) → lane_of address < 4
unfolding lane_of
lane-below address = omega arith

address-below : (base : ℕ) (off : ℤ) → address_of base off < 2 ^ 24
unfolding address_of
address-below base off = floor_mod-below (pos base +ℤ off) (2 ^ 24) (omega arith)

at-is : (stores byte : Bool) (base : ℕ) (off : ℤ) (access : Access) → access_at stores byte (address_of base off) ≡ Some access → IsAccess access
at-is stores byte base off access is =
    let address : ℕ = address_of base off in
    to-is stores byte (target_of address) (lane_of address) access (target-inside address (address-below base off)) (lane-below address) is

-- what an instruction accesses are bytes that there are
pub access-is : (i : Instr) (r : List ℕ) (access : Access) → accessed i r ≡ Some access → IsAccess access
unfolding accessed
access-is (Reg op u v a b c) r access is = cc
access-is (Imm op u v a b im) r access is = cc
access-is (Load byte a b off) r access is = at-is false byte (slice_index r b) off access is
access-is (Store byte a b off) r access is = at-is true byte (slice_index r b) off access is
access-is (BranchReg cond link c) r access is = cc
access-is (BranchOff cond link off) r access is = cc

-- ---- the inputs of a count

none-taken : (es : List Event) (n : ℕ) → ((k : ℕ) → k < length es → count_at es k ≢ n) → filter (λ (e : Event). e.count == n) es ≡ []
none-taken [] n others = refl
none-taken (e ∷ es) n others = rw (ne_eqb e.count n (others 0 (omega arith))) (none-taken es n (λ k h. others (suc k) (omega arith)))

all-taken : (es : List Event) (n : ℕ) → ((k : ℕ) → k < length es → count_at es k ≡ n) → filter (λ (e : Event). e.count == n) es ≡ es
all-taken [] n here = refl
all-taken (e ∷ es) n here = rw (eq-eqb e.count n (here 0 (omega arith))) (ap (λ (xs : List Event). e ∷ xs) (all-taken es n (λ k h. here (suc k) (omega arith))))

count-dropped : (es : List Event) (first k : ℕ) → count_at (drop first es) k ≡ count_at es (first + k)
count-dropped es first k =
    let counts : Event → ℕ = λ (e : Event). e.count in
    ap (λ (ns : List ℕ). get_or ns k 0) (sym (drop-map counts first es)) ∙ get_or-drop first (map counts es) k 0

count-within : (es : List Event) (n k : ℕ) → k < n → count_at (take n es) k ≡ count_at es k
count-within es n k inside =
    let counts : Event → ℕ = λ (e : Event). e.count in
    ap (λ (ns : List ℕ). get_or ns k 0) (sym (take-map counts n es)) ∙ get_or-take n (map counts es) k 0 inside

-- the inputs from the first of a count up to the first of a later one are those of the count
pub inputs-taken : (es : List Event) (next end n : ℕ) → IsNextAt es next n → IsNextAt es end (n + 1) → take (end - next) (drop next es) ≡ filter (λ (e : Event). e.count == n) es
inputs-taken es next end n first last =
    let p : Event → Bool = λ (e : Event). e.count == n in
    let before : List Event = take next es in
    let rest : List Event = drop next es in
    let mid : List Event = take (end - next) rest in
    let after : List Event = drop (end - next) rest in
    let long : length rest ≡ length es - next = length-drop next es in
    let forward : next ≤ end = index-order es next end n (n + 1) first last (omega arith) in
    let none_before : filter p before ≡ [] = none-taken before n (λ k h same.
    let low : k < next = omega (arith, h, length-take next es) in
    let b : count_at es k < n = first.before k low in
    let moved : count_at before k ≡ count_at es k = count-within es next k low in
    omega arith) in
    let all_mid : filter p mid ≡ mid = all-taken mid n (λ k h.
    let low : k < end - next = omega (arith, h, length-take (end - next) rest) in
    let inside : next + k < length es = omega (arith, low, last.inside) in
    let moved : count_at mid k ≡ count_at es (next + k) = count-within rest (end - next) k low ∙ count-dropped es next k in
    let least : n ≤ count_at es (next + k) = first.rest (next + k) (omega arith) inside in
    let most : count_at es (next + k) < n + 1 = last.before (next + k) (omega arith) in
    omega arith) in
    let none_after : filter p after ≡ [] = none-taken after n (λ k h same.
    let far : length after ≡ length rest - (end - next) = length-drop (end - next) rest in
    let inside : end + k < length es = omega arith in
    let same_place : next + (end - next + k) ≡ end + k = omega arith in
    let moved : count_at after k ≡ count_at es (end + k) = count-dropped rest (end - next) k ∙ count-dropped es next (end - next + k) ∙ ap (λ (m : ℕ). count_at es m) same_place in
    let later : n + 1 ≤ count_at es (end + k) = last.rest (end + k) (omega arith) inside in
    omega arith) in
    sym (ap (filter p) (sym (take-append-drop next es))
    ∙ filter-append p before rest
    ∙ ap (λ (xs : List Event). xs ++ filter p rest) none_before
    ∙ ap (filter p) (sym (take-append-drop (end - next) rest))
    ∙ filter-append p mid after
    ∙ ap (λ (xs : List Event). xs ++ filter p after) all_mid
    ∙ ap (λ (xs : List Event). mid ++ xs) none_after
    ∙ append-nil mid)

-- ---- the value of an access

-- a running machine takes the inputs of a count
pub feed-running : (es : List Event) (n : ℕ) (s : State) → s.cpu.stop ≡ 0 → feed es n s ≡ record s { devices = fed es n s.devices }
unfolding feed
feed-running es n s running = rw (eq-eqb s.cpu.stop 0 running) refl

pub word-in_ram : (es : List Event) (n : ℕ) (s : State) (address value : ℕ) → s.cpu.stop ≡ 0 → address < 2 ^ 20 → value ≡ slice_index s.words (address / 4) → value ≡ word_with (feed es n s) address
unfolding word_with
word-in_ram es n s address value running low is = rw (feed-running es n s running) (rw (lt-ltb address (2 ^ 20) low) is)

pub word-of_device : (es : List Event) (n : ℕ) (s : State) (address value : ℕ) → s.cpu.stop ≡ 0 → 2 ^ 20 ≤ address → value ≡ read_value (fed es n s.devices) ((address - (2 ^ 24 - 64)) / 4) → value ≡ word_with (feed es n s) address
unfolding word_with
word-of_device es n s address value running high is = rw (feed-running es n s running) (rw (le-ltb address (2 ^ 20) high) is)

-- the value that an access leaves: a load what was there
pub left-loaded : (s : State) (access : Access) (old : ℕ) → access.stores ≡ false → old ≡ loaded s access → record { access = access; old = old; new = old } ≡ accessed_in s access
left-loaded s access old loads is =
    let new : old ≡ (if access.stores then stored s access else loaded s access) = rw loads is in
    λ i. record { access = access; old = is i; new = new i }

-- .. and a store so much of its register
pub left-stored : (es : List Event) (n : ℕ) (s : State) (access : Access) (old new register : ℕ) → s.cpu.stop ≡ 0 → access.stores ≡ true → old ≡ loaded (feed es n s) access
    → register ≡ slice_index s.cpu.r (field (slice_index s.words s.cpu.pc) 24 4) → new ≡ register % 2 ^ (8 * access.count)
    → record { access = access; old = old; new = new } ≡ accessed_in (feed es n s) access
left-stored es n s access old new register running stores is named cut =
    let own : stored (feed es n s) access ≡ slice_index s.cpu.r (field (slice_index s.words s.cpu.pc) 24 4) % 2 ^ (8 * access.count) =
    ap (λ (t : State). stored t access) (feed-running es n s running) in
    let put : new ≡ stored (feed es n s) access = cut ∙ ap (λ (v : ℕ). v % 2 ^ (8 * access.count)) named ∙ sym own in
    let left : new ≡ (if access.stores then stored (feed es n s) access else loaded (feed es n s) access) = rw stores put in
    λ i. record { access = access; old = is i; new = left i }

given : (fetched : Bool) (there word : ℕ) → (if fetched then Some there else None) ≡ Some word → (fetched ≡ true) × (there ≡ word)
given true there word is = (refl, cc)
given false there word is = cc

not-given : (fetched : Bool) (there : ℕ) (access : Option Access) → (if fetched then Some there else None) ≡ None → (if fetched then access else None) ≡ None
not-given true there access is = cc
not-given false there access is = refl

-- without a word nothing is accessed
pub no-access : (cpu : CpuState) (words : List ℕ) → next_word cpu words ≡ None → next_access cpu words ≡ None
unfolding next_word next_access
no-access cpu words none = not-given (cpu.stop == 0 && nat_lt cpu.pc (2 ^ 18)) (slice_index words cpu.pc) (accessed (instruction_of (slice_index words cpu.pc)) cpu.r) none

-- with one the machine runs, and its instruction accesses what it does
pub record IsNext (cpu : CpuState) (words : List ℕ) (word : ℕ) : Type 0 where
  pub running : cpu.stop ≡ 0
  pub word_is : word ≡ slice_index words cpu.pc
  pub access_is : next_access cpu words ≡ accessed (instruction_of word) cpu.r

pub is-next : (cpu : CpuState) (words : List ℕ) (word : ℕ) → next_word cpu words ≡ Some word → IsNext cpu words word
unfolding next_word next_access
is-next cpu words word some =
    let fetched : Bool = cpu.stop == 0 && nat_lt cpu.pc (2 ^ 18) in
    let is = given fetched (slice_index words cpu.pc) word some in
    let runs = and_parts (cpu.stop == 0) (nat_lt cpu.pc (2 ^ 18)) is.0 in
    record {
      running = eqb-true cpu.stop 0 runs.0;
      word_is = sym is.1;
      access_is =
          ap (λ (b : Bool). if b then accessed (instruction_of (slice_index words cpu.pc)) cpu.r else None) is.0
          ∙ ap (λ (w : ℕ). accessed (instruction_of w) cpu.r) is.1;
    }

-- the inputs that a machine takes, running or stopped
pub inputs-of : (es : List Event) (next end n count : ℕ) (s : State) → IsNextAt es next n → IsNextAt es end (n + 1) → (s.cpu.stop ≡ 0 → count ≡ end - next) → (s.cpu.stop ≢ 0 → count ≡ 0)
    → take count (drop next es) ≡ taken_at es n s
inputs-of es next end n count s first last running stopped = elim (cases_eq s.cpu.stop 0) [
  | inl runs ↦
      rw (eq-eqb s.cpu.stop 0 runs) (ap (λ (m : ℕ). take m (drop next es)) (running runs) ∙ inputs-taken es next end n first last)
  | inr stops ↦
      rw (ne_eqb s.cpu.stop 0 stops) (ap (λ (m : ℕ). take m (drop next es)) (stopped stops))
]

-- ---- how many bytes an effect accesses

chosen : (b : Bool) (o : Option Access) (access : Access) → (if b then o else None) ≡ Some access → o ≡ Some access
chosen true o access is = is
chosen false o access is = cc

next-is : (cpu : CpuState) (words : List ℕ) (access : Access) → next_access cpu words ≡ Some access → IsAccess access
unfolding next_access
next-is cpu words access is =
    let i : Instr = instruction_of (slice_index words cpu.pc) in
    access-is i cpu.r access (chosen (cpu.stop == 0 && nat_lt cpu.pc (2 ^ 18)) (accessed i cpu.r) access is)

count-of : (t : State) (found : Option Access) (e : Option Accessed) → e ≡ accessed_by t found → ((access : Access) → found ≡ Some access → IsAccess access)
    → IfSome e (λ a. IsCount a.access.count)
count-of t None e is each = rw is tt
count-of t (Some access) e is each = rw is (each access refl).count

-- one byte or four
pub effect-count : (effect : Effect) (es : List Event) (n : ℕ) (s : State) → IsEffect effect es n s → IfSome effect.accessed (λ a. IsCount a.access.count)
effect-count effect es n s is = count-of (feed es n s) (next_access s.cpu s.words) effect.accessed is.accessed_is (next-is s.cpu s.words)
