-- An instruction that concerns no condition meets none.
use Rattle.std.proofs.Common.{refl, ◌≡◌, ◌≢◌, ◌∙◌, ◌+◌, ◌-◌, ◌*◌, ◌/◌, ◌<◌, ◌≤◌, ◌^◌, ℕ, Bool, true, false, cond, List, [], length, get_or, get_or-set_other, slice_set, Option, None, Some, Result, Ok, Err, nat_eq, nat_lt, ap, sym, subst, inl, inr, arith}
use Rattle.std.specs.Prelude.{◌&&◌, IfSome, IsSome}
use Rattle.std.proofs.lemmas.Bool.{cases_eq, eq-eqb, false≢true, lt-ltb, ltb-true}
use Rattle.std.proofs.lemmas.Option.{none-some}
use Rattle.risc_core.specs.declared.address.Place.{Place}
use Rattle.risc_core.specs.declared.address.Place.TheVariants.{Ram, Device, Nowhere}
use Rattle.risc_core.specs.declared.arithmetic.AluOut.{AluOut}
use Rattle.risc_core.specs.declared.flags.Flags.{Flags as FlagsOf}
use Rattle.risc_core.specs.declared.instruction.Instr.{Instr}
use Rattle.risc_core.specs.declared.instruction.Instr.TheVariants.{Reg, Imm, Load, Store, BranchReg, BranchOff}
use Rattle.risc_core.specs.declared.stop.Stop.{Stop}
use Rattle.risc_core.specs.Branch.{is_taken}
use Rattle.risc_core.specs.Instruction.{instruction_of}
use Rattle.risc_core.specs.Place.{address_of, target_of}
use Rattle.risc_core.specs.Word.{bit}
use Rattle.risc_devices.specs.Ticks.{ticked}
use Rattle.risc_model.specs.declared.event.Event.{Event}
use Rattle.risc_model.specs.InputOrder.{count_at}
use Rattle.risc_model.specs.MachineState.{CpuState, State}
use Rattle.risc_model.specs.Exec.{branched, branched_if, counted, device_store, exec, fetched, load_at, operated, perform, store_at, with_outcome}
use Rattle.risc_model.specs.Replay.{feed, run_of}
use Rattle.risc_model.proofs.RunLemmas.{fed-others, feed-nothing}
use Rattle.risc_machine.specs.Watches.{AreUnwatched, IsUnwatched}
use Rattle.risc_search.specs.declared.access.Access.{Access}
use Rattle.risc_search.specs.declared.concerns.Concerns.{Concerns}
use Rattle.risc_search.specs.declared.condition.Clause.{Clause}
use Rattle.risc_search.specs.declared.condition.Condition.{Condition}
use Rattle.risc_search.specs.declared.condition.Condition.TheVariants.{Counter, Store as Stored, Change, Load as Loaded, Becomes, Sends, SendsByte, Takes, Stops, Writes, WritesFlags, Alters, Is, IsWord}
use Rattle.risc_search.specs.declared.register.Register.{Register}
use Rattle.risc_search.specs.declared.register.Register.TheVariants.{Numbered, Auxiliary, Flags}
use Rattle.risc_search.specs.declared.span.Span.{Span}
use Rattle.risc_search.specs.Access.{access_to, accessed, next_access, next_instruction}
use Rattle.risc_search.specs.Changes.{Differ}
use Rattle.risc_core.specs.Arithmetic.{and_word}
use Rattle.risc_search.specs.Condition.{Accesses, Holds, IsNextWriting, masked, register_value}
use Rattle.risc_core.specs.Written.{links, written_register}
use Rattle.risc_search.specs.Search.{NoneIn}
use Rattle.risc_search.specs.Span.{IsIn}
use Rattle.risc_search.specs.Step.{step_from}
use Rattle.risc_search.specs.inner.Concerns.{CoverAll, Covers, CoversRegister, Includes, IsAll, IsIgnored, IsNamed, written}
use Rattle.risc_search.specs.inner.Due.{IsQuiet}
use Rattle.risc_search.specs.inner.Observed.{word_stored}
use Rattle.risc_search.proofs.ClauseLemmas.{all-hold}
use Rattle.risc_search.proofs.IdleLemmas.{quiet-fewer, quiet-run}
use Rattle.risc_search.proofs.StoreLemmas.{step-alone}

-- ---- conditions that are covered stay covered

more-register : (new old : Concerns) (register : Register) → Includes new old → CoversRegister old register → CoversRegister new register
more-register new old (Numbered n) more (inl named) = inl (more.registers n named)
more-register new old (Numbered n) more (inr all) = inr (λ pc below. more.counters pc (all pc below))
more-register new old Auxiliary more all = λ pc below. more.counters pc (all pc below)
more-register new old Flags more all = λ pc below. more.counters pc (all pc below)

pub covers-more : (new old : Concerns) (condition : Condition) → Includes new old → Covers old condition → Covers new condition
covers-more new old (Counter words) more covers = λ n is. more.counters n (covers n is)
covers-more new old (Stored bytes) more covers = λ n is. more.stores n (covers n is)
covers-more new old (Change bytes mask) more covers = λ n m is same below. more.stores m (covers n m is same below)
covers-more new old (Loaded bytes) more covers = λ n is. more.loads n (covers n is)
covers-more new old (Becomes register value) more covers = more-register new old register more covers
covers-more new old Sends more covers = tt
covers-more new old (SendsByte byte) more covers = tt
covers-more new old (Takes kind) more covers = tt
covers-more new old Stops more covers = tt
covers-more new old (Writes register) more covers = more-register new old register more covers
covers-more new old (WritesFlags mask) more covers = more-register new old Flags more covers
covers-more new old (Alters register mask) more covers = more-register new old register more covers
covers-more new old (Is register values) more all = λ pc below. more.counters pc (all pc below)
covers-more new old (IsWord number mask values) more all = λ pc below. more.counters pc (all pc below)

-- ---- registers that an instruction does not write

other-register : (r : List ℕ) (a n value : ℕ) → (Some a ≡ Some n → ⊥) → get_or (slice_set r a value) n 0 ≡ get_or r n 0
other-register r a n value not = get_or-set_other r a n value 0 (λ same. not (ap (λ (m : ℕ). Some m) (sym same)))

outcome-keeps : (o : Result AluOut Stop) (a n : ℕ) (c : CpuState) → (Some a ≡ Some n → ⊥) → get_or (with_outcome a o c).r n 0 ≡ get_or c.r n 0
unfolding with_outcome
outcome-keeps (Ok out) a n c not = other-register c.r a n out.value not
outcome-keeps (Err stop) a n c not = refl

operated-keeps : (op : ℕ) (u imm v : Bool) (a b operand n : ℕ) (c : CpuState) → (Some a ≡ Some n → ⊥) → get_or (operated op u imm v a b operand c).r n 0 ≡ get_or c.r n 0
unfolding operated
operated-keeps op u imm v a b operand n c not = outcome-keeps _ a n c not

load-keeps : (p : Place) (lane : ℕ) (byte : Bool) (a n : ℕ) (s : State) → (Some a ≡ Some n → ⊥) → get_or (load_at p lane byte a s).cpu.r n 0 ≡ get_or s.cpu.r n 0
unfolding load_at
load-keeps (Ram word) lane byte a n s not = other-register s.cpu.r a n _ not
load-keeps (Device word) lane byte a n s not = other-register s.cpu.r a n _ not
load-keeps Nowhere lane byte a n s not = refl

store-keeps : (p : Place) (lane : ℕ) (byte : Bool) (a n : ℕ) (s : State) → get_or (store_at p lane byte a s).0.cpu.r n 0 ≡ get_or s.cpu.r n 0
unfolding store_at device_store
store-keeps (Ram word) lane byte a n s = refl
store-keeps (Device word) lane byte a n s = refl
store-keeps Nowhere lane byte a n s = refl

branch-keeps : (taken link : Bool) (to n : ℕ) (c : CpuState) → ((cond link (Some 15) None) ≡ Some n → ⊥) → get_or (branched_if taken link to c).r n 0 ≡ get_or c.r n 0
branch-keeps true true to n c not = other-register c.r 15 n _ not
branch-keeps true false to n c not = refl
branch-keeps false link to n c not = refl

branched-keeps : (number : ℕ) (link : Bool) (to n : ℕ) (c : CpuState) → ((cond link (Some 15) None) ≡ Some n → ⊥) → get_or (branched number link to c).r n 0 ≡ get_or c.r n 0
unfolding branched
branched-keeps number link to n c not = branch-keeps (is_taken number c.flags) link to n c not

performs-keeping : (i : Instr) (s : State) (n : ℕ) → (written i ≡ Some n → ⊥) → get_or (perform i s).0.cpu.r n 0 ≡ get_or s.cpu.r n 0
unfolding perform written
performs-keeping (Reg op u v a b c) s n not = operated-keeps op u false v a b _ n s.cpu not
performs-keeping (Imm op u v a b im) s n not = operated-keeps op u true v a b im n s.cpu not
performs-keeping (Load byte a b off) s n not = load-keeps _ _ byte a n s not
performs-keeping (Store byte a b off) s n not = store-keeps _ _ byte a n s
performs-keeping (BranchReg number link c) s n not = branched-keeps number link _ n s.cpu not
performs-keeping (BranchOff number link off) s n not = branched-keeps number link _ n s.cpu not

counted-if : (b : Bool) (o : State × Option ℕ) → (cond b (record o.0 { devices = ticked o.0.devices }, o.1) o).0.cpu ≡ o.0.cpu
counted-if true o = refl
counted-if false o = refl

counted-cpu : (o : State × Option ℕ) → (counted o).0.cpu ≡ o.0.cpu
unfolding counted
counted-cpu o = counted-if (nat_eq o.0.cpu.stop 0) o

-- a running machine before an instruction of RAM does it
exec-performs : (s : State) → s.cpu.stop ≡ 0 → s.cpu.pc < 2 ^ 18 → (exec s).0.cpu ≡ (perform (instruction_of (get_or s.words s.cpu.pc 0)) s).0.cpu
unfolding exec fetched
exec-performs s runs inside =
    let running : nat_eq s.cpu.stop 0 ≡ true = eq-eqb s.cpu.stop 0 runs in
    let low : nat_lt s.cpu.pc (2 ^ 18) ≡ true = lt-ltb s.cpu.pc (2 ^ 18) inside in
    rw running (rw low (counted-cpu (perform (instruction_of (get_or s.words s.cpu.pc 0)) s)))

-- and accesses what it accesses
access-there : (s : State) → s.cpu.stop ≡ 0 → s.cpu.pc < 2 ^ 18 → next_access s.cpu s.words ≡ accessed (instruction_of (get_or s.words s.cpu.pc 0)) s.cpu.r
unfolding next_access
access-there s runs inside =
    let running : nat_eq s.cpu.stop 0 ≡ true = eq-eqb s.cpu.stop 0 runs in
    let low : nat_lt s.cpu.pc (2 ^ 18) ≡ true = lt-ltb s.cpu.pc (2 ^ 18) inside in
    rw running (rw low refl)

-- ---- accesses

abbrev value_of : Option ℕ → ℕ
value_of None = 0
value_of (Some n) = n

same-value : (n m : ℕ) → Some n ≡ Some m → n ≡ m
same-value n m same = ap (λ (o : Option ℕ). value_of o) same

-- an access is to some bytes
abbrev count_of : Option Access → ℕ
count_of None = 1
count_of (Some access) = access.count

part-some : (p : Place) (stores byte : Bool) (lane : ℕ) → 0 < count_of (access_to stores byte p lane)
unfolding access_to
part-some (Ram word) stores true lane = omega arith
part-some (Ram word) stores false lane = omega arith
part-some (Device word) stores true lane = omega arith
part-some (Device word) stores false lane = omega arith
part-some Nowhere stores byte lane = omega arith

access-some : (i : Instr) (r : List ℕ) → 0 < count_of (accessed i r)
unfolding accessed
access-some (Reg op u v a b c) r = omega arith
access-some (Imm op u v a b im) r = omega arith
access-some (Load byte a b off) r = part-some (target_of (address_of (get_or r b 0) off)) false byte _
access-some (Store byte a b off) r = part-some (target_of (address_of (get_or r b 0) off)) true byte _
access-some (BranchReg number link c) r = omega arith
access-some (BranchOff number link off) r = omega arith

-- the word that an access stores to
stored-when : (stores low : Bool) (word n : ℕ) → cond (stores && low) (Some word) None ≡ Some n → (stores ≡ true) × (low ≡ true) × (word ≡ n)
stored-when true true word n is = (refl, refl, same-value word n is)
stored-when true false word n is = absurd (none-some n is)
stored-when false low word n is = absurd (none-some n is)

-- a store to a word accesses a byte of it
store-meets : (o : Option Access) (n : ℕ) (bytes : Span) → word_stored o ≡ Some n → 0 < count_of o → ((m : ℕ) → m / 4 ≡ n → m < 2 ^ 20 → IsIn bytes m) → Accesses true bytes o
store-meets None n bytes is some there = absurd (none-some n is)
store-meets (Some access) n bytes is some there =
    let parts = stored-when access.stores (nat_lt access.first (2 ^ 20)) (access.first / 4) n is in
    record {
      access = access;
      is = refl;
      direction = parts.0;
      meets = record {
        number = access.first;
        least = omega arith;
        below = omega (arith, some);
        is_in = there access.first parts.2 (ltb-true access.first (2 ^ 20) parts.1);
      };
    }

-- an instruction that changes a word stores to it
changed-stored : (o : Option ℕ) (word index : ℕ) (before after : List ℕ) → ((w : ℕ) → (o ≡ Some w → ⊥) → get_or after w 0 ≡ get_or before w 0) → (bit (get_or before word 0) index ≡ bit (get_or after word 0) index → ⊥) → o ≡ Some word
changed-stored None word index before after same differs = absurd (differs (ap (λ (w : ℕ). bit w index) (sym (same word (none-some word)))))
changed-stored (Some w) word index before after same differs = elim (cases_eq w word) [
  | inl is ↦ ap (λ (n : ℕ). Some n) is
  | inr other ↦ absurd (differs (ap (λ (n : ℕ). bit n index) (sym (same word (λ e. other (same-value w word e))))))
]

wider : (stores : Bool) (bytes more : Span) (o : Option Access) → ((n : ℕ) → IsIn bytes n → IsIn more n) → Accesses stores bytes o → Accesses stores more o
wider stores bytes more o covers accesses = record {
  access = accesses.access;
  is = accesses.is;
  direction = accesses.direction;
  meets = record {
    number = accesses.meets.number;
    least = accesses.meets.least;
    below = accesses.meets.below;
    is_in = covers accesses.meets.number accesses.meets.is_in;
  };
}

-- ---- a step of an instruction that is ignored

some-of : (o : Option ℕ) (P : ℕ → Type 0) (n : ℕ) → IfSome o P → o ≡ Some n → P n
some-of None P n holds is = absurd (none-some n is)
some-of (Some m) P n holds is = subst P (same-value m n is) holds

-- a register that is covered keeps its value
keeps-register : (concerns : Concerns) (s : State) (n : ℕ) → IsUnwatched (IsIgnored concerns) s → IsNamed concerns n ≡ true → get_or (exec s).0.cpu.r n 0 ≡ get_or s.cpu.r n 0
keeps-register concerns s n here named =
    let i : Instr = instruction_of (get_or s.words s.cpu.pc 0) in
    ap (λ (c : CpuState). get_or c.r n 0) (exec-performs s here.runs here.inside)
    ∙ performs-keeping i s n (λ is. false≢true (sym (some-of (written i) (λ a. IsNamed concerns a ≡ false) n here.ignored.register is) ∙ named))

not-all : (concerns : Concerns) (s : State) → IsUnwatched (IsIgnored concerns) s → IsAll concerns → ⊥
not-all concerns s here all = here.ignored.counter (all s.cpu.pc here.inside)

not-becomes : (register : Register) (concerns : Concerns) (s : State) (value : ℕ) → IsUnwatched (IsIgnored concerns) s → CoversRegister concerns register → (register_value register s.cpu ≡ value → ⊥) → register_value register (exec s).0.cpu ≡ value → ⊥
not-becomes (Numbered n) concerns s value here (inl named) was is = was (sym (keeps-register concerns s n here named) ∙ is)
not-becomes (Numbered n) concerns s value here (inr all) was is = not-all concerns s here all
not-becomes Auxiliary concerns s value here all was is = not-all concerns s here all
not-becomes Flags concerns s value here all was is = not-all concerns s here all

not-altered : (register : Register) (concerns : Concerns) (s : State) → IsUnwatched (IsIgnored concerns) s → CoversRegister concerns register → register_value register (exec s).0.cpu ≡ register_value register s.cpu
not-altered (Numbered n) concerns s here (inl named) = keeps-register concerns s n here named
not-altered (Numbered n) concerns s here (inr all) = absurd (not-all concerns s here all)
not-altered Auxiliary concerns s here all = absurd (not-all concerns s here all)
not-altered Flags concerns s here all = absurd (not-all concerns s here all)

-- a register that is covered is not written
links-written : (link taken : Bool) (n : ℕ) → cond (link && taken) (Some 15) None ≡ Some n → cond link (Some 15) None ≡ Some n
links-written true true n is = is
links-written true false n is = absurd (none-some n is)
links-written false taken n is = absurd (none-some n is)

register-written : (i : Instr) (f : FlagsOf) (n : ℕ) → written_register i f ≡ Some n → written i ≡ Some n
unfolding written written_register links
register-written (Reg op u v a b c) f n is = is
register-written (Imm op u v a b im) f n is = is
register-written (Load byte a b off) f n is = is
register-written (Store byte a b off) f n is = is
register-written (BranchReg number link c) f n is = links-written link (is_taken number f) n is
register-written (BranchOff number link off) f n is = links-written link (is_taken number f) n is

next-there : (s : State) → s.cpu.stop ≡ 0 → s.cpu.pc < 2 ^ 18 → next_instruction s.cpu s.words ≡ Some (instruction_of (get_or s.words s.cpu.pc 0))
unfolding next_instruction
next-there s runs inside =
    let running : nat_eq s.cpu.stop 0 ≡ true = eq-eqb s.cpu.stop 0 runs in
    let low : nat_lt s.cpu.pc (2 ^ 18) ≡ true = lt-ltb s.cpu.pc (2 ^ 18) inside in
    rw running (rw low refl)

not-writes : (register : Register) (concerns : Concerns) (s : State) → IsUnwatched (IsIgnored concerns) s → CoversRegister concerns register → IsNextWriting register s.cpu (next_instruction s.cpu s.words) → ⊥
not-writes (Numbered n) concerns s here (inl named) writes =
    let i : Instr = instruction_of (get_or s.words s.cpu.pc 0) in
    let is : written_register i s.cpu.flags ≡ Some n = subst (λ (o : Option Instr). IsNextWriting (Numbered n) s.cpu o) (next-there s here.runs here.inside) writes in
    false≢true (sym (some-of (written i) (λ a. IsNamed concerns a ≡ false) n here.ignored.register (register-written i s.cpu.flags n is)) ∙ named)
not-writes (Numbered n) concerns s here (inr all) writes = not-all concerns s here all
not-writes Auxiliary concerns s here all writes = not-all concerns s here all
not-writes Flags concerns s here all writes = not-all concerns s here all

not-stores : (concerns : Concerns) (s : State) → IsUnwatched (IsIgnored concerns) s → Accesses true concerns.stores (next_access s.cpu s.words) → ⊥
not-stores concerns s here accesses = here.ignored.stores (subst (λ (o : Option Access). Accesses true concerns.stores o) (access-there s here.runs here.inside) accesses)

not-loads : (concerns : Concerns) (s : State) → IsUnwatched (IsIgnored concerns) s → Accesses false concerns.loads (next_access s.cpu s.words) → ⊥
not-loads concerns s here accesses = here.ignored.loads (subst (λ (o : Option Access). Accesses false concerns.loads o) (access-there s here.runs here.inside) accesses)

not-changes : (concerns : Concerns) (s : State) (es : List Event) (at : ℕ) (bytes : Span) (mask : ℕ) → IsUnwatched (IsIgnored concerns) s → Covers concerns (Change bytes mask) → Differ bytes mask s.words (exec (feed es at s)).0.words → ⊥
not-changes concerns s es at bytes mask here covers d =
    let o : Option Access = next_access s.cpu s.words in
    let is : word_stored o ≡ Some d.word = changed-stored (word_stored o) d.word d.index s.words (exec (feed es at s)).0.words (step-alone es at s) d.differs in
    let some : 0 < count_of o = subst (λ (x : Option Access). 0 < count_of x) (sym (access-there s here.runs here.inside)) (access-some (instruction_of (get_or s.words s.cpu.pc 0)) s.cpu.r) in
    not-stores concerns s here (store-meets o d.word concerns.stores is some (λ m same below. covers (4 * d.word + d.index / 8) m d.byte (omega (arith, same, d.inside)) below))

holds-not : (condition : Condition) (concerns : Concerns) (es : List Event) (at : ℕ) (s : State) → Covers concerns condition → ((k : ℕ) → k < length es → count_at es k ≢ at) → feed es at s ≡ s → IsUnwatched (IsIgnored concerns) s
    → Holds condition es (step_from es at s) → ⊥
holds-not (Counter words) concerns es at s covers quiet fed here holds = here.ignored.counter (covers s.cpu.pc holds.1)
holds-not (Stored bytes) concerns es at s covers quiet fed here holds = not-stores concerns s here (wider true bytes concerns.stores _ covers holds)
holds-not (Change bytes mask) concerns es at s covers quiet fed here holds = not-changes concerns s es at bytes mask here covers holds
holds-not (Loaded bytes) concerns es at s covers quiet fed here holds = not-loads concerns s here (wider false bytes concerns.loads _ covers holds)
holds-not (Becomes register value) concerns es at s covers quiet fed here holds =
    not-becomes register concerns s value here covers holds.was_not (ap (λ (x : State). register_value register (exec x).0.cpu) (sym fed) ∙ holds.is)
holds-not Sends concerns es at s covers quiet fed here holds =
    search (arith, subst (λ (o : Option ℕ). IsSome o) (ap (λ (x : State). (exec x).1) fed ∙ here.silent) holds)
holds-not (SendsByte byte) concerns es at s covers quiet fed here holds = none-some byte (sym (ap (λ (x : State). (exec x).1) fed ∙ here.silent) ∙ holds)
holds-not (Takes kind) concerns es at s covers quiet fed here holds = quiet holds.1.index holds.1.inside holds.1.count
holds-not Stops concerns es at s covers quiet fed here holds = holds.1 (ap (λ (x : State). (exec x).0.cpu.stop) fed ∙ here.goes_on)
holds-not (Writes register) concerns es at s covers quiet fed here holds = not-writes register concerns s here covers holds.writes
holds-not (WritesFlags mask) concerns es at s all quiet fed here holds = not-all concerns s here all
holds-not (Alters register mask) concerns es at s covers quiet fed here holds =
    holds (ap (λ (x : State). masked register mask (exec x).0.cpu) fed ∙ ap (λ (n : ℕ). and_word n mask) (not-altered register concerns s here covers))
holds-not (Is register values) concerns es at s all quiet fed here holds = not-all concerns s here all
holds-not (IsWord number mask values) concerns es at s all quiet fed here holds = not-all concerns s here all

-- an instruction is ignored if its place, its register and its access are of no concern
pub is_ignored : (concerns : Concerns) (pc : ℕ) (r : List ℕ) (word : ℕ) (i : Instr) (register : Option ℕ) (access : Option Access) → i ≡ instruction_of word → register ≡ written i → access ≡ accessed i r
    → ¬ (IsIn concerns.counters pc) → IfSome register (λ a. IsNamed concerns a ≡ false) → ¬ (Accesses true concerns.stores access) → ¬ (Accesses false concerns.loads access) → IsIgnored concerns pc r word
is_ignored concerns pc r word i register access decoded writes accesses counter unnamed stores loads =
    let same : access ≡ accessed (instruction_of word) r = accesses ∙ ap (λ (j : Instr). accessed j r) decoded in
    record {
      counter = counter;
      stores = subst (λ (o : Option Access). ¬ (Accesses true concerns.stores o)) same stores;
      loads = subst (λ (o : Option Access). ¬ (Accesses false concerns.loads o)) same loads;
      register = subst (λ (o : Option ℕ). IfSome o (λ a. IsNamed concerns a ≡ false)) (writes ∙ ap (λ (j : Instr). written j) decoded) unnamed;
    }

-- no condition holds while instructions are ignored
pub ignored-none : (conditions : List Clause) (concerns : Concerns) (es : List Event) (at due n : ℕ) (s : State) → CoverAll concerns conditions → IsQuiet es at due → at + n ≤ due → AreUnwatched (IsIgnored concerns) n s
    → NoneIn conditions es at s at (at + n)
ignored-none conditions concerns es at due n s covers quiet inside unwatched = λ m after before k holds.
    let all = all-hold conditions es _ k holds in
    let covered = covers k all.inside all.begins_there in
    let d : Clause = record { condition = Sends; joined = false } in
    let c : Condition = (get_or conditions covered.index d).condition in
    let held = (all.each covered.index covered.clause.reached covered.clause.joined).1 d in
    let steps : ℕ = m - at in
    let none = quiet m after (omega arith) in
    let x : State = run_of [] 0 steps s in
    let here = unwatched steps (omega arith) in
    let same : run_of es at steps s ≡ x = quiet-run es at steps s (quiet-fewer es at (at + steps) due quiet (omega arith)) in
    let there = subst (λ (y : State). Holds c es (step_from es m y)) same held in
    holds-not c concerns es m x (covered.covers d) none (feed-nothing es m x (fed-others es m x.devices none)) here there

-- the state after them
pub ignored-state : (es : List Event) (at due n : ℕ) (s t : State) → IsQuiet es at due → at + n ≤ due → t ≡ run_of [] 0 n s → t ≡ run_of es at (at + n - at) s
ignored-state es at due n s t quiet inside is =
    let steps : at + n - at ≡ n = omega arith in
    is ∙ sym (quiet-run es at n s (quiet-fewer es at (at + n) due quiet inside)) ∙ ap (λ (k : ℕ). run_of es at k s) (sym steps)
