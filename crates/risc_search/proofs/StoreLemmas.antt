-- An instruction changes no word of RAM but the one that it stores to.
use Rattle.std.proofs.Common.{◌≡◌, ◌≢◌, ◌∙◌, ◌+◌, ◌-◌, ◌*◌, ◌/◌, ◌^◌, ◌<◌, ℕ, Bool, true, false, cond, List, Option, None, Some, get_or, get_or-set_other, slice_index, slice_set, nat_eq, nat_lt, nat_le, refl, ap, sym, subst, arith}
use Rattle.std.specs.Prelude.{◌&&◌, ⊤}
use Rattle.std.proofs.lemmas.List.{set-get_or}
use Rattle.std.proofs.lemmas.Bool.{lt-ltb, ltb-true}
use Rattle.risc_core.specs.declared.address.Place.{Place}
use Rattle.risc_core.specs.declared.address.Place.TheVariants.{Ram, Device, Nowhere}
use Rattle.risc_core.specs.declared.instruction.Instr.{Instr}
use Rattle.risc_core.specs.declared.instruction.Instr.TheVariants.{Reg, Imm, Load, Store, BranchReg, BranchOff}
use Rattle.risc_core.specs.Instruction.{instruction_of}
use Rattle.risc_core.specs.Place.{target_of, lane_of}
use Rattle.risc_devices.specs.DeviceState.{DeviceState}
use Rattle.risc_devices.specs.Ticks.{ticked}
use Rattle.risc_model.specs.declared.event.Event.{Event}
use Rattle.risc_model.specs.MachineState.{CpuState, State}
use Rattle.risc_model.specs.Exec.{address_in, counted, device_store, exec, fetched, load_at, perform, store_at, stored_word}
use Rattle.risc_model.specs.Replay.{fed, feed}
use Rattle.risc_search.specs.Access.{access_to, accessed, next_access}
use Rattle.risc_search.specs.inner.Observed.{HasStored, HasStoredAlone, word_stored}

-- nothing is stored, or what is there already
stored-nothing : (o : Option ℕ) (before after : List ℕ) → after ≡ before → HasStored o before after
stored-nothing None before after same = same
stored-nothing (Some n) before after same = (get_or before n 0, same ∙ sym (set-get_or before n 0))

-- the other words stay
stored-alone : (o : Option ℕ) (before after : List ℕ) → HasStored o before after → (w : ℕ) → o ≢ Some w → get_or after w 0 ≡ get_or before w 0
stored-alone None before after same w other = ap (λ (ws : List ℕ). get_or ws w 0) same
stored-alone (Some n) before after (v, is) w other = ap (λ (ws : List ℕ). get_or ws w 0) is ∙ get_or-set_other before n w v 0 (λ same. other (ap (λ (m : ℕ). Some m) (sym same)))

-- a word of RAM has a number below 2 ^ 18
abbrev RamIsBelow : Place → Type 0
RamIsBelow (Ram word) = word < 2 ^ 18
RamIsBelow (Device word) = ⊤
RamIsBelow Nowhere = ⊤

below-device : (high : Bool) (number : ℕ) → RamIsBelow (cond high (Device number) Nowhere)
below-device true number = tt
below-device false number = tt

below-ram : (low : Bool) (rest : Place) (address : ℕ) → nat_lt address (2 ^ 20) ≡ low → RamIsBelow rest → RamIsBelow (cond low (Ram (address / 4)) rest)
below-ram true rest address test below = let h = ltb-true address (2 ^ 20) test in omega arith
below-ram false rest address test below = below

ram-below : (address : ℕ) → RamIsBelow (target_of address)
unfolding target_of
ram-below address = below-ram (nat_lt address (2 ^ 20)) _ address refl (below-device (nat_le (2 ^ 24 - 64) address) _)

lane-below : (address : ℕ) → lane_of address < 4
unfolding lane_of
lane-below address = omega arith

-- the word of RAM that an access to it stores to
stored-there : (word lane : ℕ) (byte : Bool) → word < 2 ^ 18 → lane < 4 → word_stored (access_to true byte (Ram word) lane) ≡ Some word
unfolding access_to
stored-there word lane true below lanes =
    let test : nat_lt (4 * word + lane) (2 ^ 20) ≡ true = lt-ltb (4 * word + lane) (2 ^ 20) (omega arith) in
    let same : (4 * word + lane) / 4 ≡ word = omega arith in
    rw test (ap (λ (w : ℕ). Some w) same)
stored-there word lane false below lanes =
    let test : nat_lt (4 * word) (2 ^ 20) ≡ true = lt-ltb (4 * word) (2 ^ 20) (omega arith) in
    let same : 4 * word / 4 ≡ word = omega arith in
    rw test (ap (λ (w : ℕ). Some w) same)

device-same : (word value : ℕ) (s : State) → (device_store word value s).0.words ≡ s.words
unfolding device_store
device-same word value s = refl

stores-there : (p : Place) (lane : ℕ) (byte : Bool) (a : ℕ) (s : State) → RamIsBelow p → lane < 4 → HasStored (word_stored (access_to true byte p lane)) s.words (store_at p lane byte a s).0.words
unfolding store_at
stores-there (Ram word) lane byte a s below lanes =
    let P : Option ℕ → Type 0 = λ (o : Option ℕ). HasStored o s.words (slice_set s.words word (stored_word byte lane (slice_index s.cpu.r a) (slice_index s.words word))) in
    subst P (sym (stored-there word lane byte below lanes)) (stored_word byte lane (slice_index s.cpu.r a) (slice_index s.words word), refl)
stores-there (Device word) lane byte a s below lanes = stored-nothing _ s.words _ (device-same word _ s)
stores-there Nowhere lane byte a s below lanes = stored-nothing _ s.words _ refl

load-same : (p : Place) (lane : ℕ) (byte : Bool) (a : ℕ) (s : State) → (load_at p lane byte a s).words ≡ s.words
unfolding load_at
load-same (Ram word) lane byte a s = refl
load-same (Device word) lane byte a s = refl
load-same Nowhere lane byte a s = refl

performs-there : (i : Instr) (s : State) → HasStored (word_stored (accessed i s.cpu.r)) s.words (perform i s).0.words
unfolding perform accessed
performs-there (Reg op u v a b c) s = stored-nothing None s.words s.words refl
performs-there (Imm op u v a b im) s = stored-nothing None s.words s.words refl
performs-there (Load byte a b off) s = stored-nothing _ s.words _ (load-same _ _ byte a s)
performs-there (Store byte a b off) s = stores-there (target_of (address_in s b off)) (lane_of (address_in s b off)) byte a s (ram-below (address_in s b off)) (lane-below (address_in s b off))
performs-there (BranchReg cond link c) s = stored-nothing None s.words s.words refl
performs-there (BranchOff cond link off) s = stored-nothing None s.words s.words refl

counted-if : (b : Bool) (o : State × Option ℕ) (d : DeviceState) → (cond b (record o.0 { devices = d }, o.1) o).0.words ≡ o.0.words
counted-if true o d = refl
counted-if false o d = refl

counted-words : (o : State × Option ℕ) → (counted o).0.words ≡ o.0.words
unfolding counted
counted-words o = counted-if (nat_eq o.0.cpu.stop 0) o (ticked o.0.devices)

there-if : (runs inside : Bool) (i : Instr) (s : State) (stopped : State × Option ℕ) → stopped.0.words ≡ s.words → HasStored (word_stored (cond (runs && inside) (accessed i s.cpu.r) None)) s.words (cond runs (counted (cond inside (perform i s) stopped)) (s, None)).0.words
there-if true true i s stopped same =
    let P : List ℕ → Type 0 = λ (ws : List ℕ). HasStored (word_stored (accessed i s.cpu.r)) s.words ws in
    subst P (sym (counted-words (perform i s))) (performs-there i s)
there-if true false i s stopped same = counted-words stopped ∙ same
there-if false inside i s stopped same = refl

exec-there : (s : State) → HasStored (word_stored (next_access s.cpu s.words)) s.words (exec s).0.words
unfolding exec fetched next_access
exec-there s = there-if (nat_eq s.cpu.stop 0) (nat_lt s.cpu.pc (2 ^ 18)) (instruction_of (get_or s.words s.cpu.pc 0)) s _ refl

-- inputs change neither the processor nor the memory
fed-if : (b : Bool) (s : State) (d : DeviceState) → ((cond b (record s { devices = d }) s).cpu ≡ s.cpu) × ((cond b (record s { devices = d }) s).words ≡ s.words)
fed-if true s d = (refl, refl)
fed-if false s d = (refl, refl)

pub feed-rest : (es : List Event) (n : ℕ) (s : State) → ((feed es n s).cpu ≡ s.cpu) × ((feed es n s).words ≡ s.words)
unfolding feed
feed-rest es n s = fed-if (nat_eq s.cpu.stop 0) s (fed es n s.devices)

-- a step stores to the word that its access names, if any
pub step-there : (es : List Event) (n : ℕ) (s : State) → HasStored (word_stored (next_access s.cpu s.words)) s.words (exec (feed es n s)).0.words
step-there es n s =
    let f : State = feed es n s in
    let same = feed-rest es n s in
    let P : CpuState → Type 0 = λ (c : CpuState). HasStored (word_stored (next_access c f.words)) f.words (exec f).0.words in
    let Q : List ℕ → Type 0 = λ (ws : List ℕ). HasStored (word_stored (next_access s.cpu ws)) ws (exec f).0.words in
    subst Q same.1 (subst P same.0 (exec-there f))

-- and changes no other
pub step-alone : (es : List Event) (n : ℕ) (s : State) → HasStoredAlone (next_access s.cpu s.words) s.words (exec (feed es n s)).0.words
step-alone es n s = stored-alone (word_stored (next_access s.cpu s.words)) s.words (exec (feed es n s)).0.words (step-there es n s)
