-- Steps and runs keep the number of registers and the number of words of the memory.
use Rattle.std.proofs.Common.{◌≡◌, ℕ, zero, suc, ◌+◌, ◌*◌, Bool, true, false, List, [], ◌∷◌, length, Option, None, Ok, Err, nat_eq, cond, refl, ◌∙◌, arith, length-append}
use Rattle.std.proofs.lemmas.List.{length-set}
use Rattle.risc_devices.specs.Ticks.{ticked}
use Rattle.risc_pages.specs.Pages.{ArePages, page_of}
use Rattle.risc_pages.specs.Tables.{IsNamed, table_words}
use Rattle.risc_pages.proofs.PoolLemmas.{IsPage-page_of}
use Rattle.risc_model.specs.declared.event.Event.{Event}
use Rattle.risc_model.specs.MachineState.{CpuState, State}
use Rattle.risc_model.specs.Exec.{moved_on, with_register, with_outcome, operated, branched, load_at, device_store, store_at, perform, fetched, counted, exec}
use Rattle.risc_model.specs.Replay.{feed, fed, run_of}

-- sixteen registers and 262,144 words
pub record IsSized (s : State) : Type 0 where
  pub registers : length s.cpu.r ≡ 16
  pub words : length s.words ≡ 262144

-- as many registers, and as many words
pub record SameSizes (s t : State) : Type 0 where
  pub registers : length t.cpu.r ≡ length s.cpu.r
  pub words : length t.words ≡ length s.words

same : (s : State) → SameSizes s s
same s = record { registers = refl; words = refl }

outcome-size : (a : ℕ) (out : _) (c : CpuState) → length (with_outcome a out c).r ≡ length c.r
unfolding with_outcome
outcome-size a (Ok out) c = length-set c.r a out.value
outcome-size a (Err stop) c = refl

operated-size : (op : ℕ) (u imm v : Bool) (a b operand : ℕ) (c : CpuState) → length (operated op u imm v a b operand c).r ≡ length c.r
unfolding operated
operated-size op u imm v a b operand c = outcome-size a _ c

branch-size : (taken link : Bool) (to back : ℕ) (c : CpuState) → length (cond taken (record (cond link (with_register 15 back c) c) { pc = to }) (moved_on c)).r ≡ length c.r
branch-size true true to back c = length-set c.r 15 back
branch-size true false to back c = refl
branch-size false link to back c = refl

branched-size : (k : ℕ) (link : Bool) (to : ℕ) (c : CpuState) → length (branched k link to c).r ≡ length c.r
unfolding branched
branched-size k link to c = branch-size _ link to _ c

load-registers : (place : _) (lane : ℕ) (byte : Bool) (a : ℕ) (s : State) → length (load_at place lane byte a s).cpu.r ≡ length s.cpu.r
unfolding load_at
load-registers place lane byte a s = grind (arith, length-set)

load-words : (place : _) (lane : ℕ) (byte : Bool) (a : ℕ) (s : State) → length (load_at place lane byte a s).words ≡ length s.words
unfolding load_at
load-words place lane byte a s = grind (arith, length-set)

store-registers : (place : _) (lane : ℕ) (byte : Bool) (a : ℕ) (s : State) → length (store_at place lane byte a s).0.cpu.r ≡ length s.cpu.r
unfolding store_at device_store
store-registers place lane byte a s = grind (arith, length-set)

store-words : (place : _) (lane : ℕ) (byte : Bool) (a : ℕ) (s : State) → length (store_at place lane byte a s).0.words ≡ length s.words
unfolding store_at device_store
store-words place lane byte a s = grind (arith, length-set)

perform-registers : (i : _) (s : State) → length (perform i s).0.cpu.r ≡ length s.cpu.r
unfolding perform
perform-registers i s = grind (arith, operated-size, branched-size, load-registers, store-registers)

perform-words : (i : _) (s : State) → length (perform i s).0.words ≡ length s.words
unfolding perform
perform-words i s = grind (arith, load-words, store-words)

fetched-registers : (s : State) → length (fetched s).0.cpu.r ≡ length s.cpu.r
unfolding fetched
fetched-registers s = grind (arith, perform-registers)

fetched-words : (s : State) → length (fetched s).0.words ≡ length s.words
unfolding fetched
fetched-words s = grind (arith, perform-words)

fetched-sizes : (s : State) → SameSizes s (fetched s).0
fetched-sizes s = record { registers = fetched-registers s; words = fetched-words s }

either-sizes : (running : Bool) (s : State) (o : State × Option ℕ) → SameSizes s o.0 → SameSizes s (cond running (record o.0 { devices = ticked o.0.devices }, o.1) o).0
either-sizes true s o sizes = record { registers = sizes.registers; words = sizes.words }
either-sizes false s o sizes = sizes

counted-sizes : (s : State) (o : State × Option ℕ) → SameSizes s o.0 → SameSizes s (counted o).0
unfolding counted
counted-sizes s o sizes = either-sizes (nat_eq o.0.cpu.stop 0) s o sizes

running-sizes : (running : Bool) (s : State) → SameSizes s (cond running (counted (fetched s)) (s, None)).0
running-sizes true s = counted-sizes s (fetched s) (fetched-sizes s)
running-sizes false s = same s

exec-sizes : (s : State) → SameSizes s (exec s).0
unfolding exec
exec-sizes s = running-sizes (nat_eq s.cpu.stop 0) s

fed-sizes : (running : Bool) (es : List Event) (n : ℕ) (s : State) → SameSizes s (cond running (record s { devices = fed es n s.devices }) s)
fed-sizes true es n s = record { registers = refl; words = refl }
fed-sizes false es n s = same s

feed-sizes : (es : List Event) (n : ℕ) (s : State) → SameSizes s (feed es n s)
unfolding feed
feed-sizes es n s = fed-sizes (nat_eq s.cpu.stop 0) es n s

pub run_of-sizes : (es : List Event) (from k : ℕ) (s : State) → SameSizes s (run_of es from k s)
unfolding run_of
run_of-sizes es from zero s = same s
run_of-sizes es from (suc k) s =
    let before = run_of-sizes es from k s in
    let fed = feed-sizes es (from + k) (run_of es from k s) in
    let done = exec-sizes (feed es (from + k) (run_of es from k s)) in
    record {
      registers = done.registers ∙ fed.registers ∙ before.registers;
      words = done.words ∙ fed.words ∙ before.words;
    }

-- the number of words that a table names
pub length-table_words : (pool : List (List ℕ)) (numbers : List ℕ) → ArePages pool → IsNamed pool numbers → length (table_words pool numbers) ≡ 256 * length numbers
length-table_words pool [] pages named = refl
length-table_words pool (n ∷ ns) pages named =
    let first = (IsPage-page_of pool n pages (named 0 0 (omega arith))).whole in
    let rest = length-table_words pool ns pages (λ k d h. named (suc k) d (omega arith)) in
    let both = length-append (page_of pool n) (table_words pool ns) in
    omega arith
