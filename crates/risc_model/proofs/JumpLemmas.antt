-- Steps and the open calls: which step jumps, and that each other step leaves the open calls as they are.
use Rattle.std.proofs.Common.{◌≡◌, ◌≢◌, ℕ, ◌+◌, ◌%◌, ◌^◌, ◌<◌, ◌⊎◌, Bool, true, false, not, ◌&&◌, cond, List, Option, None, Some, Result, Ok, Err, nat_eq, nat_lt, slice_index, inl, inr, refl, ap, sym, ◌∙◌, arith, get_or-set_other}
use Rattle.std.specs.List.{list_any}
use Rattle.std.proofs.lemmas.Bool.{eq-eqb, ltb-true}
use Rattle.risc_core.specs.declared.arithmetic.AluOut.{AluOut}
use Rattle.risc_core.specs.declared.branch.TheConstants.{COUNTER_END}
use Rattle.risc_core.specs.declared.flags.Flags.{Flags}
use Rattle.risc_core.specs.declared.stop.Stop.{Stop}
use Rattle.risc_core.specs.declared.stop.Stop.TheVariants.{Fetch, Address, Divisor, Float}
use Rattle.risc_core.specs.declared.address.Place.{Place}
use Rattle.risc_core.specs.declared.address.Place.TheVariants.{Ram, Device, Nowhere}
use Rattle.risc_core.specs.declared.instruction.Instr.{Instr}
use Rattle.risc_core.specs.declared.instruction.Instr.TheVariants.{Reg, Imm, Load, Store, BranchReg, BranchOff}
use Rattle.risc_core.specs.Arithmetic.{outcome_of}
use Rattle.risc_core.specs.Branch.{is_taken, link_value, offset_target, register_target}
use Rattle.risc_core.specs.Instruction.{instruction_of, register_instruction, immediate_instruction}
use Rattle.risc_core.specs.Place.{target_of, lane_of}
use Rattle.risc_core.specs.Stop.{stop_number}
use Rattle.risc_core.specs.Word.{bit, field, signed_field}
use Rattle.risc_core.specs.Written.{branches, links}
use Rattle.risc_devices.specs.DeviceState.{DeviceState}
use Rattle.risc_devices.specs.Ticks.{ticked}
use Rattle.risc_model.specs.declared.call.Call.{Call}
use Rattle.risc_model.specs.MachineState.{CpuState, State}
use Rattle.risc_model.specs.Exec.{moved_on, with_register, with_outcome, operated, branched, load_at, device_store, store_at, address_in, perform, fetched, counted, exec}
use Rattle.risc_model.specs.Visits.{jumps}
use Rattle.risc_model.specs.Calls.{stack_pointer, next_is, call_from, returns_from, staying, made}
use Rattle.risc_model.proofs.CountLemmas.{exec-running, counted-cpu}
use Rattle.risc_model.proofs.TurnLemmas.{next-links-branches}

-- ---- where an instruction leads

-- it stops the machine; or it goes to the next word; or it is a taken branch, which keeps R14 and the words
abbrev Goes : Instr → State → State × Option ℕ → Type 0
Goes i s o =
    (o.0.cpu.stop ≢ 0)
    ⊎ ((o.0.cpu.pc ≡ (s.cpu.pc + 1) % COUNTER_END)
    ⊎ ((branches i s.cpu.flags ≡ true) × (o.0.words ≡ s.words) × (stack_pointer o.0.cpu ≡ stack_pointer s.cpu)))

some-stop : (stop : Stop) → stop_number stop ≢ 0
some-stop Fetch e = absurd cc
some-stop Address e = absurd cc
some-stop Divisor e = absurd cc
some-stop Float e = absurd cc

outcome-goes : (i : Instr) (a : ℕ) (out : Result AluOut Stop) (s : State) → Goes i s (record s { cpu = with_outcome a out s.cpu }, None)
unfolding with_outcome
outcome-goes i a (Ok out) s = inr (inl refl)
outcome-goes i a (Err stop) s = inl (some-stop stop)

operated-goes : (i : Instr) (op : ℕ) (u imm v : Bool) (a b operand : ℕ) (s : State) → Goes i s (record s { cpu = operated op u imm v a b operand s.cpu }, None)
unfolding operated
operated-goes i op u imm v a b operand s = outcome-goes i a (outcome_of op u imm v (slice_index s.cpu.r b) operand s.cpu.h s.cpu.flags) s

load-goes : (i : Instr) (place : Place) (lane : ℕ) (byte : Bool) (a : ℕ) (s : State) → Goes i s (load_at place lane byte a s, None)
unfolding load_at
load-goes i (Ram word) lane byte a s = inr (inl refl)
load-goes i (Device word) lane byte a s = inr (inl refl)
load-goes i Nowhere lane byte a s = inl (some-stop Address)

store-goes : (i : Instr) (place : Place) (lane : ℕ) (byte : Bool) (a : ℕ) (s : State) → Goes i s (store_at place lane byte a s)
unfolding store_at device_store
store-goes i (Ram word) lane byte a s = inr (inl refl)
store-goes i (Device word) lane byte a s = inr (inl refl)
store-goes i Nowhere lane byte a s = inl (some-stop Address)

-- a link is written to R15, not to R14
linked-pointer : (link : Bool) (back to : ℕ) (c : CpuState) → stack_pointer (record (cond link (with_register 15 back c) c) { pc = to }) ≡ stack_pointer c
linked-pointer true back to c = get_or-set_other c.r 15 14 back 0 (λ e. absurd (omega (arith, e)))
linked-pointer false back to c = refl

branch-goes : (taken link : Bool) (i : Instr) (to back : ℕ) (s : State) → branches i s.cpu.flags ≡ taken →
    Goes i s (record s { cpu = cond taken (record (cond link (with_register 15 back s.cpu) s.cpu) { pc = to }) (moved_on s.cpu) }, None)
branch-goes true link i to back s e = inr (inr (e, refl, linked-pointer link back to s.cpu))
branch-goes false link i to back s e = inr (inl refl)

branched-goes : (i : Instr) (k : ℕ) (link : Bool) (to : ℕ) (s : State) → branches i s.cpu.flags ≡ is_taken k s.cpu.flags →
    Goes i s (record s { cpu = branched k link to s.cpu }, None)
unfolding branched
branched-goes i k link to s e = branch-goes (is_taken k s.cpu.flags) link i to (link_value s.cpu.pc) s e

perform-goes : (i : Instr) (s : State) → Goes i s (perform i s)
unfolding perform branches
perform-goes (Reg op u v a b c) s = operated-goes (Reg op u v a b c) op u false v a b (slice_index s.cpu.r c) s
perform-goes (Imm op u v a b im) s = operated-goes (Imm op u v a b im) op u true v a b im s
perform-goes (Load byte a b off) s = load-goes (Load byte a b off) (target_of (address_in s b off)) (lane_of (address_in s b off)) byte a s
perform-goes (Store byte a b off) s = store-goes (Store byte a b off) (target_of (address_in s b off)) (lane_of (address_in s b off)) byte a s
perform-goes (BranchReg k link c) s = branched-goes (BranchReg k link c) k link (register_target (slice_index s.cpu.r c)) s refl
perform-goes (BranchOff k link off) s = branched-goes (BranchOff k link off) k link (offset_target s.cpu.pc off) s refl

-- ---- a step that jumps

-- it is a taken branch, and keeps R14 and the words
pub record IsTaken (s : State) : Type 0 where
  pub branching : next_is branches s ≡ true
  pub words : (exec s).0.words ≡ s.words
  pub pointer : stack_pointer (exec s).0.cpu ≡ stack_pointer s.cpu

either-words : (b : Bool) (o : State × Option ℕ) (d : DeviceState) → (cond b (record o.0 { devices = d }, o.1) o).0.words ≡ o.0.words
either-words true o d = refl
either-words false o d = refl

counted-words : (o : State × Option ℕ) → (counted o).0.words ≡ o.0.words
unfolding counted
counted-words o = either-words (nat_eq o.0.cpu.stop 0) o (ticked o.0.devices)

taken-here : (i : Instr) (s : State) (o : State × Option ℕ) → Goes i s o → o.0.cpu.stop ≡ 0 → o.0.cpu.pc ≢ (s.cpu.pc + 1) % COUNTER_END
    → (branches i s.cpu.flags ≡ true) × (o.0.words ≡ s.words) × (stack_pointer o.0.cpu ≡ stack_pointer s.cpu)
taken-here i s o (inl stops) going away = absurd (stops going)
taken-here i s o (inr (inl moves)) going away = absurd (away moves)
taken-here i s o (inr (inr taken)) going away = taken

-- within RAM
fetched-within : (s : State) → nat_lt s.cpu.pc (2 ^ 18) ≡ true → fetched s ≡ perform (instruction_of (slice_index s.words s.cpu.pc)) s
unfolding fetched
fetched-within s inside = rw inside refl

fetched-beyond : (s : State) → nat_lt s.cpu.pc (2 ^ 18) ≡ false → (fetched s).0.cpu.stop ≢ 0
unfolding fetched
fetched-beyond s beyond = rw beyond (some-stop Fetch)

is-within : (b : Bool) (s : State) → nat_lt s.cpu.pc (2 ^ 18) ≡ b → (fetched s).0.cpu.stop ≡ 0 → nat_lt s.cpu.pc (2 ^ 18) ≡ true
is-within true s e going = e
is-within false s e going = absurd (fetched-beyond s e going)

next-small : (pc : ℕ) → pc < 2 ^ 18 → (pc + 1) % COUNTER_END ≡ pc + 1
next-small pc less = omega arith

pub taken-step : (s : State) → s.cpu.stop ≡ 0 → (exec s).0.cpu.stop ≡ 0 → ((exec s).0.cpu.pc ≢ s.cpu.pc + 1) → IsTaken s
taken-step s running going away =
    let i : Instr = instruction_of (slice_index s.words s.cpu.pc) in
    let done : exec s ≡ counted (fetched s) = exec-running s running in
    let cpu : (exec s).0.cpu ≡ (fetched s).0.cpu = ap (λ (o : State × Option ℕ). o.0.cpu) done ∙ counted-cpu (fetched s) in
    let words : (exec s).0.words ≡ (fetched s).0.words = ap (λ (o : State × Option ℕ). o.0.words) done ∙ counted-words (fetched s) in
    let on : (fetched s).0.cpu.stop ≡ 0 = sym (ap (λ (c : CpuState). c.stop) cpu) ∙ going in
    let inside : nat_lt s.cpu.pc (2 ^ 18) ≡ true = is-within (nat_lt s.cpu.pc (2 ^ 18)) s refl on in
    let less : s.cpu.pc < 2 ^ 18 = ltb-true s.cpu.pc (2 ^ 18) inside in
    let same : fetched s ≡ perform i s = fetched-within s inside in
    let far : (perform i s).0.cpu.pc ≢ (s.cpu.pc + 1) % COUNTER_END =
    λ e. away (ap (λ (c : CpuState). c.pc) cpu ∙ ap (λ (o : State × Option ℕ). o.0.cpu.pc) same ∙ e ∙ next-small s.cpu.pc less) in
    let taken = taken-here i s (perform i s) (perform-goes i s) (sym (ap (λ (o : State × Option ℕ). o.0.cpu.stop) same) ∙ on) far in
    let here : nat_eq s.cpu.stop 0 ≡ true = eq-eqb s.cpu.stop 0 running in
    record {
      branching = rw (here, inside) taken.0;
      words = words ∙ ap (λ (o : State × Option ℕ). o.0.words) same ∙ taken.1;
      pointer = ap stack_pointer cpu ∙ ap (λ (o : State × Option ℕ). stack_pointer o.0.cpu) same ∙ taken.2;
    }

-- ---- a branch links by bit 28 of its word

and-true : (b c : Bool) → c ≡ true → (b && c) ≡ b
and-true true c e = e
and-true false c e = refl

links-by : (p q u v : Bool) (w : ℕ) (f : Flags) (load store imm reg : Instr) → branches load f ≡ false → branches store f ≡ false → branches imm f ≡ false → branches reg f ≡ false
    → branches (cond p (cond q (cond u (BranchOff (field w 24 4) v (signed_field w 22)) (BranchReg (field w 24 4) v (field w 0 4))) (cond u store load)) (cond q imm reg)) f ≡ true
    → links (cond p (cond q (cond u (BranchOff (field w 24 4) v (signed_field w 22)) (BranchReg (field w 24 4) v (field w 0 4))) (cond u store load)) (cond q imm reg)) f ≡ v
unfolding branches links
links-by true true true v w f load store imm reg a b c d taken = and-true v (is_taken (field w 24 4) f) taken
links-by true true false v w f load store imm reg a b c d taken = and-true v (is_taken (field w 24 4) f) taken
links-by true false true v w f load store imm reg a b c d taken = absurd cc
links-by true false false v w f load store imm reg a b c d taken = absurd cc
links-by false true u v w f load store imm reg a b c d taken = absurd cc
links-by false false u v w f load store imm reg a b c d taken = absurd cc

word-links : (w : ℕ) (f : Flags) → branches (instruction_of w) f ≡ true → links (instruction_of w) f ≡ bit w 28
unfolding branches links
word-links w f taken =
    links-by (bit w 31) (bit w 30) (bit w 29) (bit w 28) w f
    (Load (bit w 28) (field w 24 4) (field w 20 4) (signed_field w 20)) (Store (bit w 28) (field w 24 4) (field w 20 4) (signed_field w 20))
    (immediate_instruction w) (register_instruction w) refl refl refl refl taken

pub next-links : (s : State) → next_is branches s ≡ true → next_is links s ≡ bit (slice_index s.words s.cpu.pc) 28
next-links s branching =
    let running : nat_eq s.cpu.stop 0 ≡ true = search arith in
    let inside : nat_lt s.cpu.pc (2 ^ 18) ≡ true = search arith in
    let taken : branches (instruction_of (slice_index s.words s.cpu.pc)) s.cpu.flags ≡ true = search arith in
    rw (running, inside) (word-links (slice_index s.words s.cpu.pc) s.cpu.flags taken)

-- ---- steps that do not jump

second-false : {X : Type 0} (b c : Bool) (x y : X) → c ≡ false → cond (b && c) x y ≡ y
second-false true c x y e = rw e refl
second-false false c x y e = refl

-- a step to the next word
pub stay-at-next : (limit : ℕ) (s : State) (stack : List Call) → (exec s).0.cpu.pc ≡ s.cpu.pc + 1 → staying limit s stack ≡ stack
unfolding staying
stay-at-next limit s stack there =
    let same : nat_eq (exec s).0.cpu.pc (s.cpu.pc + 1) ≡ true = eq-eqb _ _ there in
    second-false (next_is branches s) (jumps s) _ stack (rw same refl)

made-none : (linking back other : Bool) (call : Call) → (linking ≡ true → back ≡ true) → cond (linking && not back && other) (Some call) None ≡ None
made-none true true other call e = refl
made-none true false other call e = let f : false ≡ true = e refl in absurd cc
made-none false back other call e = refl

pub none-at-next : (n : ℕ) (s : State) (stack : List Call) → (exec s).0.cpu.pc ≡ s.cpu.pc + 1 → made n s stack ≡ None
unfolding made
none-at-next n s stack there =
    made-none (next_is links s) (returns_from s (call_from n s)) (not (list_any (returns_from s) stack)) (call_from n s)
    (λ linking.
    let less : s.cpu.pc < 2 ^ 18 = search arith in
    let sp : nat_eq (stack_pointer s.cpu) (stack_pointer s.cpu) ≡ true = eq-eqb _ _ refl in
    let to : nat_eq (exec s).0.cpu.pc ((s.cpu.pc + 1) % COUNTER_END) ≡ true = eq-eqb _ _ (there ∙ sym (next-small s.cpu.pc less)) in
    rw (sp, to) refl)

-- no branch is taken
pub stay-without : (limit : ℕ) (s : State) (stack : List Call) → next_is branches s ≡ false → staying limit s stack ≡ stack
unfolding staying
stay-without limit s stack none = rw none refl

no-links : (b c : Bool) → (c ≡ true → b ≡ true) → b ≡ false → c ≡ false
no-links b true e none = let f : b ≡ true = e refl in absurd cc
no-links b false e none = refl

pub none-without : (n : ℕ) (s : State) (stack : List Call) → next_is branches s ≡ false → made n s stack ≡ None
unfolding made
none-without n s stack none =
    let linking : next_is links s ≡ false = no-links (next_is branches s) (next_is links s) (next-links-branches s) none in
    rw linking refl

-- a step that stops is no branch
branch-on : (taken link : Bool) (to back : ℕ) (c : CpuState) → (cond taken (record (cond link (with_register 15 back c) c) { pc = to }) (moved_on c)).stop ≡ c.stop
branch-on true true to back c = refl
branch-on true false to back c = refl
branch-on false link to back c = refl

branched-on : (k : ℕ) (link : Bool) (to : ℕ) (c : CpuState) → (branched k link to c).stop ≡ c.stop
unfolding branched
branched-on k link to c = branch-on (is_taken k c.flags) link to (link_value c.pc) c

perform-on : (i : Instr) (s : State) → branches i s.cpu.flags ≡ true → (perform i s).0.cpu.stop ≡ s.cpu.stop
unfolding perform branches
perform-on (Reg op u v a b c) s taken = absurd cc
perform-on (Imm op u v a b im) s taken = absurd cc
perform-on (Load byte a b off) s taken = absurd cc
perform-on (Store byte a b off) s taken = absurd cc
perform-on (BranchReg k link c) s taken = branched-on k link (register_target (slice_index s.cpu.r c)) s.cpu
perform-on (BranchOff k link off) s taken = branched-on k link (offset_target s.cpu.pc off) s.cpu

branching-on : (s : State) → next_is branches s ≡ true → (exec s).0.cpu.stop ≡ 0
branching-on s branching =
    let here : nat_eq s.cpu.stop 0 ≡ true = search arith in
    let running : s.cpu.stop ≡ 0 = search arith in
    let inside : nat_lt s.cpu.pc (2 ^ 18) ≡ true = search arith in
    let taken : branches (instruction_of (slice_index s.words s.cpu.pc)) s.cpu.flags ≡ true = search arith in
    ap (λ (o : State × Option ℕ). o.0.cpu.stop) (exec-running s running)
    ∙ ap (λ (c : CpuState). c.stop) (counted-cpu (fetched s))
    ∙ ap (λ (o : State × Option ℕ). o.0.cpu.stop) (fetched-within s inside)
    ∙ perform-on (instruction_of (slice_index s.words s.cpu.pc)) s taken
    ∙ running

not-branching : (b : Bool) (s : State) → next_is branches s ≡ b → (exec s).0.cpu.stop ≢ 0 → next_is branches s ≡ false
not-branching true s e stops = absurd (stops (branching-on s e))
not-branching false s e stops = e

pub stops-without : (s : State) → (exec s).0.cpu.stop ≢ 0 → next_is branches s ≡ false
stops-without s stops = not-branching (next_is branches s) s refl stops

-- a stopped machine
pub stopped-without : (s : State) → nat_eq s.cpu.stop 0 ≡ false → next_is branches s ≡ false
stopped-without s stopped = rw stopped refl
