-- The turns of a run say which calls are open; and the open calls are a stack.
use Rattle.std.proofs.Common.{◌≡◌, ℕ, zero, suc, ◌+◌, ◌<◌, ◌≤◌, Bool, true, false, not, ◌&&◌, cond, List, All, [], ◌∷◌, ◌++◌, length, take, Option, None, Some, nat_eq, nat_lt, ◌^◌, ◌%◌, slice_index, inl, inr, refl, ap, sym, subst, ◌∙◌, add-suc, add-zero, arith}
use Rattle.std.specs.List.{take_while, prefix_len, list_any}
use Rattle.std.specs.Option.{option_to_list}
use Rattle.std.proofs.Math.Seq.{take-length}
use Rattle.std.proofs.lemmas.Bool.{eq-eqb, lt-ltb, cases_lt}
use Rattle.std.proofs.lemmas.List.{append-nil}
use Rattle.std.proofs.lemmas.List.Elements.{All-nil, All-cons, All-head, All-tail, All-take, All-append}
use Rattle.std.proofs.lemmas.List.Folds.{length-prefix_len}
use Rattle.std.proofs.lemmas.List.Sums.{take_while-cons}
use Rattle.risc_core.specs.declared.branch.TheConstants.{COUNTER_END}
use Rattle.risc_core.specs.declared.flags.Flags.{Flags}
use Rattle.risc_core.specs.declared.instruction.Instr.{Instr}
use Rattle.risc_core.specs.declared.instruction.Instr.TheVariants.{Reg, Imm, Load, Store, BranchReg, BranchOff}
use Rattle.risc_core.specs.Instruction.{instruction_of}
use Rattle.risc_core.specs.Written.{branches, links}
use Rattle.risc_model.specs.declared.call.Call.{Call}
use Rattle.risc_model.specs.declared.call.Turn.{Turn}
use Rattle.risc_model.specs.declared.event.Event.{Event}
use Rattle.risc_model.specs.Exec.{exec}
use Rattle.risc_model.specs.MachineState.{State}
use Rattle.risc_model.specs.Replay.{begun_at}
use Rattle.risc_model.specs.Calls.{stack_pointer, next_is, ends, staying, made, opened, open_after, call_from, returns_from}
use Rattle.risc_model.specs.Visits.{jumps}
use Rattle.risc_model.specs.Turns.{turns, step_turn, turned, turned_by, IsStack}
use Rattle.risc_model.proofs.CallLemmas.{open-none, open-suc, turns-none, turns-suc, turn_at}

-- ---- what stays

-- what stays of a stack is its beginning
front : (b : Bool) (p : Call → Bool) (stack : List Call) → take (length (cond b (take_while p stack) stack)) stack ≡ cond b (take_while p stack) stack
front true p stack = ap (λ (k : ℕ). take k stack) (length-prefix_len p stack)
front false p stack = take-length stack

staying-front : (limit : ℕ) (t : State) (stack : List Call) → take (length (staying limit t stack)) stack ≡ staying limit t stack
unfolding staying
staying-front limit t stack = front (next_is branches t && jumps t) (λ call. not (ends limit t call)) stack

-- ---- turns

turned_by-snoc : (stack : List Call) (rest : List Turn) (turn : Turn) → turned_by stack (rest ++ turn ∷ []) ≡ turned (turned_by stack rest) turn
turned_by-snoc stack [] turn = refl
turned_by-snoc stack (first ∷ rest) turn = turned_by-snoc (turned stack first) rest turn

-- a list of at most one turn changes the stack as that turn does
turned_by-option : (stack : List Call) (rest : List Turn) (turn : Option Turn) →
    turned_by stack (rest ++ option_to_list turn) ≡ turned_by (turned_by stack rest) (option_to_list turn)
turned_by-option stack rest None = ap (turned_by stack) (append-nil rest)
turned_by-option stack rest (Some turn) = turned_by-snoc stack rest turn

-- no call is made
none-left : (call : Option Call) → length (option_to_list call) ≡ 0 → option_to_list call ≡ []
none-left None none = refl
none-left (Some call) none = absurd cc

-- one turn, or none if all calls stay and none is made
turned-or-none : (b : Bool) (stack : List Call) (turn : Turn) → (nat_eq turn.stay (length stack) && nat_eq (length (option_to_list turn.call)) 0) ≡ b →
    turned_by stack (option_to_list (cond b None (Some turn))) ≡ turned stack turn
turned-or-none false stack turn same = refl
turned-or-none true stack turn same =
    let stays : turn.stay ≡ length stack = search arith in
    let none : length (option_to_list turn.call) ≡ 0 = search arith in
    sym (append-nil stack) ∙ sym (ap (λ (l : List Call). l ++ []) (ap (λ (k : ℕ). take k stack) stays ∙ take-length stack))
    ∙ sym (ap (λ (l : List Call). take turn.stay stack ++ l) (none-left turn.call none))

-- a step
turned-step : (limit n : ℕ) (t : State) (stack : List Call) → turned_by stack (option_to_list (turn_at limit n t stack)) ≡ opened limit n t stack
turned-step limit n t stack =
    turned-or-none _ stack (step_turn limit n t stack) refl
    ∙ ap (λ (l : List Call). l ++ option_to_list (made n t stack)) (staying-front limit t stack)

-- a run
pub turned-run : (limit : ℕ) (es : List Event) (from n : ℕ) (s : State) (stack : List Call) →
    open_after limit es from n s stack ≡ turned_by stack (turns limit es from n s stack)
turned-run limit es from zero s stack = open-none limit es from s stack ∙ sym (ap (turned_by stack) (turns-none limit es from s stack))
turned-run limit es from (suc n) s stack =
    let t = begun_at es from (from + n) s in
    let now = open_after limit es from n s stack in
    open-suc limit es from n s stack
    ∙ sym (turned-step limit (from + n) t now)
    ∙ ap (λ (l : List Call). turned_by l (option_to_list (turn_at limit (from + n) t now))) (turned-run limit es from n s stack)
    ∙ sym (turned_by-option stack (turns limit es from n s stack) (turn_at limit (from + n) t now))
    ∙ sym (ap (turned_by stack) (turns-suc limit es from n s stack))

-- ---- stacks

-- a call that stays at a count: it was made before, and what is called now has an R14 as low as its own, or one of another stack
abbrev Stays : ℕ → ℕ → ℕ → Call → Type 0
Stays limit n sp call = (call.count < n) × (sp ≤ limit → sp ≤ call.sp)

both : {X : Type 0} (P Q : X → Type 0) (xs : List X) → All P xs → All Q xs → All (λ x. P x × Q x) xs
both P Q [] p q = All-nil (λ x. P x × Q x)
both P Q (x ∷ xs) p q = All-cons (λ x. P x × Q x) x xs (All-head P x xs p, All-head Q x xs q) (both P Q xs (All-tail P x xs p) (All-tail Q x xs q))

implied : {X : Type 0} (P Q : X → Type 0) (xs : List X) → ((x : X) → P x → Q x) → All P xs → All Q xs
implied P Q [] f p = All-nil Q
implied P Q (x ∷ xs) f p = All-cons Q x xs (f x (All-head P x xs p)) (implied P Q xs f (All-tail P x xs p))

-- what `take_while` takes passes
passing-cons : (p : Call → Bool) (x : Call) (xs : List Call) (b : Bool) → p x ≡ b → All (λ c. p c ≡ true) (take_while p xs)
    → All (λ c. p c ≡ true) (cond b (x ∷ take_while p xs) [])
passing-cons p x xs true e rest = All-cons (λ c. p c ≡ true) x (take_while p xs) e rest
passing-cons p x xs false e rest = All-nil (λ c. p c ≡ true)

passing : (p : Call → Bool) (xs : List Call) → All (λ c. p c ≡ true) (take_while p xs)
passing p [] = All-nil (λ c. p c ≡ true)
passing p (x ∷ xs) = rw (take_while-cons p x xs) (passing-cons p x xs (p x) refl (passing p xs))

-- a call that no branch gives up
not-ended : (limit : ℕ) (s : State) (call : Call) → not (ends limit s call) ≡ true → stack_pointer s.cpu ≤ limit → stack_pointer s.cpu ≤ call.sp
not-ended limit s call e h = elim (cases_lt call.sp (stack_pointer s.cpu)) [
  | inl less ↦ absurd (let above : nat_lt call.sp (stack_pointer s.cpu) ≡ true = lt-ltb _ _ less in search arith)
  | inr more ↦ more
]

-- a call that is after another in a stack, as `AreAbove` says it of all
abbrev IsAfter : ℕ → Call → Call → Type 0
IsAfter limit call later = (call.count < later.count) × (later.sp ≤ limit → later.sp ≤ call.sp)

-- a stack's beginning is a stack
taken-stack : (limit k : ℕ) (stack : List Call) → IsStack limit stack → IsStack limit (take k stack)
taken-stack limit zero stack is = tt
taken-stack limit (suc k) [] is = tt
taken-stack limit (suc k) (call ∷ later) is = (All-take (IsAfter limit call) k later is.0, taken-stack limit k later is.1)

-- a stack with one call more
snoc-stack : (limit n : ℕ) (stack : List Call) (call : Call) → call.count ≡ n → IsStack limit stack → All (Stays limit n call.sp) stack
    → IsStack limit (stack ++ call ∷ [])
snoc-stack limit n [] call count is stay = (All-nil (IsAfter limit call), tt)
snoc-stack limit n (first ∷ later) call count is stay =
    let here = All-head (Stays limit n call.sp) first later stay in (
      All-append (IsAfter limit first) later (call ∷ []) is.0 (All-cons (IsAfter limit first) call [] (rw count here.0, here.1) (All-nil (IsAfter limit first))),
      snoc-stack limit n later call count is.1 (All-tail (Stays limit n call.sp) first later stay),
    )

-- ---- a step of a stack

-- the calls that stay at a taken branch
staying-at : (limit n : ℕ) (t : State) (stack : List Call) → All (λ c. c.count < n) stack
    → All (Stays limit n (stack_pointer t.cpu)) (take_while (λ call. not (ends limit t call)) stack)
staying-at limit n t stack before =
    let p : Call → Bool = λ call. not (ends limit t call) in
    both (λ c. c.count < n) (λ c. stack_pointer t.cpu ≤ limit → stack_pointer t.cpu ≤ c.sp) (take_while p stack)
    (All-take (λ c. c.count < n) (prefix_len p stack) stack before)
    (implied (λ c. p c ≡ true) (λ c. stack_pointer t.cpu ≤ limit → stack_pointer t.cpu ≤ c.sp) (take_while p stack)
    (λ c e. not-ended limit t c e) (passing p stack))

either-stack : (b : Bool) (p : Call → Bool) (limit : ℕ) (stack : List Call) → IsStack limit stack → IsStack limit (cond b (take_while p stack) stack)
either-stack true p limit stack is = taken-stack limit (prefix_len p stack) stack is
either-stack false p limit stack is = is

staying-stack : (limit : ℕ) (t : State) (stack : List Call) → IsStack limit stack → IsStack limit (staying limit t stack)
unfolding staying
staying-stack limit t stack is = either-stack (next_is branches t && jumps t) (λ call. not (ends limit t call)) limit stack is

-- a branch that links is a branch
links-branches : (i : Instr) (f : Flags) → links i f ≡ true → branches i f ≡ true
unfolding links branches
links-branches (Reg op u v a b c) f e = absurd cc
links-branches (Imm op u v a b im) f e = absurd cc
links-branches (Load byte a b off) f e = absurd cc
links-branches (Store byte a b off) f e = absurd cc
links-branches (BranchReg cond_number link c) f e = search arith
links-branches (BranchOff cond_number link off) f e = search arith

pub next-links-branches : (t : State) → next_is links t ≡ true → next_is branches t ≡ true
next-links-branches t e =
    let linking : links (instruction_of (slice_index t.words t.cpu.pc)) t.cpu.flags ≡ true = search arith in
    let branching = links-branches (instruction_of (slice_index t.words t.cpu.pc)) t.cpu.flags linking in
    rw branching (search arith)

another : (sp to back next : ℕ) → back ≡ next → not (nat_eq sp sp && nat_eq to back) ≡ true → not (nat_eq to next) ≡ true
another sp to back next e other =
    let here : nat_eq sp sp ≡ true = eq-eqb sp sp refl in
    subst (λ (k : ℕ). not (nat_eq to k) ≡ true) e (rw here at other)

-- a call goes to another word than the next one
call-branches : (n : ℕ) (t : State) → next_is links t ≡ true → not (returns_from t (call_from n t)) ≡ true → (next_is branches t && jumps t) ≡ true
call-branches n t linking other =
    let branching = next-links-branches t linking in
    let inside : t.cpu.pc < 2 ^ 18 = search arith in
    let jumping : jumps t ≡ true = another (stack_pointer t.cpu) (exec t).0.cpu.pc ((t.cpu.pc + 1) % COUNTER_END) (t.cpu.pc + 1) (omega (arith, inside)) other in
    rw (branching, jumping) refl

-- a stack with the call that is made, if any; a call is made at a taken branch
made-stack : (b c : Bool) (p : Call → Bool) (limit n : ℕ) (call : Call) (stack : List Call) → (c ≡ true → b ≡ true) → call.count ≡ n
    → IsStack limit (cond b (take_while p stack) stack) → All (Stays limit n call.sp) (take_while p stack)
    → IsStack limit (cond b (take_while p stack) stack ++ option_to_list (cond c (Some call) None))
made-stack b false p limit n call stack branching count is stay = rw (append-nil (cond b (take_while p stack) stack)) is
made-stack true true p limit n call stack branching count is stay = snoc-stack limit n (take_while p stack) call count is stay
made-stack false true p limit n call stack branching count is stay = absurd (let e : false ≡ true = branching refl in cc)

opened-stack : (limit n : ℕ) (t : State) (stack : List Call) → IsStack limit stack → All (λ c. c.count < n) stack → IsStack limit (opened limit n t stack)
unfolding staying made
opened-stack limit n t stack is before =
    let p : Call → Bool = λ call. not (ends limit t call) in
    let call = call_from n t in
    made-stack (next_is branches t && jumps t) (next_is links t && not (returns_from t call) && not (list_any (returns_from t) stack)) p limit n call stack
    (λ e. call-branches n t (search arith) (search arith)) refl
    (either-stack (next_is branches t && jumps t) p limit stack is) (staying-at limit n t stack before)

-- the calls after a step were made by then
option-before : (b : Bool) (n : ℕ) (call : Call) → call.count ≡ n → All (λ c. c.count < suc n) (option_to_list (cond b (Some call) None))
option-before true n call count = All-cons (λ c. c.count < suc n) call [] (rw count (search arith)) (All-nil (λ c. c.count < suc n))
option-before false n call count = All-nil (λ c. c.count < suc n)

either-before : (b : Bool) (p : Call → Bool) (n : ℕ) (stack : List Call) → All (λ c. c.count < n) stack
    → All (λ c. c.count < suc n) (cond b (take_while p stack) stack)
either-before true p n stack before =
    implied (λ c. c.count < n) (λ c. c.count < suc n) (take_while p stack) (λ c less. search arith) (All-take (λ c. c.count < n) (prefix_len p stack) stack before)
either-before false p n stack before = implied (λ c. c.count < n) (λ c. c.count < suc n) stack (λ c less. search arith) before

opened-before : (limit n : ℕ) (t : State) (stack : List Call) → All (λ c. c.count < n) stack → All (λ c. c.count < suc n) (opened limit n t stack)
unfolding staying made
opened-before limit n t stack before =
    All-append (λ c. c.count < suc n) (staying limit t stack) (option_to_list (made n t stack))
    (either-before (next_is branches t && jumps t) (λ call. not (ends limit t call)) n stack before)
    (option-before (next_is links t && not (returns_from t (call_from n t)) && not (list_any (returns_from t) stack)) n (call_from n t) refl)

-- ---- a run of a stack

pub run-before : (limit : ℕ) (es : List Event) (from n : ℕ) (s : State) (stack : List Call) → All (λ c. c.count < from) stack
    → All (λ c. c.count < from + n) (open_after limit es from n s stack)
run-before limit es from zero s stack before = rw (add-zero, open-none limit es from s stack) before
run-before limit es from (suc n) s stack before =
    rw (add-suc, open-suc limit es from n s stack)
    (opened-before limit (from + n) (begun_at es from (from + n) s) (open_after limit es from n s stack) (run-before limit es from n s stack before))

pub stack-run : (limit : ℕ) (es : List Event) (from n : ℕ) (s : State) (stack : List Call)
    → IsStack limit stack → All (λ c. c.count < from) stack → IsStack limit (open_after limit es from n s stack)
stack-run limit es from zero s stack is before = rw (open-none limit es from s stack) is
stack-run limit es from (suc n) s stack is before =
    rw (open-suc limit es from n s stack)
    (opened-stack limit (from + n) (begun_at es from (from + n) s) (open_after limit es from n s stack)
    (stack-run limit es from n s stack is before) (run-before limit es from n s stack before))

-- ---- what holds of each call that is made

option-each : (b : Bool) (P : Call → Type 0) (call : Call) → (b ≡ true → P call) → All P (option_to_list (cond b (Some call) None))
option-each true P call made_so = All-cons P call [] (made_so refl) (All-nil P)
option-each false P call made_so = All-nil P

either-each : (b : Bool) (p : Call → Bool) (P : Call → Type 0) (stack : List Call) → All P stack → All P (cond b (take_while p stack) stack)
either-each true p P stack each = All-take P (prefix_len p stack) stack each
either-each false p P stack each = each

opened-each : (P : Call → Type 0) (limit n : ℕ) (t : State) (stack : List Call) → (next_is links t ≡ true → P (call_from n t)) → All P stack → All P (opened limit n t stack)
unfolding staying made
opened-each P limit n t stack made_so each =
    All-append P (staying limit t stack) (option_to_list (made n t stack))
    (either-each (next_is branches t && jumps t) (λ call. not (ends limit t call)) P stack each)
    (option-each (next_is links t && not (returns_from t (call_from n t)) && not (list_any (returns_from t) stack)) P (call_from n t) (λ e. made_so (search arith)))

pub run-each : (P : Call → Type 0) → ((n : ℕ) (t : State) → next_is links t ≡ true → P (call_from n t)) → (limit : ℕ) (es : List Event) (from n : ℕ) (s : State) (stack : List Call)
    → All P stack → All P (open_after limit es from n s stack)
run-each P made_so limit es from zero s stack each = rw (open-none limit es from s stack) each
run-each P made_so limit es from (suc n) s stack each =
    rw (open-suc limit es from n s stack)
    (opened-each P limit (from + n) (begun_at es from (from + n) s) (open_after limit es from n s stack) (made_so (from + n) (begun_at es from (from + n) s))
    (run-each P made_so limit es from n s stack each))
