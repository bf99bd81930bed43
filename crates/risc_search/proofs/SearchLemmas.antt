-- How far a search is and where it ends, and that nothing holds once the machine has stopped.
use Rattle.std.proofs.Common.{◌≡◌, ◌≢◌, ◌∙◌, ◌+◌, ◌-◌, ◌<◌, ◌≤◌, ◌^◌, ℕ, Bool, false, cond, nat_lt, get_or, List, Option, None, Some, nat_eq, refl, ap, sym, subst, inl, inr, arith}
use Rattle.std.specs.Prelude.{◌&&◌}
use Rattle.std.proofs.lemmas.Bool.{cases_eq, cases_lt}
use Rattle.std.proofs.lemmas.Option.{none-some}
use Rattle.risc_core.specs.Instruction.{instruction_of}
use Rattle.risc_model.specs.declared.event.Event.{Event}
use Rattle.risc_model.specs.MachineState.{State}
use Rattle.risc_model.specs.Exec.{exec}
use Rattle.risc_model.specs.Replay.{feed, run_of}
use Rattle.risc_model.proofs.LawLemmas.{run_of-on}
use Rattle.risc_model.proofs.RunLemmas.{exec-stopped, feed-stopped, run_of-over}
use Rattle.risc_search.specs.declared.access.Access.{Access}
use Rattle.risc_search.specs.declared.condition.Clause.{Clause}
use Rattle.risc_search.specs.declared.condition.Condition.{Condition}
use Rattle.risc_search.specs.declared.condition.Condition.TheVariants.{Counter, Store, Change, Load, Becomes, Sends, SendsByte, Takes, Stops, Writes, WritesFlags, Alters, Is, IsWord}
use Rattle.risc_search.specs.declared.hit.Hit.{Hit}
use Rattle.risc_search.specs.declared.register.Register.{Register}
use Rattle.risc_search.specs.Access.{next_access, next_instruction}
use Rattle.risc_search.specs.Condition.{Holds, IsNextWriting, IsNextWritingFlags}
use Rattle.risc_search.specs.Search.{IsFirst, IsHit, IsLast, IsMet, NoneHolds, NoneIn}
use Rattle.risc_search.specs.Step.{Step, step_at, step_from}
use Rattle.risc_search.proofs.ClauseLemmas.{first-holds}

-- the counts up to one more
pub none-more : (conditions : List Clause) (es : List Event) (from : ℕ) (s : State) (low at : ℕ) → NoneIn conditions es from s low at → NoneHolds conditions es (step_at es from s at) → NoneIn conditions es from s low (at + 1)
none-more conditions es from s low at before here = λ n after inside.
    elim (cases_eq n at) [
      | inl same ↦ let P : ℕ → Type 0 = λ (m : ℕ). NoneHolds conditions es (step_at es from s m) in subst P (sym same) here
      | inr other ↦ before n after (let ne : n ≢ at = other in omega arith)
    ]

-- a run that goes on
pub run-on : (es : List Event) (from at to : ℕ) (s t : State) → from ≤ at → at ≤ to → t ≡ run_of es from (at - from) s → run_of es at (to - at) t ≡ run_of es from (to - from) s
run-on es from at to s t reached later is =
    let place : at ≡ from + (at - from) = omega arith in
    let whole : at - from + (to - at) ≡ to - from = omega arith in
    ap (λ (x : State). run_of es at (to - at) x) is
    ∙ ap (λ (k : ℕ). run_of es k (to - at) (run_of es from (at - from) s)) place
    ∙ sym (run_of-on es from (at - from) (to - at) s)
    ∙ ap (λ (k : ℕ). run_of es from k s) whole

-- the counts up to one, and those from there on
pub none-both : (conditions : List Clause) (es : List Event) (from : ℕ) (s : State) (low at high : ℕ) → NoneIn conditions es from s low at → NoneIn conditions es from s at high → NoneIn conditions es from s low high
none-both conditions es from s low at high before rest = λ n after inside.
    elim (cases_lt n at) [
      | inl less ↦ before n after less
      | inr more ↦ rest n more inside
    ]

-- the step of a count of a run is that of the run that goes on from an earlier count
pub step-on : (es : List Event) (from at n : ℕ) (s t : State) → from ≤ at → at ≤ n → t ≡ run_of es from (at - from) s → step_at es at t n ≡ step_at es from s n
step-on es from at n s t reached later is = ap (λ (x : State). step_from es n x) (run-on es from at n s t reached later is)

-- and so is what holds at it
pub none-within : (conditions : List Clause) (es : List Event) (from at low high : ℕ) (s t : State) → from ≤ at → at ≤ low → t ≡ run_of es from (at - from) s → NoneIn conditions es at t low high → NoneIn conditions es from s low high
none-within conditions es from at low high s t reached later is none = λ n after inside.
    let P : Step → Type 0 = λ (step : Step). NoneHolds conditions es step in
    subst P (step-on es from at n s t reached (omega (arith, later, after)) is) (none n after inside)

pub none-from : (conditions : List Clause) (es : List Event) (from at high : ℕ) (s t : State) → from ≤ at → t ≡ run_of es from (at - from) s → NoneIn conditions es at t at high → NoneIn conditions es from s at high
none-from conditions es from at high s t reached is none = none-within conditions es from at at high s t reached (omega arith) is none

-- the first step at which one holds
pub first-here : (conditions : List Clause) (es : List Event) (from at end to : ℕ) (s : State) (index : ℕ) → from ≤ at → at < end → end ≤ to → NoneIn conditions es from s from at
    → NoneIn conditions es from s at (end - 1) → IsMet conditions es (step_at es from s (end - 1)) index → IsFirst conditions es from to s (Some (record { count = end - 1; condition = index }))
first-here conditions es from at end to s index reached more inside before rest met =
    (record { reached = omega arith; inside = omega arith; met = met }, none-both conditions es from s from at (end - 1) before rest)

-- ---- searches that go on from a hit

-- a search for the same conditions, with the same inputs
pub first-same : (cs conditions : List Clause) (is es : List Event) (from to : ℕ) (s : State) (found : Option Hit) → cs ≡ conditions → is ≡ es → IsFirst cs is from to s found → IsFirst conditions es from to s found
first-same cs conditions is es from to s found alike same first =
    subst (λ (xs : List Event). IsFirst conditions xs from to s found) same (subst (λ (xs : List Clause). IsFirst xs is from to s found) alike first)

-- where it goes on to
pub state-next : (is es : List Event) (from at next : ℕ) (s t u : State) → is ≡ es → from ≤ at → at ≤ next → t ≡ run_of es from (at - from) s → u ≡ run_of is at (next - at) t → u ≡ run_of es from (next - from) s
state-next is es from at next s t u same reached later before state =
    state ∙ ap (λ (xs : List Event). run_of xs at (next - at) t) same ∙ run-on es from at next s t reached later before

-- what holds at a step of a run that goes on holds at it of the whole
pub hit-from : (conditions : List Clause) (es : List Event) (from at to : ℕ) (s t : State) (hit : Hit) → from ≤ at → t ≡ run_of es from (at - from) s → IsHit conditions es at to t hit → IsHit conditions es from to s hit
hit-from conditions es from at to s t hit reached is found = record {
  reached = omega (arith, reached, found.reached);
  inside = found.inside;
  met = subst (λ (step : Step). IsMet conditions es step hit.condition) (step-on es from at hit.count s t reached found.reached is) found.met;
}

-- the last count so far, and none after it
pub last-more : (conditions : List Clause) (es : List Event) (from at to : ℕ) (s t : State) (found : Option Hit) → from ≤ at → at ≤ to → t ≡ run_of es from (at - from) s → IsLast conditions es from at s found → NoneIn conditions es at t at to → IsLast conditions es from to s found
last-more conditions es from at to s t None reached more is before rest = none-both conditions es from s from at to before (none-from conditions es from at to s t reached is rest)
last-more conditions es from at to s t (Some hit) reached more is before rest = (
  record { reached = before.0.reached; inside = omega (arith, before.0.inside, more); met = before.0.met },
  none-both conditions es from s (hit.count + 1) at to before.1 (none-from conditions es from at to s t reached is rest),
)

-- a count after it
pub last-hit : (conditions : List Clause) (es : List Event) (from at to : ℕ) (s t : State) (hit : Hit) → from ≤ at → t ≡ run_of es from (at - from) s → IsHit conditions es at to t hit → IsLast conditions es from (hit.count + 1) s (Some hit)
last-hit conditions es from at to s t hit reached is found =
    let here = hit-from conditions es from at to s t hit reached is found in
    (record { reached = here.reached; inside = omega arith; met = here.met }, λ n after inside. absurd (omega (arith, after, inside)))

-- a stopped machine accesses nothing
stopped-access : (t : State) (access : Access) → nat_eq t.cpu.stop 0 ≡ false → next_access t.cpu t.words ≡ Some access → ⊥
unfolding next_access
stopped-access t access stopped is = none-some access (rw stopped at is)

-- and writes no register and no flags
stopped-writes : (register : Register) (t : State) → nat_eq t.cpu.stop 0 ≡ false → IsNextWriting register t.cpu (next_instruction t.cpu t.words) → ⊥
unfolding next_instruction
stopped-writes register t stopped writes =
    let P : Bool → Type 0 = λ (b : Bool). IsNextWriting register t.cpu (cond (b && nat_lt t.cpu.pc (2 ^ 18)) (Some (instruction_of (get_or t.words t.cpu.pc 0))) None) in
    subst P stopped writes

stopped-writes-flags : (mask : ℕ) (t : State) → nat_eq t.cpu.stop 0 ≡ false → IsNextWritingFlags mask t.cpu (next_instruction t.cpu t.words) → ⊥
unfolding next_instruction
stopped-writes-flags mask t stopped writes =
    let P : Bool → Type 0 = λ (b : Bool). IsNextWritingFlags mask t.cpu (cond (b && nat_lt t.cpu.pc (2 ^ 18)) (Some (instruction_of (get_or t.words t.cpu.pc 0))) None) in
    subst P stopped writes

runs-not : (t : State) → nat_eq t.cpu.stop 0 ≡ false → t.cpu.stop ≡ 0 → ⊥
runs-not t stopped runs = search (arith, stopped, runs)

-- no condition holds of it
stopped-holds : (condition : Condition) (es : List Event) (n : ℕ) (t : State) → nat_eq t.cpu.stop 0 ≡ false → Holds condition es (record { count = n; before = t; after = t; sent = None }) → ⊥
stopped-holds (Counter words) es n t stopped holds = runs-not t stopped holds.0
stopped-holds (Store bytes) es n t stopped holds = stopped-access t holds.access stopped holds.is
stopped-holds (Change bytes mask) es n t stopped holds = holds.differs refl
stopped-holds (Load bytes) es n t stopped holds = stopped-access t holds.access stopped holds.is
stopped-holds (Becomes register value) es n t stopped holds = holds.was_not holds.is
stopped-holds Sends es n t stopped holds = search (arith, holds)
stopped-holds (SendsByte byte) es n t stopped holds = none-some byte holds
stopped-holds (Takes kind) es n t stopped holds = runs-not t stopped holds.0
stopped-holds Stops es n t stopped holds = runs-not t stopped holds.0
stopped-holds (Writes register) es n t stopped holds = stopped-writes register t stopped holds.writes
stopped-holds (WritesFlags mask) es n t stopped holds = stopped-writes-flags mask t stopped holds.writes
stopped-holds (Alters register mask) es n t stopped holds = holds refl
stopped-holds (Is register values) es n t stopped holds = runs-not t stopped holds.0
stopped-holds (IsWord number mask values) es n t stopped holds = runs-not t stopped holds.0

stopped-step : (es : List Event) (n : ℕ) (t : State) → nat_eq t.cpu.stop 0 ≡ false → step_from es n t ≡ record { count = n; before = t; after = t; sent = None }
stopped-step es n t stopped =
    let same : exec (feed es n t) ≡ (t, None) = ap (λ (x : State). exec x) (feed-stopped es n t stopped) ∙ exec-stopped t stopped in
    ap (λ (o : State × Option ℕ). record { count = n; before = t; after = o.0; sent = o.1 }) same

none-stopped : (conditions : List Clause) (es : List Event) (n : ℕ) (t : State) → nat_eq t.cpu.stop 0 ≡ false → NoneHolds conditions es (step_from es n t)
none-stopped conditions es n t stopped =
    let P : Step → Type 0 = λ (step : Step). NoneHolds conditions es step in
    subst P (sym (stopped-step es n t stopped)) (λ k holds. stopped-holds _ es n t stopped (first-holds conditions es _ k (record { condition = Sends; joined = false }) holds))

-- from where it stopped on
pub none-later : (conditions : List Clause) (es : List Event) (from at : ℕ) (s t : State) → from ≤ at → t ≡ run_of es from (at - from) s → nat_eq t.cpu.stop 0 ≡ false → (n : ℕ) → at ≤ n → NoneHolds conditions es (step_at es from s n)
none-later conditions es from at s t reached is stopped n later =
    let P : State → Type 0 = λ (x : State). NoneHolds conditions es (step_from es n x) in
    subst P (run_of-over es from at n s t reached later is stopped) (none-stopped conditions es n t stopped)

pub none-on : (conditions : List Clause) (es : List Event) (from : ℕ) (s : State) (low at to : ℕ) → NoneIn conditions es from s low at → ((n : ℕ) → at ≤ n → NoneHolds conditions es (step_at es from s n)) → NoneIn conditions es from s low to
none-on conditions es from s low at to before later = λ n after inside.
    elim (cases_lt n at) [
      | inl less ↦ before n after less
      | inr more ↦ later n more
    ]

-- the step of a machine that has come so far
pub step-here : (es : List Event) (from at : ℕ) (s t : State) → t ≡ run_of es from (at - from) s → step_from es at t ≡ step_at es from s at
step-here es from at s t is = ap (λ (x : State). step_from es at x) is
