-- Open calls of a run that continues a run.
use Rattle.std.proofs.Common.{◌≡◌, ℕ, zero, suc, ◌+◌, List, [], ◌++◌, length, Option, refl, ap, sym, ◌∙◌, arith, add-suc, add-zero}
use Rattle.risc_model.specs.declared.call.Call.{Call}
use Rattle.risc_model.specs.declared.call.Turn.{Turn}
use Rattle.risc_model.specs.declared.event.Event.{Event}
use Rattle.risc_model.specs.MachineState.{State}
use Rattle.risc_model.specs.Replay.{feed, run_of, begun_at}
use Rattle.risc_model.specs.Calls.{opened, open_after}
use Rattle.std.specs.Option.{option_to_list}
use Rattle.std.proofs.lemmas.List.{append-nil, append_assoc}
use Rattle.risc_model.specs.Turns.{turns, turn_or_none, step_turn}
use Rattle.risc_model.specs.Inclusive.{sum_with_calls}
use Rattle.risc_model.proofs.LawLemmas.{run_of-on}

pub open-none : (limit : ℕ) (es : List Event) (from : ℕ) (s : State) (stack : List Call) → open_after limit es from 0 s stack ≡ stack
unfolding open_after
open-none limit es from s stack = refl

pub open-suc : (limit : ℕ) (es : List Event) (from n : ℕ) (s : State) (stack : List Call) →
    open_after limit es from (suc n) s stack ≡ opened limit (from + n) (begun_at es from (from + n) s) (open_after limit es from n s stack)
unfolding open_after
open-suc limit es from n s stack = refl

begun-run : (es : List Event) (from n : ℕ) (s : State) → begun_at es from (from + n) s ≡ feed es (from + n) (run_of es from n s)
begun-run es from n s = ap (λ (k : ℕ). feed es (from + n) (run_of es from k s)) (omega arith)

pub open-on : (limit : ℕ) (es : List Event) (from a b : ℕ) (s : State) (stack : List Call) →
    open_after limit es from (a + b) s stack ≡ open_after limit es (from + a) b (run_of es from a s) (open_after limit es from a s stack)
open-on limit es from a zero s stack =
    rw add-zero (sym (open-none limit es (from + a) (run_of es from a s) (open_after limit es from a s stack)))
open-on limit es from a (suc b) s stack =
    let t = run_of es from a s in
    let rest = open-on limit es from a b s stack in
    let same : feed es (from + (a + b)) (run_of es from (a + b) s) ≡ feed es (from + a + b) (run_of es (from + a) b t) =
    ap (λ (k : ℕ). feed es k (run_of es from (a + b) s)) (let e : from + (a + b) ≡ from + a + b = omega arith in e)
    ∙ ap (λ (x : State). feed es (from + a + b) x) (run_of-on es from a b s) in
    let begun = begun-run es from (a + b) s ∙ same ∙ sym (begun-run es (from + a) b t) in
    let e : from + (a + b) ≡ from + a + b = omega arith in
    rw add-suc (
    open-suc limit es from (a + b) s stack
    ∙ ap (λ (k : ℕ). opened limit k (begun_at es from (from + (a + b)) s) (open_after limit es from (a + b) s stack)) e
    ∙ ap (λ (x : State). opened limit (from + a + b) x (open_after limit es from (a + b) s stack)) begun
    ∙ ap (λ (l : List Call). opened limit (from + a + b) (begun_at es (from + a) (from + a + b) t) l) rest
    ∙ sym (open-suc limit es (from + a) b t (open_after limit es from a s stack)))

-- the step after a + b steps is the one after b steps from where a steps lead
begun-on : (es : List Event) (from a b : ℕ) (s : State) →
    begun_at es from (from + (a + b)) s ≡ begun_at es (from + a) (from + a + b) (run_of es from a s)
begun-on es from a b s =
    let t = run_of es from a s in
    begun-run es from (a + b) s
    ∙ ap (λ (k : ℕ). feed es k (run_of es from (a + b) s)) (let e : from + (a + b) ≡ from + a + b = omega arith in e)
    ∙ ap (λ (x : State). feed es (from + a + b) x) (run_of-on es from a b s)
    ∙ sym (begun-run es (from + a) b t)

pub with_calls-none : (f : ℕ → State → List Call → ℕ) (limit : ℕ) (es : List Event) (from : ℕ) (s : State) (stack : List Call) →
    sum_with_calls f limit es from 0 s stack ≡ 0
unfolding sum_with_calls
with_calls-none f limit es from s stack = refl

pub with_calls-suc : (f : ℕ → State → List Call → ℕ) (limit : ℕ) (es : List Event) (from n : ℕ) (s : State) (stack : List Call) →
    sum_with_calls f limit es from (suc n) s stack
    ≡ sum_with_calls f limit es from n s stack + f (from + n) (begun_at es from (from + n) s) (open_after limit es from n s stack)
unfolding sum_with_calls
with_calls-suc f limit es from n s stack = refl

-- sums of two runs that follow one another
pub with_calls-on : (f : ℕ → State → List Call → ℕ) (limit : ℕ) (es : List Event) (from a b : ℕ) (s : State) (stack : List Call) →
    sum_with_calls f limit es from (a + b) s stack
    ≡ sum_with_calls f limit es from a s stack
    + sum_with_calls f limit es (from + a) b (run_of es from a s) (open_after limit es from a s stack)
with_calls-on f limit es from a zero s stack =
    let none = with_calls-none f limit es (from + a) (run_of es from a s) (open_after limit es from a s stack) in
    rw add-zero (omega arith)
with_calls-on f limit es from a (suc b) s stack =
    let t = run_of es from a s in
    let now = open_after limit es from a s stack in
    let rest = with_calls-on f limit es from a b s stack in
    let left = with_calls-suc f limit es from (a + b) s stack in
    let right = with_calls-suc f limit es (from + a) b t now in
    let same : f (from + (a + b)) (begun_at es from (from + (a + b)) s) (open_after limit es from (a + b) s stack)
    ≡ f (from + a + b) (begun_at es (from + a) (from + a + b) t) (open_after limit es (from + a) b t now) =
    ap (λ (k : ℕ). f k (begun_at es from (from + (a + b)) s) (open_after limit es from (a + b) s stack))
    (let e : from + (a + b) ≡ from + a + b = omega arith in e)
    ∙ ap (λ (x : State). f (from + a + b) x (open_after limit es from (a + b) s stack)) (begun-on es from a b s)
    ∙ ap (λ (l : List Call). f (from + a + b) (begun_at es (from + a) (from + a + b) t) l) (open-on limit es from a b s stack) in
    rw add-suc (omega arith)

-- the turn of the step after n steps, if any
abbrev pub turn_at : ℕ → ℕ → State → List Call → Option Turn
turn_at limit n t stack = turn_or_none (step_turn limit n t stack) (length stack)

pub turns-none : (limit : ℕ) (es : List Event) (from : ℕ) (s : State) (stack : List Call) → turns limit es from 0 s stack ≡ []
unfolding turns
turns-none limit es from s stack = refl

pub turns-suc : (limit : ℕ) (es : List Event) (from n : ℕ) (s : State) (stack : List Call) →
    turns limit es from (suc n) s stack
    ≡ turns limit es from n s stack
    ++ option_to_list (turn_at limit (from + n) (begun_at es from (from + n) s) (open_after limit es from n s stack))
unfolding turns
turns-suc limit es from n s stack = refl

-- turns of two runs that follow one another
pub turns-on : (limit : ℕ) (es : List Event) (from a b : ℕ) (s : State) (stack : List Call) →
    turns limit es from (a + b) s stack
    ≡ turns limit es from a s stack ++ turns limit es (from + a) b (run_of es from a s) (open_after limit es from a s stack)
turns-on limit es from a zero s stack =
    rw add-zero (rw (turns-none limit es (from + a) (run_of es from a s) (open_after limit es from a s stack))
    (sym (append-nil (turns limit es from a s stack))))
turns-on limit es from a (suc b) s stack =
    let t = run_of es from a s in
    let now = open_after limit es from a s stack in
    let before = turns limit es from a s stack in
    let same : turn_at limit (from + (a + b)) (begun_at es from (from + (a + b)) s) (open_after limit es from (a + b) s stack)
    ≡ turn_at limit (from + a + b) (begun_at es (from + a) (from + a + b) t) (open_after limit es (from + a) b t now) =
    ap (λ (k : ℕ). turn_at limit k (begun_at es from (from + (a + b)) s) (open_after limit es from (a + b) s stack))
    (let e : from + (a + b) ≡ from + a + b = omega arith in e)
    ∙ ap (λ (x : State). turn_at limit (from + a + b) x (open_after limit es from (a + b) s stack)) (begun-on es from a b s)
    ∙ ap (λ (l : List Call). turn_at limit (from + a + b) (begun_at es (from + a) (from + a + b) t) l) (open-on limit es from a b s stack) in
    rw add-suc (
    turns-suc limit es from (a + b) s stack
    ∙ ap (λ (l : List Turn). l ++ option_to_list (turn_at limit (from + (a + b)) (begun_at es from (from + (a + b)) s) (open_after limit es from (a + b) s stack))) (turns-on limit es from a b s stack)
    ∙ ap (λ (o : Option Turn). (before ++ turns limit es (from + a) b t now) ++ option_to_list o) same
    ∙ append_assoc before (turns limit es (from + a) b t now) (option_to_list (turn_at limit (from + a + b) (begun_at es (from + a) (from + a + b) t) (open_after limit es (from + a) b t now)))
    ∙ ap (λ (l : List Turn). before ++ l) (sym (turns-suc limit es (from + a) b t now)))
