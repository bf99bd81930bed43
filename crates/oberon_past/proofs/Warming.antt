-- The machine that a past keeps at its end.
use Rattle.std.proofs.Common.{◌≡◌, ◌∙◌, ◌<◌, ◌≤◌, ◌+◌, ◌-◌, ◌*◌, ℕ, List, Option, Some, None, ap, arith, get_or, length, refl, subst, sym}
use Rattle.std.specs.Prelude.{Err, IfSome, Ok, OnErr, OnOk, Result, if◌then◌else◌, is_ok}
use Rattle.std.proofs.Props.{props}
use Rattle.risc_machine.specs.Allocation.{Held}
use Rattle.risc_pages.specs.Tables.{IsNamed, table_words}
use Rattle.risc_model.specs.MachineState.{State}
use Rattle.risc_model.specs.Replay.{run_of}
use Rattle.risc_model.specs.declared.event.Event.{Event}
use Rattle.oberon_format.specs.CheckpointParts.{checkpoint_parts}
use Rattle.oberon_format.specs.Recording.{RecordingParts, parts_of}
use Rattle.oberon_format.specs.declared.checkpoint.Checkpoint.{Checkpoint}
use Rattle.oberon_past.proofs.Extending.{count-is, last-low, next-count, own-state, run-is, table-fits}
use Rattle.oberon_past.specs.Live.{AreSameUpTo}
use Rattle.oberon_past.specs.Past.{PastParts, past_of, reached}
use Rattle.oberon_past.specs.Run.{Run, state_at}
use Rattle.oberon_past.specs.declared.warm.Warm.{Warm}
use Rattle.oberon_past.specs.inner.Kept.{IsKept, state_of}
use Rattle.oberon_past.specs.inner.Warm.{IsAtEnd, IsWarm}

-- two proofs that it is at the end are one
pub warm-prop : (kept : RecordingParts) (spacing end : ℕ) (warm : Option Warm) (x y : IsWarm kept spacing end warm) → x ≡ y
warm-prop kept spacing end warm x y = let facts : IsProp (IsWarm kept spacing end warm) = hlevel props in facts x y

-- what holds of a value, if there is one
pub if-some : {T : Type 0} {P Q : T → Type 0} (o : Option T) → ((x : T) → P x → Q x) → IfSome o P → IfSome o Q
if-some (Some x) on holds = on x holds
if-some None on holds = tt

-- what holds of a list after a call that sets it, or leaves it as it was
pub either-way : {T E X : Type 0} (P : List X → Type 0) (r : Result T E) (with old new : List X) → OnOk r (new ≡ with) → OnErr r (new ≡ old)
    → (new ≡ with → P new) → P old → P new
either-way P (Ok x) with old new set left on holds = on set
either-way P (Err e) with old new set left on holds = subst P (sym left) holds

pub pushed-or-not : {T E X : Type 0} (P : List X → Type 0) (r : Result T E) (with old new : List X) → new ≡ (if is_ok r then with else old)
    → (new ≡ with → P new) → P old → P new
pushed-or-not P (Ok x) with old new set on holds = on set
pushed-or-not P (Err e) with old new set on holds = subst P (sym set) holds

-- the same run, in other words
pub warm-of : (old new : Run) (end : ℕ) (warm : Option Warm) → new ≡ old → IfSome warm (IsAtEnd old end) → IfSome warm (IsAtEnd new end)
warm-of old new end warm same is = subst (λ (r : Run). IfSome warm (IsAtEnd r end)) (sym same) is

at-end-same : (old new : Run) (end : ℕ) → AreSameUpTo end old new → (warm : Warm) → IsAtEnd old end warm → IsAtEnd new end warm
at-end-same old new end same warm is = record {
  state = is.state ∙ sym (same end (omega arith));
  base = is.base ∙ ap (λ (s : State). s.words) (sym (same warm.from is.earlier));
  earlier = is.earlier;
}

-- a run with the same states up to its end
pub warm-same : (old new : Run) (end : ℕ) (warm : Option Warm) → AreSameUpTo end old new → IfSome warm (IsAtEnd old end) → IfSome warm (IsAtEnd new end)
warm-same old new end warm same is = if-some warm (at-end-same old new end same) is

-- the machine that is kept is one at the end
pub kept-at-end : (run : Run) (end from : ℕ) (machine : Held) → machine.state ≡ state_at run end → machine.base ≡ (state_at run from).words → from ≤ end
    → (warm : Option Warm) → IfSome warm (λ w. w.machine ≡ machine) → IfSome warm (λ w. w.from ≡ from) → IfSome warm (IsAtEnd run end)
kept-at-end run end from machine state base low None is at = tt
kept-at-end run end from machine state base low (Some w) is at = record {
  state = ap (λ (m : Held). m.state) is ∙ state;
  base = ap (λ (m : Held). m.base) is ∙ base ∙ ap (λ (n : ℕ). (state_at run n).words) (sym at);
  earlier = omega (arith, at, low);
}

module _ (pool : List (List ℕ)) (inputs : List Event) (keyframes : List Checkpoint) (spacing end : ℕ)
    (is : IsKept (parts_of pool inputs keyframes) spacing end) (last : Checkpoint) (k : ℕ) (inside : k < length keyframes)
    (at : last ≡ get_or keyframes k last) (whole : k + 1 ≡ length keyframes) where
  abbrev past : PastParts
  past = past_of (parts_of pool inputs keyframes) spacing end

  here : past.run.start + k * spacing ≡ last.count
  here = sym (count-is pool inputs keyframes spacing end is last k inside at)

  last-state : (state_at past.run last.count).words ≡ table_words pool last.table.numbers
  last-state = ap (λ (n : ℕ). (state_at past.run n).words) (sym here) ∙ ap (λ (s : State). s.words) (own-state pool inputs keyframes spacing end is last k inside at)

  reached-last : reached past ≡ last.count
  reached-last = let next = next-count pool inputs keyframes spacing end is last k inside at whole (last.count + spacing) refl in omega arith

  -- its pages are in the pool
  pub last-named : IsNamed pool last.table.numbers
  last-named = (table-fits pool inputs keyframes spacing end is last k inside at).named

  -- the past as contracts see it
  module _ (p : PastParts) (view : past_of (parts_of pool inputs keyframes) spacing end ≡ p) where
    -- the last keyframe is at the count that the past has reached
    pub reached-is : reached p ≡ last.count
    reached-is = subst (λ (q : PastParts). reached q ≡ last.count) view reached-last

    pub words-are : (state_at p.run last.count).words ≡ table_words pool last.table.numbers
    words-are = subst (λ (q : PastParts). (state_at q.run last.count).words ≡ table_words pool last.table.numbers) view last-state

    pub reached-words : (state_at p.run (reached p)).words ≡ table_words pool last.table.numbers
    reached-words = ap (λ (n : ℕ). (state_at p.run n).words) reached-is ∙ words-are

    -- a run from it to the end
    pub run-to-end : run_of inputs last.count (end - last.count) (state_of pool (checkpoint_parts last)) ≡ state_at p.run p.end
    run-to-end =
        let low = last-low pool inputs keyframes spacing end is last k inside at whole in
        subst (λ (q : PastParts). run_of inputs last.count (end - last.count) (state_of pool (checkpoint_parts last)) ≡ state_at q.run q.end) view
        (run-is pool inputs keyframes spacing end is last k inside at end low)

    -- the words that the machine began with, if it began with those of the last keyframe
    pub warm-base : (warm : Warm) → IsAtEnd p.run p.end warm → warm.from ≡ last.count → table_words pool last.table.numbers ≡ warm.machine.base
    warm-base warm w from = sym (w.base ∙ ap (λ (n : ℕ). (state_at p.run n).words) from ∙ words-are)

    -- its words, if the last keyframe is at the end
    pub warm-words : (warm : Warm) → IsAtEnd p.run p.end warm → p.end ≡ last.count → table_words pool last.table.numbers ≡ warm.machine.state.words
    warm-words warm w ends = sym (ap (λ (s : State). s.words) w.state ∙ ap (λ (n : ℕ). (state_at p.run n).words) ends ∙ words-are)
