-- Steps: one without inputs, and what is observed of a step.
use Rattle.std.proofs.Common.{Bool, false, true, not, refl, ◌≡◌, ◌∙◌, ◌+◌, ◌-◌, ℕ, List, Option, [], ◌++◌, ap, sym, subst, arith}
use Rattle.std.specs.Option.{option_to_list}
use Rattle.std.specs.Prelude.{None, Some, is_some, slice_get}
use Rattle.std.proofs.lemmas.Bool.{true≢false}
use Rattle.risc_model.specs.declared.event.Event.{Event}
use Rattle.risc_model.specs.MachineState.{State}
use Rattle.risc_model.specs.Exec.{exec}
use Rattle.risc_model.specs.Replay.{feed, run_of, sent_of}
use Rattle.risc_model.proofs.RunLemmas.{fed-others, feed-nothing, run_of-more, run_of-none, sent_of-more, sent_of-none}
use Rattle.risc_search.specs.Condition.{HasInput}
use Rattle.risc_search.specs.declared.access.Access.{Access}
use Rattle.risc_search.specs.declared.before.Before.{Before}
use Rattle.risc_search.specs.declared.stored_word.StoredWord.{StoredWord}
use Rattle.risc_search.specs.inner.Due.{HasKind, IsQuiet}
use Rattle.risc_search.specs.inner.Observed.{HasStoredAlone, IsBefore, IsChange}
use Rattle.risc_search.proofs.StoreLemmas.{step-alone}

-- at a count without inputs, the machine takes none
pub quiet-feed : (es : List Event) (at : ℕ) (s : State) → IsQuiet es at (at + 1) → feed es at s ≡ s
quiet-feed es at s quiet = feed-nothing es at s (fed-others es at s.devices (λ k inside. quiet at (omega arith) (omega arith) k inside))

-- no input has the count
pub none-taken : (es : List Event) (at : ℕ) → IsQuiet es at (at + 1) → (kind : ℕ) → HasInput kind es at → HasKind kind []
none-taken es at quiet kind has = absurd (quiet at (omega arith) (omega arith) has.index has.inside has.count)

pub none-there : (kind : ℕ) (es : List Event) (at : ℕ) → HasKind kind [] → HasInput kind es at
none-there kind es at has = absurd (omega (arith, has.inside))

-- the word that an instruction stored to, by what was known before it
pub stored-word : (before : Before) (stored : Option StoredWord) (es : List Event) (at : ℕ) (s t : State) (after : List ℕ) → IsBefore before s → t ≡ (exec (feed es at s)).0 → after ≡ t.words
    → ((s : State) → IsBefore before s → HasStoredAlone before.access s.words after → IsChange s.words after stored) → IsChange s.words (exec (feed es at s)).0.words stored
stored-word before stored es at s t after is done words kept =
    let same : after ≡ (exec (feed es at s)).0.words = words ∙ ap (λ (x : State). x.words) done in
    let P : Option Access → Type 0 = λ (access : Option Access). HasStoredAlone access s.words (exec (feed es at s)).0.words in
    let alone : HasStoredAlone before.access s.words (exec (feed es at s)).0.words = subst P (sym is.access) (step-alone es at s) in
    let Q : List ℕ → Type 0 = λ (ws : List ℕ). HasStoredAlone before.access s.words ws in
    let R : List ℕ → Type 0 = λ (ws : List ℕ). IsChange s.words ws stored in
    subst R same (kept s is (subst Q (sym same) alone))

-- the only byte that a step sends, if any
pub sent-first : (sent : List ℕ) (o first : Option ℕ) → sent ≡ option_to_list o → first ≡ slice_get sent 0 → first ≡ o
sent-first sent None first is got = got ∙ ap (λ (xs : List ℕ). slice_get xs 0) is
sent-first sent (Some byte) first is got = got ∙ ap (λ (xs : List ℕ). slice_get xs 0) is

-- a run of one step
pub one-run : (es : List Event) (at : ℕ) (s : State) → run_of es at (at + 1 - at) s ≡ (exec (feed es at s)).0
one-run es at s =
    run_of-more es at at s (omega arith) ∙ ap (λ (x : State). (exec (feed es at x)).0) (run_of-none es at (at - at) s (omega arith))

-- what it sends
pub one-sent : (es : List Event) (at : ℕ) (s : State) (old new : List ℕ) → old ≡ [] → new ≡ old ++ sent_of es at (at + 1 - at) s → new ≡ option_to_list (exec (feed es at s)).1
one-sent es at s old new none is =
    is
    ∙ ap (λ (xs : List ℕ). xs ++ sent_of es at (at + 1 - at) s) none
    ∙ sent_of-more es at at s (omega arith)
    ∙ ap (λ (xs : List ℕ). xs ++ option_to_list (exec (feed es at (run_of es at (at - at) s))).1) (sent_of-none es at (at - at) s (omega arith))
    ∙ ap (λ (x : State). option_to_list (exec (feed es at x)).1) (run_of-none es at (at - at) s (omega arith))

-- an option that is none
pub none-of : (o : Option ℕ) → is_some o ≡ false → o ≡ None
none-of None none = refl
none-of (Some x) none = absurd (true≢false none)

pub not-not : (b : Bool) → not b ≡ false → b ≡ true
not-not true h = refl
not-not false h = absurd (true≢false h)

pub not-true : (b : Bool) → not b ≡ true → b ≡ false
not-true true h = absurd (true≢false (sym h))
not-true false h = refl
