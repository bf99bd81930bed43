-- A condition holds at a step if it is armed before the instruction and met after it, and only then.
use Rattle.std.proofs.Common.{refl, ◌≡◌, ◌≢◌, ◌∙◌, ◌+◌, ◌*◌, ◌/◌, ◌<◌, ℕ, false, List, Option, None, Some, length, get_or, get_or-set_other, get_or-set_same, slice_set, ap, sym, subst, inl, inr, arith}
use Rattle.std.specs.Prelude.{◌↔◌, IfNone, IfSome, IsSome, IsTrue, MatchOption}
use Rattle.std.proofs.lemmas.Bool.{cases_eq}
use Rattle.std.proofs.lemmas.List.{get_or_default}
use Rattle.std.proofs.lemmas.Option.{none-some}
use Rattle.risc_core.specs.Word.{bit}
use Rattle.risc_model.specs.declared.event.Event.{Event}
use Rattle.risc_model.specs.MachineState.{CpuState, State}
use Rattle.risc_search.specs.declared.access.Access.{Access}
use Rattle.risc_search.specs.declared.condition.Clause.{Clause}
use Rattle.risc_search.specs.declared.condition.Condition.{Condition}
use Rattle.risc_search.specs.declared.condition.Condition.TheVariants.{Counter, Store, Change, Load, Becomes, Sends, SendsByte, Takes, Stops, Writes, WritesFlags, Alters, Is, IsWord}
use Rattle.risc_search.specs.declared.meeting.Armed.{Armed}
use Rattle.risc_search.specs.declared.span.Span.{Span}
use Rattle.risc_search.specs.declared.stored_word.StoredWord.{StoredWord}
use Rattle.risc_search.specs.Access.{next_access}
use Rattle.risc_search.specs.Changes.{Differ}
use Rattle.risc_search.specs.Clauses.{HoldsFrom}
use Rattle.risc_search.specs.Condition.{HasInput, Holds, masked, register_value}
use Rattle.risc_search.specs.Search.{IsMet, NoneHolds}
use Rattle.risc_search.specs.Span.{IsIn}
use Rattle.risc_search.specs.Step.{Step}
use Rattle.risc_search.specs.inner.Due.{HasKind}
use Rattle.risc_search.proofs.ClauseLemmas.{all-hold, all-map, first-holds, holds-all}
use Rattle.risc_search.specs.inner.Observed.{AreArmed, AreMetFrom, Differs, HasStoredAlone, IsAnswer, IsArmed, IsChange, IsKnown, IsMetAfter, IsMetAt, IsOnlyChange, armed_at, old_value, word_stored}

-- what is observed of a step: its parts
pub record IsObserved
    (taken : List Event) (cpu : CpuState) (stored : Option StoredWord) (sent : Option ℕ)
    (es : List Event) (step : Step)
    : Type 0 where
  pub taken_is : (kind : ℕ) → HasKind kind taken ↔ HasInput kind es step.count
  pub cpu_is : cpu ≡ step.after.cpu
  pub change : IsChange step.before.words step.after.words stored
  pub sent_is : sent ≡ step.sent
  pub there : IsSome stored → IsSome (word_stored (next_access step.before.cpu step.before.words))

-- a bit of memory differs where one of the word that was stored to does
differ-here : (bytes : Span) (mask : ℕ) (before after : List ℕ) (word : StoredWord) → IsOnlyChange before after word → Differs bytes mask word → Differ bytes mask before after
differ-here bytes mask before after word change d = record {
  word = word.number;
  index = d.index;
  inside = d.inside;
  named = d.at.named;
  byte = d.at.byte;
  differs = λ same. d.at.differs (ap (λ (w : ℕ). bit w d.index) (sym change.old) ∙ same ∙ ap (λ (w : ℕ). bit w d.index) change.new);
}

differs-here : (bytes : Span) (mask : ℕ) (before after : List ℕ) (word : StoredWord) → IsOnlyChange before after word → Differ bytes mask before after → Differs bytes mask word
differs-here bytes mask before after word change d =
    elim (cases_eq d.word word.number) [
      | inl same ↦
          let old : get_or before d.word 0 ≡ word.old = ap (λ (w : ℕ). get_or before w 0) same ∙ change.old in
          let new : get_or after d.word 0 ≡ word.new = ap (λ (w : ℕ). get_or after w 0) same ∙ change.new in
          record {
            index = d.index;
            inside = d.inside;
            at = record {
              named = d.named;
              byte = subst (λ (w : ℕ). IsIn bytes (4 * w + d.index / 8)) same d.byte;
              differs = λ equal. d.differs (ap (λ (w : ℕ). bit w d.index) old ∙ equal ∙ ap (λ (w : ℕ). bit w d.index) (sym new));
            };
          }
      | inr other ↦ absurd (d.differs (ap (λ (w : ℕ). bit w d.index) (sym (change.others d.word other))))
    ]

pub holds-of : (condition : Condition) (taken : List Event) (cpu : CpuState) (stored : Option StoredWord) (sent : Option ℕ) (es : List Event) (step : Step)
    → IsObserved taken cpu stored sent es step → IsArmed condition step.before taken → IsMetAfter condition (old_value condition step.before.cpu) cpu stored sent → Holds condition es step
holds-of (Counter words) taken cpu stored sent es step o armed met = armed
holds-of (Store bytes) taken cpu stored sent es step o armed met = armed
holds-of (Change bytes mask) taken cpu None sent es step o armed met = absurd met
holds-of (Change bytes mask) taken cpu (Some word) sent es step o armed met = differ-here bytes mask step.before.words step.after.words word o.change met
holds-of (Load bytes) taken cpu stored sent es step o armed met = armed
holds-of (Becomes register value) taken cpu stored sent es step o armed met = record { was_not = armed; is = ap (λ (c : CpuState). register_value register c) (sym o.cpu_is) ∙ met }
holds-of Sends taken cpu stored sent es step o armed met = subst (λ (s : Option ℕ). IsSome s) o.sent_is met
holds-of (SendsByte byte) taken cpu stored sent es step o armed met = sym o.sent_is ∙ met
holds-of (Takes kind) taken cpu stored sent es step o armed met = (armed.0, (o.taken_is kind).0 armed.1)
holds-of Stops taken cpu stored sent es step o armed met = (armed, λ same. met (ap (λ (c : CpuState). c.stop) o.cpu_is ∙ same))
holds-of (Writes register) taken cpu stored sent es step o armed met = record { writes = armed; goes_on = ap (λ (c : CpuState). c.stop) (sym o.cpu_is) ∙ met }
holds-of (WritesFlags mask) taken cpu stored sent es step o armed met = record { writes = armed; goes_on = ap (λ (c : CpuState). c.stop) (sym o.cpu_is) ∙ met }
holds-of (Alters register mask) taken cpu stored sent es step o armed met = λ same. met (ap (λ (c : CpuState). masked register mask c) o.cpu_is ∙ same)
holds-of (Is register values) taken cpu stored sent es step o armed met = armed
holds-of (IsWord number mask values) taken cpu stored sent es step o armed met = armed

change-met : (bytes : Span) (mask : ℕ) (before after : List ℕ) (access : Option Access) (stored : Option StoredWord) → IsChange before after stored → (IsSome stored → IsSome (word_stored access)) → Differ bytes mask before after
    → IsSome (word_stored access) × MatchOption stored ⊥ (Differs bytes mask)
change-met bytes mask before after access None change there d = absurd (d.differs (ap (λ (w : ℕ). bit w d.index) (sym (change d.word))))
change-met bytes mask before after access (Some word) change there d = (there refl, differs-here bytes mask before after word change d)

pub parts-of : (condition : Condition) (taken : List Event) (cpu : CpuState) (stored : Option StoredWord) (sent : Option ℕ) (es : List Event) (step : Step)
    → IsObserved taken cpu stored sent es step → Holds condition es step → IsArmed condition step.before taken × IsMetAfter condition (old_value condition step.before.cpu) cpu stored sent
parts-of (Counter words) taken cpu stored sent es step o holds = (holds, tt)
parts-of (Store bytes) taken cpu stored sent es step o holds = (holds, tt)
parts-of (Change bytes mask) taken cpu stored sent es step o holds = change-met bytes mask step.before.words step.after.words (next_access step.before.cpu step.before.words) stored o.change o.there holds
parts-of (Load bytes) taken cpu stored sent es step o holds = (holds, tt)
parts-of (Becomes register value) taken cpu stored sent es step o holds = (holds.was_not, ap (λ (c : CpuState). register_value register c) o.cpu_is ∙ holds.is)
parts-of Sends taken cpu stored sent es step o holds = (tt, subst (λ (s : Option ℕ). IsSome s) (sym o.sent_is) holds)
parts-of (SendsByte byte) taken cpu stored sent es step o holds = (tt, o.sent_is ∙ holds)
parts-of (Takes kind) taken cpu stored sent es step o holds = ((holds.0, (o.taken_is kind).1 holds.1), tt)
parts-of Stops taken cpu stored sent es step o holds = (holds.0, λ same. holds.1 (ap (λ (c : CpuState). c.stop) (sym o.cpu_is) ∙ same))
parts-of (Writes register) taken cpu stored sent es step o holds = (holds.writes, ap (λ (c : CpuState). c.stop) o.cpu_is ∙ holds.goes_on)
parts-of (WritesFlags mask) taken cpu stored sent es step o holds = (holds.writes, ap (λ (c : CpuState). c.stop) o.cpu_is ∙ holds.goes_on)
parts-of (Alters register mask) taken cpu stored sent es step o holds = (tt, λ same. holds (ap (λ (c : CpuState). masked register mask c) (sym o.cpu_is) ∙ same))
parts-of (Is register values) taken cpu stored sent es step o holds = (holds, tt)
parts-of (IsWord number mask values) taken cpu stored sent es step o holds = (holds, tt)

-- ---- the conditions of a list

any : Clause
any = record { condition = Sends; joined = false }

-- what is known of the clauses before an index, and of the one there
abbrev not_armed : Armed
not_armed = record { is_armed = false; old = 0 }

pub known-more : (conditions : List Clause) (s : State) (taken : List Event) (armed : List Armed) (index : ℕ) (new : Armed) → index < length armed
    → ((d : Clause) → IsKnown (get_or conditions index d).condition s taken new) → ((k : ℕ) (d : Clause) → k < index → IsKnown (get_or conditions k d).condition s taken (armed_at armed k))
    → (k : ℕ) (d : Clause) → k < index + 1 → IsKnown (get_or conditions k d).condition s taken (armed_at (slice_set armed index new) k)
known-more conditions s taken armed index new inside here before k d below =
    elim (cases_eq k index) [
      | inl same ↦
          subst (λ (n : ℕ). IsKnown (get_or conditions n d).condition s taken (armed_at (slice_set armed index new) n)) (sym same)
          (subst (λ (a : Armed). IsKnown (get_or conditions index d).condition s taken a) (sym (get_or-set_same armed index new not_armed inside)) (here d))
      | inr other ↦
          subst (λ (a : Armed). IsKnown (get_or conditions k d).condition s taken a) (sym (get_or-set_other armed index k new not_armed other))
          (before k d (let ne : k ≢ index = other in omega (arith, below)))
    ]

-- none of them is armed
pub none-known : (armed : List Armed) (index : ℕ) (new : Armed) → index < length armed → ¬ (IsTrue new.is_armed) → ((k : ℕ) → k < index → ¬ (IsTrue (armed_at armed k).is_armed))
    → (k : ℕ) → k < index + 1 → ¬ (IsTrue (armed_at (slice_set armed index new) k).is_armed)
none-known armed index new inside here before k below =
    elim (cases_eq k index) [
      | inl same ↦
          subst (λ (n : ℕ). ¬ (IsTrue (armed_at (slice_set armed index new) n).is_armed)) (sym same)
          (subst (λ (a : Armed). ¬ (IsTrue a.is_armed)) (sym (get_or-set_same armed index new not_armed inside)) here)
      | inr other ↦
          subst (λ (a : Armed). ¬ (IsTrue a.is_armed)) (sym (get_or-set_other armed index k new not_armed other))
          (before k (let ne : k ≢ index = other in omega (arith, below)))
    ]

-- what holds at an index is armed and met there
met-there : (conditions : List Clause) (armed : List Armed) (taken : List Event) (cpu : CpuState) (stored : Option StoredWord) (sent : Option ℕ) (es : List Event) (step : Step) (k : ℕ) (d : Clause)
    → AreArmed conditions step.before taken armed → IsObserved taken cpu stored sent es step → k < length conditions → Holds (get_or conditions k d).condition es step → IsMetAt conditions armed cpu stored sent k
met-there conditions armed taken cpu stored sent es step k d are o inside holds = λ e.
    let same : get_or conditions k d ≡ get_or conditions k e = get_or_default conditions k d e inside in
    let parts = parts-of (get_or conditions k e).condition taken cpu stored sent es step o (subst (λ (c : Clause). Holds c.condition es step) same holds) in
    let known = are k e inside in
    (known.armed.1 parts.0, subst (λ (old : ℕ). IsMetAfter (get_or conditions k e).condition old cpu stored sent) (sym known.old) parts.1)

-- a condition that holds is met
met-from : (conditions : List Clause) (armed : List Armed) (taken : List Event) (cpu : CpuState) (stored : Option StoredWord) (sent : Option ℕ) (es : List Event) (step : Step) (first : ℕ)
    → AreArmed conditions step.before taken armed → IsObserved taken cpu stored sent es step → HoldsFrom conditions es step first → AreMetFrom conditions armed cpu stored sent first
met-from conditions armed taken cpu stored sent es step first are o holds =
    all-map conditions _ _ first (λ k inside held. met-there conditions armed taken cpu stored sent es step k any are o inside (held any)) (all-hold conditions es step first holds)

-- and one that is met holds
holds-from : (conditions : List Clause) (armed : List Armed) (taken : List Event) (cpu : CpuState) (stored : Option StoredWord) (sent : Option ℕ) (es : List Event) (step : Step) (first : ℕ)
    → AreArmed conditions step.before taken armed → IsObserved taken cpu stored sent es step → AreMetFrom conditions armed cpu stored sent first → HoldsFrom conditions es step first
holds-from conditions armed taken cpu stored sent es step first are o met =
    holds-all conditions es step first (all-map conditions _ _ first (λ k inside here d.
    let known = are k d inside in
    holds-of (get_or conditions k d).condition taken cpu stored sent es step o (known.armed.0 (here d).0)
    (subst (λ (old : ℕ). IsMetAfter (get_or conditions k d).condition old cpu stored sent) known.old (here d).1)) met)

none-met : (conditions : List Clause) (armed : List Armed) (taken : List Event) (cpu : CpuState) (stored : Option StoredWord) (sent : Option ℕ) (es : List Event) (step : Step)
    → AreArmed conditions step.before taken armed → IsObserved taken cpu stored sent es step → ((k : ℕ) → k < length conditions → ¬ (AreMetFrom conditions armed cpu stored sent k)) → NoneHolds conditions es step
none-met conditions armed taken cpu stored sent es step are o none = λ k holds. none k holds.inside (met-from conditions armed taken cpu stored sent es step k are o holds)

-- an instruction that changes a word stores to it
some-stored : (o : Option ℕ) (bytes : Span) (mask : ℕ) (before after : List ℕ) → ((w : ℕ) → o ≢ Some w → get_or after w 0 ≡ get_or before w 0) → Differ bytes mask before after → IsSome o
some-stored None bytes mask before after same d = absurd (d.differs (ap (λ (w : ℕ). bit w d.index) (sym (same d.word (none-some d.word)))))
some-stored (Some w) bytes mask before after same d = refl

-- what holds is armed, whatever is known after the instruction
armed-of : (condition : Condition) (taken : List Event) (es : List Event) (step : Step)
    → ((kind : ℕ) → HasKind kind taken ↔ HasInput kind es step.count) → HasStoredAlone (next_access step.before.cpu step.before.words) step.before.words step.after.words
    → Holds condition es step → IsArmed condition step.before taken
armed-of (Counter words) taken es step taken_is alone holds = holds
armed-of (Store bytes) taken es step taken_is alone holds = holds
armed-of (Change bytes mask) taken es step taken_is alone holds = some-stored (word_stored (next_access step.before.cpu step.before.words)) bytes mask step.before.words step.after.words alone holds
armed-of (Load bytes) taken es step taken_is alone holds = holds
armed-of (Becomes register value) taken es step taken_is alone holds = holds.was_not
armed-of Sends taken es step taken_is alone holds = tt
armed-of (SendsByte byte) taken es step taken_is alone holds = tt
armed-of (Takes kind) taken es step taken_is alone holds = (holds.0, (taken_is kind).1 holds.1)
armed-of Stops taken es step taken_is alone holds = holds.0
armed-of (Writes register) taken es step taken_is alone holds = holds.writes
armed-of (WritesFlags mask) taken es step taken_is alone holds = holds.writes
armed-of (Alters register mask) taken es step taken_is alone holds = tt
armed-of (Is register values) taken es step taken_is alone holds = holds
armed-of (IsWord number mask values) taken es step taken_is alone holds = holds

-- none is armed, so none holds
pub none-armed : (conditions : List Clause) (armed : List Armed) (taken : List Event) (es : List Event) (step : Step)
    → AreArmed conditions step.before taken armed → ((kind : ℕ) → HasKind kind taken ↔ HasInput kind es step.count)
    → HasStoredAlone (next_access step.before.cpu step.before.words) step.before.words step.after.words → ((k : ℕ) → k < length conditions → ¬ (IsTrue (armed_at armed k).is_armed)) → NoneHolds conditions es step
none-armed conditions armed taken es step are taken_is alone none = λ k holds.
    none k holds.inside ((are k any holds.inside).armed.1 (armed-of (get_or conditions k any).condition taken es step taken_is alone (first-holds conditions es step k any holds)))

pub first-is_met : (conditions : List Clause) (armed : List Armed) (taken : List Event) (cpu : CpuState) (stored : Option StoredWord) (sent : Option ℕ) (es : List Event) (step : Step) (index : ℕ)
    → AreArmed conditions step.before taken armed → IsObserved taken cpu stored sent es step → AreMetFrom conditions armed cpu stored sent index
    → ((k : ℕ) → k < index → ¬ (AreMetFrom conditions armed cpu stored sent k)) → IsMet conditions es step index
first-is_met conditions armed taken cpu stored sent es step index are o met least = record {
  holds = holds-from conditions armed taken cpu stored sent es step index are o met;
  least = λ k below holds. least k below (met-from conditions armed taken cpu stored sent es step k are o holds);
}

-- what the tests of a step answer
pub is_answer : (conditions : List Clause) (armed : List Armed) (taken : List Event) (cpu : CpuState) (stored : Option StoredWord) (sent : Option ℕ) (es : List Event) (step : Step) (met : Option ℕ)
    → AreArmed conditions step.before taken armed → IsObserved taken cpu stored sent es step → IfSome met (AreMetFrom conditions armed cpu stored sent)
    → IfSome met (λ index. (k : ℕ) → k < index → ¬ (AreMetFrom conditions armed cpu stored sent k)) → IfNone met ((k : ℕ) → k < length conditions → ¬ (AreMetFrom conditions armed cpu stored sent k)) → IsAnswer conditions es step met
is_answer conditions armed taken cpu stored sent es step None are o there least none = none-met conditions armed taken cpu stored sent es step are o none
is_answer conditions armed taken cpu stored sent es step (Some index) are o there least none = first-is_met conditions armed taken cpu stored sent es step index are o there least
