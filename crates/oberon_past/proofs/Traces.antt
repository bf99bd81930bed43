-- Records of a run, one after another.
use Rattle.std.proofs.Common.{◌≡◌, ◌+◌, ◌-◌, ◌<◌, ◌≤◌, ℕ, List, [], ◌∷◌, ◌++◌, Vec, Global, arith, inl, inr, length, slice_index_or, subst, sym}
use Rattle.std.proofs.lemmas.Bool.{cases_lt}
use Rattle.std.proofs.lemmas.Grind.{common_steps}
use Rattle.std.proofs.lemmas.List.{get_or_push, length_push}
use Rattle.risc_model.specs.MachineState.{State}
use Rattle.risc_model.specs.Replay.{run_of}
use Rattle.risc_search.proofs.SearchLemmas.{run-on}
use Rattle.oberon_past.specs.Run.{Run, state_at}
use Rattle.oberon_past.specs.Trace.{AreRecords, IsRecord}
use Rattle.oberon_past.specs.declared.traced.Record.{Record}
use Rattle.oberon_past.specs.declared.traced.Records.{Records}

-- what holds of each element, with one more
pushed : {A : Type 0} (P : ℕ → A → Type 0) (xs : List A) (x : A) → ((i : ℕ) (d : A) → i < length xs → P i (slice_index_or xs i d)) → P (length xs) x
    → (i : ℕ) (d : A) → i < length (xs ++ x ∷ []) → P i (slice_index_or (xs ++ x ∷ []) i d)
pushed {A} P xs x before last i d inside = elim (cases_lt i (length xs)) [
  | inl early ↦
      let same : slice_index_or (xs ++ x ∷ []) i d ≡ slice_index_or xs i d = grind (arith, common_steps) in
      subst (P i) (sym same) (before i d early)
  | inr late ↦
      let this : length xs ≡ i = omega (arith, inside, late, length_push xs x) in
      let same : slice_index_or (xs ++ x ∷ []) i d ≡ x = get_or_push xs x d i this in
      subst (P i) (sym same) (subst (λ (n : ℕ). P n x) this last)
]

-- one record more
pub records-more : (run : Run) (from at : ℕ) (list new : Vec Record Global) (r : Record) → new.items ≡ list.items ++ r ∷ []
    → IsRecord r run.inputs at (state_at run at) → AreRecords run from (record { list = list; next = at })
    → AreRecords run from (record { list = new; next = at + 1 })
records-more run from at list new r items is before =
    let P : ℕ → Record → Type 0 = λ i x. IsRecord x run.inputs (from + i) (state_at run (from + i)) in
    let here : at ≡ from + length list.items = before.next_is in
    let last : P (length list.items) r = subst (λ (n : ℕ). IsRecord r run.inputs n (state_at run n)) here is in
    let long : length new.items ≡ length list.items + 1 = rw items (length_push list.items r) in
    record {
      each = subst (λ (l : List Record). (i : ℕ) (d : Record) → i < length l → P i (slice_index_or l i d)) (sym items) (pushed P list.items r before.each last);
      next_is = omega (arith, here, long);
    }

-- the records of a run on from a count are those of the run
pub records-within : (run : Run) (from : ℕ) (s : State) (records : Records) → run.start ≤ from → s ≡ state_at run from
    → AreRecords (record { start = from; first = s; inputs = run.inputs }) from records → AreRecords run from records
records-within run from s records start is part = record {
  each = λ i d inside.
      let on : run_of run.inputs from (from + i - from) s ≡ state_at run (from + i) =
      run-on run.inputs run.start from (from + i) run.first s start (omega arith) is in
      subst (λ (t : State). IsRecord (slice_index_or records.list.items i d) run.inputs (from + i) t) on (part.each i d inside);
  next_is = part.next_is;
}
