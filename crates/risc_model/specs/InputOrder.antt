-- Order of a list of inputs (this project's own choice): counts do not fall, and none is above `MAX_COUNT`.
use Rattle.std.specs.Prelude.{ℕ, ◌≤◌, ◌<◌, ◌-◌, ◌==◌, if◌then◌else◌, List, map, length, slice_index}
use Rattle.risc_model.specs.declared.event.Event.{Event}
use Rattle.risc_model.specs.declared.inputs.TheConstants.{MAX_COUNT}

-- the count of the input at an index
abbrev pub count_at : List Event → ℕ → ℕ
count_at es index = slice_index (map (λ e. e.count) es) index

-- the count before an index, 0 before the first
abbrev pub count_before : List Event → ℕ → ℕ
count_before es index = if index == 0 then 0 else count_at es (index - 1)

-- the count at an index is not below the one before it, and at most `MAX_COUNT`
abbrev pub IsRightIndex : List Event → ℕ → Type 0
IsRightIndex es index = (count_before es index ≤ count_at es index) × (count_at es index ≤ MAX_COUNT)

-- each index is right
abbrev pub AreOrdered : List Event → Type 0
AreOrdered es = (index : ℕ) → index < length es → IsRightIndex es index

-- the first index that is wrong
pub record IsFirstWrong (es : List Event) (at : ℕ) : Type 0 where
  pub inside : at < length es
  pub before : (index : ℕ) → index < at → IsRightIndex es index
  pub wrong : ¬ (IsRightIndex es at)

-- the inputs before the index `next` have counts before `at`, and the others do not
pub record IsNextAt (es : List Event) (next at : ℕ) : Type 0 where
  pub ordered : AreOrdered es
  pub inside : next ≤ length es
  pub before : (k : ℕ) → k < next → count_at es k < at
  pub rest : (k : ℕ) → next ≤ k → k < length es → at ≤ count_at es k
