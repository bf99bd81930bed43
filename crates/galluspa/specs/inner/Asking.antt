-- Why a caller gets no answer to a question about a range of a past.
use Rattle.std.specs.Prelude.{ℕ, ◌≡◌, ◌<◌, ◌≤◌}
use Rattle.oberon_past.specs.Past.{PastParts}
use Rattle.galluspa.specs.declared.ranges.Unanswered.{Unanswered}
use Rattle.galluspa.specs.declared.ranges.Unanswered.TheVariants as unanswered

-- `IsAsked`: what is asked about any past is in its range
abbrev pub IsUnanswered : PastParts → Type 0 → ℕ → ℕ → Unanswered → Type 0
IsUnanswered p IsAsked from to unanswered.Range = ¬ (IsAsked × (p.run.start ≤ from))
IsUnanswered p IsAsked from to unanswered.Later = IsAsked × (p.run.start ≤ from) × (p.end < to)
IsUnanswered p IsAsked from to unanswered.Memory = IsAsked × (p.run.start ≤ from) × (to ≤ p.end)
