-- The machine that a past keeps at its end.
use Rattle.std.specs.Prelude.{ℕ, ◌≡◌, ◌≤◌, IfSome, Option}
use Rattle.oberon_format.specs.Recording.{RecordingParts}
use Rattle.oberon_past.specs.Past.{past_of}
use Rattle.oberon_past.specs.Run.{Run, state_at}
use Rattle.oberon_past.specs.declared.warm.Warm.{Warm}

-- the machine is at the count `end` of a run, and its memory was made with the words at an earlier count
pub record IsAtEnd (run : Run) (end : ℕ) (warm : Warm) : Type 0 where
  pub state : warm.machine.state ≡ state_at run end
  pub base : warm.machine.base ≡ (state_at run warm.from).words
  pub earlier : warm.from ≤ end

-- the machine of a past, if it keeps one, is at its end
abbrev pub IsWarm : RecordingParts → ℕ → ℕ → Option Warm → Type 0
IsWarm kept spacing end warm = IfSome warm (IsAtEnd (past_of kept spacing end).run end)
