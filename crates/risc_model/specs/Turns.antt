-- The counts of a run at which its open calls change, in order (this project's own choice).
use Rattle.std.specs.Prelude.{ℕ, zero, suc, ◌≡◌, ◌≤◌, ◌<◌, ◌+◌, ◌-◌, ◌⊎◌, ◌==◌, ◌&&◌, List, All, [], ◌∷◌, ◌++◌, length, take}
use Rattle.std.specs.Prelude.{Option, None, Some, ⊤, if◌then◌else◌}
use Rattle.std.specs.Option.{option_to_list}
use Rattle.risc_model.specs.declared.call.Turn.{Turn}
use Rattle.risc_model.specs.declared.call.Call.{Call}
use Rattle.risc_model.specs.declared.event.Event.{Event}
use Rattle.risc_model.specs.MachineState.{State}
use Rattle.risc_model.specs.Replay.{begun_at}
use Rattle.risc_model.specs.Calls.{staying, made, open_after}

-- what a step makes of the open calls
abbrev pub step_turn : ℕ → ℕ → State → List Call → Turn
step_turn limit n s stack = record { count = n; stay = length (staying limit s stack); call = made n s stack }

-- the same, or nothing if all stay, and no call is made
abbrev pub turn_or_none : Turn → ℕ → Option Turn
turn_or_none turn height = if turn.stay == height && length (option_to_list turn.call) == 0 then None else Some turn

-- the turns of n steps from a count on
unfoldable pub turns : ℕ → List Event → ℕ → ℕ → State → List Call → List Turn
turns limit es from zero s stack = []
turns limit es from (suc n) s stack =
    turns limit es from n s stack
    ++ option_to_list (turn_or_none (step_turn limit (from + n) (begun_at es from (from + n) s) (open_after limit es from n s stack))
    (length (open_after limit es from n s stack)))

-- the open calls after a turn, and after a list of them
abbrev pub turned : List Call → Turn → List Call
turned stack turn = take turn.stay stack ++ option_to_list turn.call

abbrev pub turned_by : List Call → List Turn → List Call
turned_by stack [] = stack
turned_by stack (turn ∷ rest) = turned_by (turned stack turn) rest

-- what a run that follows calls answers, where there is room for so many turns and so many open calls: the turns and the open calls up
-- to the count `next`. It is the end of the range, or the first count at which one of the two lists is full
pub record IsFollowed (limit : ℕ) (es : List Event) (from to : ℕ) (s : State) (stack : List Call) (room height : ℕ)
    (followed : List Turn) (left : List Call) (next : ℕ) : Type 0 where
  pub turns_are : followed ≡ turns limit es from (next - from) s stack
  pub calls_are : left ≡ open_after limit es from (next - from) s stack
  pub inside : (from ≤ next) × (next ≤ to)
  pub room_before : (n : ℕ) → n < next - from → length (turns limit es from n s stack) < room
  pub height_before : (n : ℕ) → n < next - from → length (open_after limit es from n s stack) < height
  pub ends : next < to → (length followed ≡ room) ⊎ (length left ≡ height)

-- each call was made later than those before it; and if its R14 is one of the stack, it is as low as theirs or lower. A list that is
-- given has to be so
abbrev pub AreAbove : ℕ → Call → List Call → Type 0
AreAbove limit call later = All (λ c. (call.count < c.count) × (c.sp ≤ limit → c.sp ≤ call.sp)) later

abbrev pub IsStack : ℕ → List Call → Type 0
IsStack limit [] = ⊤
IsStack limit (call ∷ later) = AreAbove limit call later × IsStack limit later
