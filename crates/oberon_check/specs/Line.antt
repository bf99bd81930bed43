-- The line and the exit status of a verdict (this project's own choice).
use Rattle.std.specs.Prelude.{ℕ, List, ◌++◌, codes}
use Rattle.std.specs.Fmt.{decimal}
use Rattle.oberon_check.specs.declared.part.Part.{Part}
use Rattle.oberon_check.specs.declared.part.Part.TheVariants.{R, H, Pc, Flags, Stop, Timer, Rate, Phase, Switches, Leds, Mouse}
use Rattle.oberon_check.specs.declared.part.Part.TheVariants.{Serial, Keys, Disk, Sent, Page}
use Rattle.oberon_check.specs.declared.verdict.Verdict.{Verdict}
use Rattle.oberon_check.specs.declared.verdict.Verdict.TheVariants.{Accepted, FalseAt}

-- the name of a part
abbrev pub part_name : Part → List ℕ
part_name (R i) = codes "R" ++ decimal i
part_name H = codes "H"
part_name Pc = codes "PC"
part_name Flags = codes "flags"
part_name Stop = codes "stop"
part_name Timer = codes "timer"
part_name Rate = codes "rate"
part_name Phase = codes "phase"
part_name Switches = codes "switches"
part_name Leds = codes "LEDs"
part_name Mouse = codes "mouse"
part_name Serial = codes "serial"
part_name Keys = codes "keys"
part_name Disk = codes "disk"
part_name Sent = codes "out"
part_name (Page p) = codes "page " ++ decimal p

-- the line of a verdict, with its numbers in decimal, ended by one line feed
abbrev pub line_of : Verdict → List ℕ
line_of (Accepted checkpoints steps) =
    codes "accepted " ++ (decimal checkpoints ++ (codes " checkpoints " ++ (decimal steps ++ codes " steps\n")))
line_of (FalseAt checkpoint count part) =
    codes "false checkpoint "
    ++ (decimal checkpoint ++ (codes " at " ++ (decimal count ++ (codes " part " ++ (part_name part ++ codes "\n")))))

-- the exit status of a verdict: 0 accepted, 1 false
abbrev pub status_of : Verdict → ℕ
status_of (Accepted checkpoints steps) = 0
status_of (FalseAt checkpoint count part) = 1
