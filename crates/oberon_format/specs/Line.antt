-- The output line of a fault (this project's own choice).
use Rattle.std.specs.Prelude.{ℕ, List, [], ◌++◌, codes}
use Rattle.std.specs.Fmt.{decimal}
use Rattle.oberon_format.specs.declared.fault.Fault.{Fault}
use Rattle.oberon_format.specs.declared.fault.Fault.TheVariants.{Short, Magic, Version, Limit, Event, Checkpoint, Page, Trailing}
use Rattle.oberon_format.specs.declared.fault.Fault.TheVariants.{Memory}

-- `refused f name at byte o`, numbers in decimal, and a line feed
abbrev pub refused_line : ℕ → List ℕ → ℕ → List ℕ
refused_line number name byte =
    codes "refused " ++ (decimal number ++ (codes " " ++ (name ++ (codes " at byte " ++ (decimal byte ++ codes "\n")))))

-- the line of a fault. An allocation failure is no fault of the file, and has no line
abbrev pub fault_line : Fault → List ℕ
fault_line (Short byte) = refused_line 1 (codes "short") byte
fault_line (Magic byte) = refused_line 2 (codes "magic") byte
fault_line (Version byte) = refused_line 3 (codes "version") byte
fault_line (Limit byte) = refused_line 4 (codes "limit") byte
fault_line (Event byte) = refused_line 5 (codes "event") byte
fault_line (Checkpoint byte) = refused_line 6 (codes "checkpoint") byte
fault_line (Page byte) = refused_line 7 (codes "page") byte
fault_line (Trailing byte) = refused_line 8 (codes "trailing") byte
fault_line Memory = []

-- a fault of a file, which an allocation failure is not
abbrev pub IsNamedFault : Fault → Type 0
IsNamedFault (Short byte) = Unit {0}
IsNamedFault (Magic byte) = Unit {0}
IsNamedFault (Version byte) = Unit {0}
IsNamedFault (Limit byte) = Unit {0}
IsNamedFault (Event byte) = Unit {0}
IsNamedFault (Checkpoint byte) = Unit {0}
IsNamedFault (Page byte) = Unit {0}
IsNamedFault (Trailing byte) = Unit {0}
IsNamedFault Memory = ⊥
