-- The lengths of verdict lines.
use Rattle.std.proofs.Common.{◌<◌, ◌≤◌, ◌^◌, ℕ, List, arith, length, length-append}
use Rattle.std.specs.Fmt.{decimal}
use Rattle.std.proofs.lemmas.Fmt.{length-decimal-le}
use Rattle.oberon_format.specs.Line.{refused_line}
use Rattle.oberon_check.specs.Line.{line_of, part_name}
use Rattle.oberon_check.specs.declared.part.Part.{Part}
use Rattle.oberon_check.specs.declared.part.Part.TheVariants.{Page, R}
use Rattle.oberon_check.specs.declared.verdict.Verdict.TheVariants.{Accepted, FalseAt}

-- a number of 64 bits has at most 20 digits
pub number_short : (n : ℕ) → n < 2 ^ 64 → length (decimal n) ≤ 20
number_short n fits = length-decimal-le 20 n (omega arith) (omega arith) fits

pub register_short : (number : ℕ) → length (decimal number) ≤ 20 → length (part_name (R number)) ≤ 25
register_short number digits = simp length-append (omega arith)

pub page_short : (slot : ℕ) → length (decimal slot) ≤ 20 → length (part_name (Page slot)) ≤ 25
page_short slot digits = simp length-append (omega arith)

pub refused_short : (number byte : ℕ) (name : List ℕ) → number < 2 ^ 64 → length (decimal byte) ≤ 20 → length name ≤ 10
    → length (refused_line number name byte) < 256
refused_short number byte name fits place short =
    let digits = number_short number fits in
    simp length-append (omega arith)

pub accepted_short : (checkpoints steps : ℕ) → length (decimal checkpoints) ≤ 20 → length (decimal steps) ≤ 20
    → length (line_of (Accepted checkpoints steps)) < 256
accepted_short checkpoints steps few count = simp length-append (omega arith)

pub false_short : (checkpoint count : ℕ) (part : Part) → length (decimal checkpoint) ≤ 20 → length (decimal count) ≤ 20
    → length (part_name part) ≤ 25 → length (line_of (FalseAt checkpoint count part)) < 256
false_short checkpoint count part few at short = simp length-append (omega arith)
