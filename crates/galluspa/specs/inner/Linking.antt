-- What the numbers of a link need of it: only what an instruction wrote was computed, from parts that there are.
use Rattle.std.specs.Prelude.{ℕ, ◌≡◌, ◌≤◌, All, Option, None, Some, MatchOption, ⊤}
use Rattle.oberon_past.specs.declared.link.Computation.{Computation}
use Rattle.oberon_past.specs.declared.link.Link.{Link}
use Rattle.oberon_past.specs.declared.write.Write.{Write}
use Rattle.oberon_past.specs.declared.write.Writer.{Writer}
use Rattle.oberon_past.specs.declared.write.Writer.TheVariants.{Instruction, Input}
use Rattle.oberon_past.specs.Origins.{IsPart}

pub record HasParts (c : Computation) : Type 0 where
  pub few : c.origins.count ≤ 3
  pub parts : All IsPart c.origins.list

abbrev pub IsFormedAs : Writer → Option Computation → Type 0
IsFormedAs Instruction computation = MatchOption computation ⊤ HasParts
IsFormedAs (Input index) computation = computation ≡ None

abbrev pub IsFormedBy : Option Write → Option Computation → Type 0
IsFormedBy None computation = computation ≡ None
IsFormedBy (Some write) computation = IsFormedAs write.by computation

abbrev pub IsFormed : Link → Type 0
IsFormed link = IsFormedBy link.write link.computation
