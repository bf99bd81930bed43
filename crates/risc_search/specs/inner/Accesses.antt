-- Which accesses there are.
use Rattle.std.specs.Prelude.{ℕ, ◌≡◌, ◌<◌, ◌≤◌, ◌-◌, ◌%◌, ◌^◌, ◌⊎◌}
use Rattle.risc_search.specs.declared.access.Access.{Access}

-- an address of RAM or of a device word
abbrev pub IsReachable : ℕ → Type 0
IsReachable address = (address < 2 ^ 20) ⊎ ((2 ^ 24 - 64 ≤ address) × (address < 2 ^ 24))

-- the bytes of an access are one or four
abbrev pub IsCount : ℕ → Type 0
IsCount count = (count ≡ 1) ⊎ (count ≡ 4)

-- an access to a byte that there is, or to the four bytes of a word
pub record IsAccess (access : Access) : Type 0 where
  pub reachable : IsReachable access.first
  pub count : IsCount access.count
  pub aligned : access.count ≡ 4 → access.first % 4 ≡ 0
