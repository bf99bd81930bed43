use Rattle.std.proofs.Common.{◌≤◌, ℕ, List, All, subst, sym, arith}
use Rattle.std.proofs.lemmas.List.Elements.{All-replicate, All-set}
use Rattle.risc_pages.specs.Tables.{zero_numbers}
use Rattle.risc_tests.proofs.machine.first_slot.Goals as goal

zeros-named : All (λ n. n ≤ 1) zero_numbers
unfolding zero_numbers
zeros-named = All-replicate (λ n. n ≤ 1) 1024 0 (omega arith)

pub returns : goal.returns
returns c =
    let P : List ℕ → Type 0 = λ ns. All (λ n. n ≤ 1) ns in
    subst P (sym c.set.ensures) (All-set (λ n. n ≤ 1) c.zeros-table.result.numbers 0 1 (omega arith) (subst P (sym c.zeros-table.ensures) zeros-named))
