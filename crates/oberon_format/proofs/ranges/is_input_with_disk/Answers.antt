use Rattle.oberon_format.proofs.Common.{arith, false, is_input, is_input_with_disk, lt-leb, nat_lt, nat_tests, sym, ℕ, ◌∙◌, ◌≡◌, ◌≤◌}
use Rattle.oberon_format.proofs.ranges.is_input_with_disk.Goals as goal

-- no kind has so large a number
no_kind : (kind value : ℕ) → 7 ≤ kind → is_input_with_disk kind value ≡ false
unfolding is_input_with_disk is_input
no_kind kind value h = grind (arith, nat_tests)

pub returns-else-kind-lt7 : goal.returns-else-kind-lt7
returns-else-kind-lt7 c =
    let large : 7 ≤ c.args.kind = c.if-kind-lt7.false in
    let test : nat_lt c.args.kind 7 ≡ false = lt-leb _ _ (omega arith) in
    test ∙ sym (no_kind c.args.kind c.args.value large)
