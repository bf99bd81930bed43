use Rattle.std.proofs.Common.{◌≡◌, length, arith, refl}
use Rattle.std.proofs.lemmas.Grind.{same_number_lists}
use Rattle.oberon_session.proofs.reading.cpu_of.Goals as goal

pub returns : goal.returns
returns c =
    let count : length c.loop-i.r ≡ length c.args.start.now.registers.items = omega (arith, c.loop-i.invariant.0, c.args.start.now.sixteen) in
    let registers = same_number_lists c.loop-i.r c.args.start.now.registers.items count (λ k lt. c.loop-i.invariant.1 k (omega (arith, c.loop-i.invariant.0))) in
    rw (registers, c.from_number.ensures) refl
