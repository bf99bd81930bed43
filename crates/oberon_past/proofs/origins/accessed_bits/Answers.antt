use Rattle.std.proofs.Common.{◌≡◌, ◌<◌, ◌*◌, ◌%◌, ◌^◌, ◌∙◌, ℕ, zero, suc, ap, arith, refl, sym}
use Rattle.oberon_past.specs.Origins.{accessed_bits}
use Rattle.oberon_past.proofs.origins.accessed_bits.Goals as goal

-- the bits of a byte fit in a word, and there are some
fits : (lane : ℕ) → lane < 4 → (255 * 2 ^ (8 * lane) % 4294967296 ≡ 255 * 2 ^ (8 * lane)) × (0 < 255 * 2 ^ (8 * lane) % 4294967296)
fits zero few = (refl, omega arith)
fits (suc zero) few = (refl, omega arith)
fits (suc (suc zero)) few = (refl, omega arith)
fits (suc (suc (suc zero))) few = (refl, omega arith)
fits (suc (suc (suc (suc n)))) few = absurd (omega (arith, few))

pub returns-then-byte : goal.returns-then-byte
returns-then-byte c =
    let byte = fits c.args.lane c.requires in
    record { bits = byte.0 ∙ sym (ap (λ is_byte. accessed_bits is_byte c.args.lane) c.if-byte.true); some = byte.1 }
