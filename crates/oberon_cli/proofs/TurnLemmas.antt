-- How many bytes the turns of a reading loop take together.
use Rattle.std.proofs.Common.{◌≡◌, ◌≢◌, ◌<◌, ◌≤◌, ◌+◌, ◌-◌, ℕ, List, ◌++◌, Option, arith, false, length, length-append, take}
use Rattle.std.proofs.lemmas.List.{length-take}
use Rattle.std.proofs.KnownBytes.{Consumes-trans}
use Rattle.std.specs.Io.KnownBytes.{Consumes}
use Rattle.oberon_cli.specs.Transfer.{Known, TakesAtMost}
use Rattle.oberon_cli.specs.inner.Failures.{GainsInTurn}

-- a turn has no more room than the limit leaves
pub fits_limit : (limit taken room : ℕ) (chunk got : List ℕ) → taken ≤ limit → room ≤ limit - taken → length got ≤ length (take room chunk)
    → taken + length got ≤ limit
fits_limit limit taken room chunk got within is few = omega (arith, simp length-take at few)

-- after a turn, the bytes taken are still taken, and within the limit
pub more_within : (limit : ℕ) (bytes got all : List ℕ) → all ≡ bytes ++ got → length bytes + length got ≤ limit → length all ≤ limit
more_within limit bytes got all is fits = rw is (simp length-append (omega arith))

-- if there were at most as many turns as bytes read, the same is true after a turn that reads a byte
pub more_counted : (turn : ℕ) (bytes got all : List ℕ) → all ≡ bytes ++ got → turn ≤ length bytes → 0 < length got → turn + 1 ≤ length all
more_counted turn bytes got all is counted some = rw is (simp length-append (omega arith))

pub more_taken : (a b c : Option (List ℕ)) (bytes got all : List ℕ) → all ≡ bytes ++ got → Consumes a b bytes → Consumes b c got → Consumes a c all
more_taken a b c bytes got all is before now = rw is (Consumes-trans a b c bytes got before now)

-- a turn that fails loses no more than it has room for
pub lost_within : (limit room : ℕ) (chunk bytes : List ℕ) (a b c : Known) → length bytes ≤ limit → room ≤ limit - length bytes
    → Consumes a.bytes b.bytes bytes → TakesAtMost (length (take room chunk)) b c → TakesAtMost limit a c
lost_within limit room chunk bytes a b c within is before lost =
    let fits : length bytes + length lost.0 ≤ limit = fits_limit limit (length bytes) room chunk lost.0 within is lost.1 in
    (bytes ++ lost.0, simp length-append (omega arith), Consumes-trans a.bytes b.bytes c.bytes bytes lost.0 before lost.2)

-- a turn that reads n bytes into the chunk, and appends its first k, gains n bytes if k is n
pub turn_gains : (old new : Known) (bytes all chunk filled : List ℕ) (n k : ℕ) → length filled ≡ length chunk → n ≢ 0 → n ≤ length filled
    → all ≡ bytes ++ take k filled → k ≡ n → Consumes old.bytes new.bytes (take n filled) → GainsInTurn old new bytes all (length chunk) false
turn_gains old new bytes all chunk filled n k same some fits is whole taken =
    (take n filled, rw (← whole) is, simp length-take (omega arith), λ _. simp length-take (omega arith), taken)
