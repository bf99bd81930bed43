-- The counts of checkpoints rise.
use Rattle.std.proofs.Common.{◌≡◌, ℕ, zero, suc, ◌+◌, ◌-◌, ◌<◌, ◌≤◌, ap, arith, length}
use Rattle.oberon_format.specs.Recording.{RecordingParts, IsLawfulWithDisk, count_at, last_of}
use Rattle.oberon_shards.specs.Combining.{Rise}

counts_after : (r : RecordingParts) → IsLawfulWithDisk r → (k n : ℕ) → k + n < length r.checkpoints → count_at r k + n ≤ count_at r (k + n)
counts_after r lawful k zero inside =
    let same : count_at r (k + 0) ≡ count_at r k = ap (count_at r) (omega arith) in
    omega (arith, same)
counts_after r lawful k (suc n) inside =
    let before = counts_after r lawful k n (omega (arith, inside)) in
    let step : count_at r (k + n) < count_at r (k + n + 1) = lawful.rises (k + n) (omega (arith, inside)) in
    let last : count_at r (k + suc n) ≡ count_at r (k + n + 1) = ap (count_at r) (omega arith) in
    omega (arith, before, step, last)

pub counts_between : (r : RecordingParts) → IsLawfulWithDisk r → (k m : ℕ) → k ≤ m → m ≤ last_of r → count_at r k + (m - k) ≤ count_at r m
counts_between r lawful k m order inside =
    let end : k + (m - k) ≡ m = omega (arith, order) in
    let last : count_at r (k + (m - k)) ≡ count_at r m = ap (count_at r) end in
    let after = counts_after r lawful k (m - k) (omega (arith, order, inside, lawful.some)) in
    omega (arith, after, last)

pub rise_between : (r : RecordingParts) → IsLawfulWithDisk r → (k m : ℕ) → k ≤ m → m ≤ last_of r → Rise k (count_at r k) m (count_at r m)
rise_between r lawful k m order inside = ((λ same. ap (count_at r) same), counts_between r lawful k m order inside)
