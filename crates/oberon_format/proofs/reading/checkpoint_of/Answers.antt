use Rattle.oberon_format.proofs.Common.{ap, arith, CheckpointParts, CpuState, DeviceState, List, long_at, SENT_AT, slice_range, word_at, ℕ, ◌+◌, ◌∙◌, ◌≡◌}
use Rattle.oberon_format.specs.inner.Decoded.{checkpoint_from, cpu_at, devices_at}
use Rattle.oberon_format.proofs.reading.checkpoint_of.Goals as goal

-- the parts of a checkpoint, and what they are at an offset
abbrev parts : ℕ → CpuState → DeviceState → List ℕ → List ℕ → CheckpointParts
parts count cpu devices sent table = record { count = count; cpu = cpu; devices = devices; sent = sent; table = table }

parts_from : (bytes : List ℕ) (offset from : ℕ) (count : ℕ) (cpu : CpuState) (devices : DeviceState) (sent now table : List ℕ)
    → count ≡ long_at bytes offset → cpu ≡ cpu_at bytes offset → devices ≡ devices_at bytes offset → sent ≡ slice_range bytes from (from + word_at bytes (offset + SENT_AT))
    → now ≡ table → parts count cpu devices sent now ≡ checkpoint_from bytes offset from table
parts_from bytes offset from count cpu devices sent now table a b d s t = λ i. parts (a i) (b i) (d i) (s i) (t i)

pub returns : goal.returns
returns c =
    let sent = c.in_ok-sent.ensures.items ∙ ap (λ (n : ℕ). slice_range c.args.bytes.now c.args.from (c.args.from + n)) c.u32_at-len.ensures in
    parts_from c.args.bytes.now c.args.offset c.args.from _ _ _ _ _ c.args.table.now.numbers c.u64_at.ensures c.cpu_of.ensures c.devices_of.ensures sent (search arith)
