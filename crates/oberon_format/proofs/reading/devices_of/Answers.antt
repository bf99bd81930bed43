use Rattle.std.proofs.Common.{◌≡◌, ◌∙◌, arith}
use Rattle.oberon_format.specs.inner.Decoded.{fixed_devices_at}
use Rattle.oberon_format.proofs.reading.devices_of.Goals as goal

pub unwrap-requires : goal.unwrap-requires
unwrap-requires c = search arith

pub returns : goal.returns
returns c =
    let is = rw c.unwrap.ensures at c.new.ensures.parts in
    let fixed : c.unwrap.result ≡ fixed_devices_at c.args.bytes.now c.args.offset = cc in
    c.with_disk.ensures ∙ (λ i. record (fixed i) { disk = c.disk_at.ensures i })
