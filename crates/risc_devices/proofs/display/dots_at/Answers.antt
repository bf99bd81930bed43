use Rattle.std.proofs.Common.{◌/◌, ◌%◌}
use Rattle.risc_devices.proofs.PictureLemmas.{byte-HasDots}
use Rattle.risc_devices.proofs.display.dots_at.Goals as goal

pub returns : goal.returns
returns c = rw c.reverse_bits.ensures (byte-HasDots c.args.words.now (c.args.at / 128) (c.args.at % 128))
