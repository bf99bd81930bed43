use Rattle.oberon_format.proofs.Decode.{decoded_is}
use Rattle.oberon_format.proofs.reading.recording_of.Goals as goal

pub from_lawful-requires : goal.from_lawful-requires
from_lawful-requires c =
    let is = decoded_is c.args.bytes.now c.bytes_fit.ensures c.requires.meets c.in_ok-inputs.inputs c.in_ok-inputs.ensures.0 c.in_ok-inputs.ensures.1 in
    rw (c.in_ok-pool.ensures, c.in_ok-checkpoints.ensures) is.0

pub returns : goal.returns
returns c =
    let is = decoded_is c.args.bytes.now c.bytes_fit.ensures c.requires.meets c.in_ok-inputs.inputs c.in_ok-inputs.ensures.0 c.in_ok-inputs.ensures.1 in
    rw (c.from_lawful.ensures, c.in_ok-pool.ensures, c.in_ok-checkpoints.ensures) is.1
