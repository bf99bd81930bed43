use Rattle.std.proofs.Common.{arith}
use Rattle.recording_texts.proofs.bytes.push_word.Goals as goal

pub returns : goal.returns
returns c = search arith
