use Rattle.oberon_format.proofs.line.named_line.Goals as goal

pub returns : goal.returns
returns c = rw c.into_bytes.ensures.value c.in_ok-line.ensures.ok
