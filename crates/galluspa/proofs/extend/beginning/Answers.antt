use Rattle.std.proofs.Common.{arith}
use Rattle.std.proofs.lemmas.Result.{err_from_is_err_and}
use Rattle.galluspa.proofs.extend.beginning.Goals as goal

pub returns-clause-beginning : goal.returns-clause-beginning
returns-clause-beginning c = record {
  begins = omega arith;
  recording = c.in_ok-recording.recording;
  begun = search arith;
  text_is = record { plain = c.in_ok-bytes.ensures.plain; others = c.in_ok-bytes.ensures.others };
}

pub returns-clause-whole : goal.returns-clause-whole
returns-clause-whole c = record { is_whole = c.in-Some.ensures.whole; begins = omega arith }

pub returns-in_err-bytes-clause-in_range : goal.returns-in_err-bytes-clause-in_range
returns-in_err-bytes-clause-in_range c =
    let from = err_from_is_err_and c.from_residual-in_err-bytes.result c.from_residual-in_err-bytes.ensures.1 in
    rw from.1 (λ _. record { is_whole = c.in-Some.ensures.whole; begins = omega arith })
