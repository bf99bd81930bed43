use Rattle.std.proofs.Common.{arith}
use Rattle.oberon_answers.proofs.checking.answer_of.Goals as goal

pub returns : goal.returns
returns c = record {
  verdict = c.in_ok-verdict.verdict;
  is_verdict = c.in_ok-verdict.ensures;
  line_is = c.in_ok-line.ensures;
  status_is = search arith;
  short = rw c.in_ok-line.ensures c.verdict_fits.ensures;
}
