use Rattle.oberon_format.proofs.Common.{arith, length, length-set, word_at, ◌*◌, ◌+◌, ◌<◌, ◌∙◌, ◌≡◌}
use Rattle.oberon_format.proofs.Bytes.{words_made, each_set}
use Rattle.oberon_format.proofs.reading.words_from.Goals as goal

pub loop-i-preserved : goal.loop-i-preserved
loop-i-preserved g c =
    let words = c.loop-i.words in let i = c.loop-i.i in let lt : i < length words = omega arith in
    record {
      len = length-set words i c.u32_at.result ∙ c.loop-i.invariant.len;
      each = each_set (λ k word. word ≡ word_at c.args.bytes.now (c.args.offset + (c.args.from + 4 * k))) words i c.u32_at.result lt c.loop-i.invariant.each c.u32_at.ensures;
    }

pub returns : goal.returns
returns g c = words_made c.args.bytes.now c.args.offset c.args.from g.row.N c.loop-i.words c.loop-i.invariant.len (λ k h. c.loop-i.invariant.each k 0 (omega arith))
