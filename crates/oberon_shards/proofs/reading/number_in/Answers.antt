use Rattle.std.proofs.Common.{◌∙◌, sym, arith}
use Rattle.std.proofs.lemmas.Fmt.{IsAscii-decimal, parse-decimal}
use Rattle.std.proofs.lemmas.Str.{IsUtf8-from_ascii}
use Rattle.oberon_shards.proofs.reading.number_in.Goals as goal

pub returns-in-Ok-parse : goal.returns-in-Ok-parse
returns-in-Ok-parse c = λ n fits is.
    let read = parse-decimal 64 n c.in-Ok.digits.now c.parse.result fits (omega (arith, fits)) (c.in-Ok.ensures.cases.0 ∙ is) c.parse.ensures.value.0 in
    let same = sym c.in-Ok-parse.is ∙ read in
    cc

pub returns-in-Err-parse : goal.returns-in-Err-parse
returns-in-Err-parse c = λ n fits is.
    let read = parse-decimal 64 n c.in-Ok.digits.now c.parse.result fits (omega (arith, fits)) (c.in-Ok.ensures.cases.0 ∙ is) c.parse.ensures.value.0 in
    let same = sym c.in-Err-parse.is ∙ read in
    absurd cc

pub returns-in-Err : goal.returns-in-Err
returns-in-Err c = λ n fits is. absurd (c.in-Err.ensures.cases.0 (rw is (IsUtf8-from_ascii _ (IsAscii-decimal n (omega (arith, fits))))))
