use Rattle.std.proofs.Common.{◌<◌, ◌∙◌, ◌^◌, ℕ, ap, arith}
use Rattle.risc_core.specs.Arithmetic.{and_word}
use Rattle.risc_core.proofs.BitLemmas.{and_word-is}
use Rattle.risc_search.proofs.register.Register.masked.Goals as goal

pub returns : goal.returns
returns c =
    let fits : c.value.result < 2 ^ 32 = search arith in
    and_word-is c.value.result c.args.mask fits ∙ ap (λ (n : ℕ). and_word n c.args.mask) c.value.ensures
