use Rattle.std.proofs.Common.{◌≡◌, ◌<◌, ◌∙◌, ◌^◌, ℕ, ap, arith, bit_and, slice_index, subst, sym}
use Rattle.risc_core.specs.Arithmetic.{and_word}
use Rattle.risc_core.proofs.BitLemmas.{and_word-is}
use Rattle.risc_search.specs.Values.{IsOneOf}
use Rattle.risc_search.proofs.meeting.is_word.Goals as goal

pub returns-then-number-lt-MEMORY_WORDS : goal.returns-then-number-lt-MEMORY_WORDS
returns-then-number-lt-MEMORY_WORDS c =
    let word = slice_index c.args.memory.now.words c.args.number in
    let fits : c.read.result < 2 ^ 32 = search arith in
    let same : bit_and c.read.result c.args.mask ≡ and_word word c.args.mask =
    and_word-is c.read.result c.args.mask fits ∙ ap (λ (w : ℕ). and_word w c.args.mask) c.read.ensures.word in
    let P : ℕ → Type 0 = λ (n : ℕ). IsOneOf c.args.values n in
    let inside : c.args.number < 262144 = search arith in
    (λ is. (inside, subst P same (c.contains.ensures.0 is)), λ is. c.contains.ensures.1 (subst P (sym same) is.1))
