use Rattle.std.proofs.Common.{refl}
use Rattle.risc_core.proofs.laws.numbers_law.Goals as goal

pub returns : goal.returns
returns c = (
  record { mov = refl; lsl = refl; asr = refl; ror = refl; and = refl; ann = refl; ior = refl; xor = refl; add = refl; sub = refl; mul = refl; div = refl },
  record {
    negative = refl;
    equal = refl;
    carry_set = refl;
    overflow_set = refl;
    lower_or_same = refl;
    less = refl;
    less_or_equal = refl;
    always = refl;
    positive = refl;
    not_equal = refl;
    carry_clear = refl;
    overflow_clear = refl;
    higher = refl;
    greater_or_equal = refl;
    greater = refl;
  },
  record { link = refl },
)
