use Rattle.std.proofs.Common.{◌≡◌, ◌∙◌, ℕ, ap, length, refl, sym, take, arith}
use Rattle.galluspa.proofs.run.run_past.Goals as goal

pub returns-in-Ok-clause-ran : goal.returns-in-Ok-clause-ran
returns-in-Ok-clause-ran c =
    let same : length c.deref.result.now ≡ c.len.result = search arith in
    record {
      progress = c.in-Ok.progress;
      ran = c.in-Ok.ensures.ran;
      sent_is = ap (λ (n : ℕ). take n c.copy_to_front.new.out) (sym same) ∙ c.copy_to_front.ensures.front ∙ c.deref.ensures.value;
      ending_is = refl;
    }
