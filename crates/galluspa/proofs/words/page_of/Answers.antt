use Rattle.std.proofs.Common.{◌≡◌, ◌∙◌, ◌+◌, ◌-◌, ◌*◌, ℕ, ap, arith, drop, length, take}
use Rattle.risc_pages.specs.Pages.{page_at}
use Rattle.galluspa.proofs.WordLemmas.{page_fits}
use Rattle.galluspa.proofs.words.page_of.Goals as goal

pub returns : goal.returns
unfolding page_at
returns c =
    let start = 256 * c.args.slot in
    let long : start + 256 - start ≡ 256 = omega arith in
    c.copy_from_slice.ensures.after ∙ ap (λ (n : ℕ). take n (drop start c.args.words.now)) long

pub invariant_of-result : goal.invariant_of-result
invariant_of-result c =
    let whole : length c.copy_from_slice.new.self ≡ 256 = c.copy_from_slice.ensures.len in
    record {
      whole = whole;
      fit = page_fits c.args.words.now c.copy_from_slice.new.self (256 * c.args.slot) _ (λ i. search arith) c.copy_from_slice.ensures.after;
    }
