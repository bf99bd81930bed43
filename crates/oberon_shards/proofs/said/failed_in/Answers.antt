use Rattle.std.proofs.Common.{◌≡◌, ◌∙◌, ◌++◌, ℕ, List, sym, ap, arith, refl, codes}
use Rattle.std.specs.Fmt.{decimal}
use Rattle.oberon_check.specs.declared.part.Part.{Part}
use Rattle.oberon_check.specs.declared.verdict.Verdict.TheVariants.{FalseAt}
use Rattle.oberon_check.specs.Line.{line_of, part_name}
use Rattle.oberon_shards.proofs.Fields.{decimal_lacks, lacks, lacks_text}
use Rattle.oberon_shards.proofs.PartNames.{part_lacks}
use Rattle.oberon_shards.proofs.LineFields.{false_fields}
use Rattle.oberon_shards.proofs.said.failed_in.Goals as goal

pub returns : goal.returns
unfolding lacks
returns c = record {
  line_is = (c.part_in-part.result, c.part_in-part.ensures.inside, c.in_ok-line.ensures);
  count_fits = omega arith;
  first = λ n said more is fits text.
      let whole = text ∙ ap (λ (x : List ℕ). x ++ more) is.2 ∙ false_fields c.args.to n is.0 more in
      let first = c.cut.ensures (codes "false") _ (lacks_text 32 (codes "false") refl) whole in
      let second = c.cut-2.ensures (codes "checkpoint") _ (lacks_text 32 (codes "checkpoint") refl) first.1 in
      let to = c.cut-3.ensures (decimal c.args.to) _ (decimal_lacks 32 c.args.to (omega arith)) second.1 in
      let at = c.cut-4.ensures (codes "at") _ (lacks_text 32 (codes "at") refl) to.1 in
      let number = c.cut-5.ensures (decimal n) _ (decimal_lacks 32 n (omega arith)) at.1 in
      let word = c.cut-6.ensures (codes "part") _ (lacks_text 32 (codes "part") refl) number.1 in
      let name = c.cut-7.ensures (part_name is.0) _ (part_lacks is.0) word.1 in
      let count = c.number_in-count.ensures n fits number.0 in
      let part = c.part_in-part.ensures.part is.0 is.1 name.0 in (
        count,
        c.in_ok-line.ensures ∙ ap (λ (k : ℕ). line_of (FalseAt c.args.to k c.part_in-part.result)) count
            ∙ ap (λ (p : Part). line_of (FalseAt c.args.to n p)) part ∙ sym is.2,
      );
}
