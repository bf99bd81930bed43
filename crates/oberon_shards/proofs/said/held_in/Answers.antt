use Rattle.std.proofs.Common.{◌≡◌, ◌∙◌, ◌++◌, ℕ, List, sym, ap, arith, refl, codes}
use Rattle.std.specs.Fmt.{decimal}
use Rattle.oberon_check.specs.declared.verdict.Verdict.TheVariants.{Accepted}
use Rattle.oberon_check.specs.Line.{line_of}
use Rattle.oberon_shards.proofs.Fields.{decimal_lacks, lacks, lacks_text}
use Rattle.oberon_shards.proofs.LineFields.{accepted_fields}
use Rattle.oberon_shards.proofs.said.held_in.Goals as goal

pub returns : goal.returns
unfolding lacks
returns c = record {
  line_is = c.in_ok-line.ensures;
  count_fits = omega arith;
  first = λ n said more is fits text.
      let whole = text ∙ ap (λ (x : List ℕ). x ++ more) is ∙ accepted_fields c.args.last n more in
      let word = c.cut.ensures (codes "accepted") _ (lacks_text 32 (codes "accepted") refl) whole in
      let last = c.cut-2.ensures (decimal c.args.last) _ (decimal_lacks 32 c.args.last (omega arith)) word.1 in
      let more_words = c.cut-3.ensures (codes "checkpoints") _ (lacks_text 32 (codes "checkpoints") refl) last.1 in
      let steps = c.cut-4.ensures (decimal n) _ (decimal_lacks 32 n (omega arith)) more_words.1 in
      let count = c.number_in-steps.ensures n fits steps.0 in
      (count, c.in_ok-line.ensures ∙ ap (λ (k : ℕ). line_of (Accepted c.args.last k)) count ∙ sym is);
}
