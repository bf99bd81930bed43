use Rattle.std.proofs.Common.{◌≡◌, ◌∙◌, ◌++◌, ℕ, List, sym, ap, arith, refl, codes}
use Rattle.std.specs.Fmt.{decimal}
use Rattle.hex.specs.Hex.{encode_lower}
use Rattle.oberon_shards.specs.Shard.{finding_word}
use Rattle.oberon_shards.specs.Lines.{HasLine}
use Rattle.oberon_shards.proofs.Fields.{decimal_lacks, fields_are, finding_lacks, hex_lacks, lacks, lacks_text, shard_fields}
use Rattle.oberon_shards.proofs.LineFields.{fit, moved}
use Rattle.oberon_shards.proofs.reading.first_shard.Goals as goal

pub returns : goal.returns
unfolding lacks
returns c = record {
  digest_length = c.digest_in.ensures.length;
  digest_bytes = c.digest_in.ensures.bytes;
  count_fits = c.in_ok-said.ensures.count_fits;
  line = c.in_ok-said.ensures.line_is;
  first = λ s more fits is.
      let whole : c.args.text.now ≡ shard_fields s more = is ∙ fields_are s more in
      let small = fit s s.finding fits.in_ranges fits.few in
      let head = c.cut.ensures (codes "shard") _ (lacks_text 32 (codes "shard") refl) whole in
      let name = c.cut-2.ensures (encode_lower s.digest) _ (hex_lacks s.digest) head.1 in
      let from = c.cut-3.ensures (decimal s.from) _ (decimal_lacks 32 s.from (omega arith)) name.1 in
      let to = c.cut-4.ensures (decimal s.to) _ (decimal_lacks 32 s.to (omega arith)) from.1 in
      let last = c.cut-5.ensures (decimal s.last) _ (decimal_lacks 32 s.last (omega arith)) to.1 in
      let finding = c.cut-6.ensures (finding_word s.finding ++ codes ":") _ (finding_lacks s.finding) last.1 in
      let to_is = c.index_in-to.ensures s.to small.1 to.0 in
      let last_is = c.index_in-last.ensures s.last small.2 last.0 in
      let finding_is = c.finding_in-finding.ensures s.finding finding.0 in
      let said = c.in_ok-said.ensures.first s.count s.line.items more
      (moved s.finding c.finding_in-finding.result s.to c.index_in-to.result s.last c.index_in-last.result s.count s.count s.line.items s.line.items (sym finding_is) (sym to_is) (sym last_is) refl refl fits.line)
      fits.count_fits finding.1 in
      record {
        digest_is = c.digest_in.ensures.name s.digest fits.digest_length fits.digest_bytes name.0;
        from_is = c.index_in.ensures s.from small.0 from.0;
        to_is = to_is;
        last_is = last_is;
        finding_is = finding_is;
        count_is = said.0;
        line_is = said.1;
      };
}
