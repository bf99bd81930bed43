use Rattle.std.proofs.Common.{◌≡◌, ◌∙◌, ◌++◌, ◌≤◌, List, ℕ, Some, None, sym, ap, arith}
use Rattle.std.proofs.lemmas.Bool.Decides.{Decides-eqb}
use Rattle.std.proofs.lemmas.Slice.Eq.{strip_prefix_is}
use Rattle.recording_limits.specs.declared.limits.TheConstants.{LAST_CHECKPOINT}
use Rattle.oberon_shards.specs.Shard.{shard_line}
use Rattle.oberon_shards.proofs.Apart.{never_both}
use Rattle.oberon_shards.proofs.Fields.{same_line, same_rest}
use Rattle.oberon_shards.proofs.LineFields.{ranges_moved}
use Rattle.oberon_shards.proofs.reading.next_shard.Goals as goal

pub returns-in-Some : goal.returns-in-Some
returns-in-Some c =
    let shard = c.in_ok-shard.shard in
    let read = c.in_ok-shard.ensures in
    let line : c.deref.result.now ≡ shard_line shard = c.deref.ensures.value ∙ c.in_ok-line.ensures in
    let begins : c.args.text.now ≡ shard_line shard ++ c.in-Some.rest.now =
    strip_prefix_is Decides-eqb c.args.text.now c.deref.result.now (Some c.in-Some.rest) c.in-Some.ensures.cases
    ∙ ap (λ (x : List ℕ). x ++ c.in-Some.rest.now) line in
    let ranges = c.is_in_ranges.ensures.0 c.if-not-is_in_ranges.false in
    record {
      begins = begins;
      printable = record {
        digest_length = read.digest_length;
        digest_bytes = read.digest_bytes;
        few = ranges.0;
        count_fits = read.count_fits;
        in_ranges = ranges.1;
        line = read.line;
      };
      only = λ s more fits is.
          let same = read.first s more fits is in
          (same, same_rest s shard c.args.text.now more c.in-Some.rest.now same is begins);
    }

pub returns : goal.returns
returns c = λ s more fits is.
    let line : c.deref.result.now ≡ shard_line c.in_ok-shard.shard = c.deref.ensures.value ∙ c.in_ok-line.ensures in
    let same = c.in_ok-shard.ensures.first s more fits is in
    let text : shard_line s ++ more ≡ c.deref.result.now ++ more = ap (λ (x : List ℕ). x ++ more) (sym (same_line s c.in_ok-shard.shard same) ∙ sym line) in
    strip_prefix_is Decides-eqb c.args.text.now c.deref.result.now None c.in-None.ensures.cases more (is ∙ text)

pub returns-then-not-is_in_ranges : goal.returns-then-not-is_in_ranges
returns-then-not-is_in_ranges c = λ s more fits is.
    let shard = c.in_ok-shard.shard in
    let same = c.in_ok-shard.ensures.first s more fits is in
    let few : shard.last ≤ LAST_CHECKPOINT = omega (arith, same.last_is, fits.few) in
    never_both c.is_in_ranges.result c.if-not-is_in_ranges.true
    (c.is_in_ranges.ensures.1 (few, ranges_moved s.finding shard.finding s shard same (sym same.finding_is) fits.in_ranges))
