use Rattle.std.proofs.Common.{◌≡◌, ◌∙◌, ◌++◌, ◌<◌, ◌≤◌, ℕ, List, [], inl, inr, length, rules, refl, subst, ap, append-nil, ◌+◌}
use Rattle.std.proofs.lemmas.Result.{IfOk-weaker}
use Rattle.oberon_shards.specs.declared.fault.CombineFault.TheVariants.{Syntax}
use Rattle.oberon_shards.specs.declared.fault.TheConstants.{LONGEST_SHARDS}
use Rattle.std.specs.Prelude.{All}
use Rattle.oberon_shards.specs.declared.shard.Shard.{Shard}
use Rattle.oberon_shards.specs.Combination.{combine_fault_line}
use Rattle.oberon_shards.specs.Combining.{AllAgree, Decides, IsOneOf}
use Rattle.oberon_shards.specs.Lines.{shard_lines}
use Rattle.oberon_shards.proofs.Texts.{no_bytes, no_lines}
use Rattle.oberon_shards.proofs.report.combine_lines.Goals as goal

pub returns-then-not-is_empty : goal.returns-then-not-is_empty
returns-then-not-is_empty c =
    let short : length c.args.text.now ≤ LONGEST_SHARDS = c.if-text-gt-LONGEST_SHARDS.false in
    let some : 0 < length c.in_ok-rest.rest.now = search rules in
    let read = c.in_ok-rest.ensures.0 in
    let long : c.len.result ≡ length c.read_shards.new.shards.items = c.len.ensures ∙ c.read_shards.new.shards.ok.0 in
    IfOk-weaker c.refused-then-not-is_empty.result _ _ (λ report is. inr (record {
      fault = Syntax (length c.read_shards.new.shards.items + 1);
      is_fault = (
        short,
        record {
          shards = c.read_shards.new.shards.items;
          printable = read.printable;
          rest = c.in_ok-rest.rest.now;
          lines_are = read.lines_are;
          line_is = refl;
          broken = c.in_ok-rest.ensures.1 some;
          none = no_lines c.args.text.now c.read_shards.new.shards.items c.in_ok-rest.rest.now read (c.in_ok-rest.ensures.1 some) some;
        },
      );
      line_is = is.0 ∙ ap (λ (n : ℕ). combine_fault_line (Syntax (n + 1))) long;
      status_is = is.1;
    })) c.refused-then-not-is_empty.ensures

pub returns-in-Ok : goal.returns-in-Ok
returns-in-Ok c =
    let short : length c.args.text.now ≤ LONGEST_SHARDS = c.if-text-gt-LONGEST_SHARDS.false in
    let none : c.in_ok-rest.rest.now ≡ [] = no_bytes c.in_ok-rest.rest.now (search rules) in
    let read = c.in_ok-rest.ensures.0 in
    let line = c.in_ok-from_slice-in-Ok.ensures.items ∙ c.deref-in-Ok.ensures.value in
    let decides : Decides c.read_shards.new.shards.items c.in-Ok.shard.now =
    subst (λ (xs : List Shard). Decides xs c.in-Ok.shard.now) c.deref.ensures.value c.in-Ok.ensures.line in
    inl (record {
      short = short;
      shards = c.read_shards.new.shards.items;
      printable = read.printable;
      agree = subst (λ (xs : List Shard). AllAgree xs) c.deref.ensures.value c.in-Ok.ensures.agree;
      lines_are = read.lines_are ∙ ap (λ (x : List ℕ). shard_lines c.read_shards.new.shards.items ++ x) none ∙ append-nil (shard_lines c.read_shards.new.shards.items);
      shard = c.in-Ok.shard.now;
      is_one = subst (λ (xs : List Shard). IsOneOf xs c.in-Ok.shard.now) c.deref.ensures.value c.in-Ok.ensures.one;
      one_file = subst (λ (xs : List Shard). All (λ s. s.digest ≡ c.in-Ok.shard.now.digest) xs) c.deref.ensures.value c.in-Ok.ensures.one_file;
      decides = λ v file of. rw (line, c.status.ensures) (decides v file (read.are v file of).0);
      line_is = line;
      status_is = c.status.ensures;
    })
