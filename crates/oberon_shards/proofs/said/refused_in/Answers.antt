use Rattle.std.proofs.Common.{◌≡◌, ◌∙◌, ◌++◌, ℕ, List, sym, ap, arith, refl, codes}
use Rattle.std.specs.Fmt.{decimal}
use Rattle.oberon_format.specs.declared.fault.Fault.{Fault}
use Rattle.oberon_format.specs.Line.{fault_line}
use Rattle.oberon_shards.specs.Shard.{byte_of}
use Rattle.oberon_shards.specs.inner.Reading.{fault_number}
use Rattle.oberon_shards.proofs.Fields.{decimal_lacks, lacks, lacks_text}
use Rattle.oberon_shards.proofs.LineFields.{fault_line_is, fault_name, name_lacks, not_memory, number_fits, refused_fields}
use Rattle.oberon_shards.proofs.said.refused_in.Goals as goal

pub refusal-requires : goal.refusal-requires
refusal-requires c = not_memory c.fault_in-fault.result c.fault_in-fault.ensures.named

pub returns : goal.returns
unfolding lacks
returns c = record {
  line_is = (c.fault_in-fault.result, c.fault_in-fault.ensures.named, c.fault_in-fault.ensures.byte, c.in_ok-line.ensures);
  count_fits = omega arith;
  first = λ n said more is fits text.
      let f : Fault = is.0 in
      let whole = text ∙ ap (λ (x : List ℕ). x ++ more) (is.3 ∙ fault_line_is f is.1) ∙ refused_fields (fault_number f) (fault_name f) (byte_of f) more in
      let word = c.cut.ensures (codes "refused") _ (lacks_text 32 (codes "refused") refl) whole in
      let number = c.cut-2.ensures (decimal (fault_number f)) _ (decimal_lacks 32 (fault_number f) (omega arith)) word.1 in
      let name = c.cut-3.ensures (fault_name f) _ (name_lacks f) number.1 in
      let at = c.cut-4.ensures (codes "at") _ (lacks_text 32 (codes "at") refl) name.1 in
      let bytes = c.cut-5.ensures (codes "byte") _ (lacks_text 32 (codes "byte") refl) at.1 in
      let offset = c.cut-6.ensures (decimal (byte_of f)) _ (decimal_lacks 10 (byte_of f) (omega arith)) bytes.1 in
      let byte = c.number_in-byte.ensures (byte_of f) (rw is.2 fits) offset.0 in
      let same = c.fault_in-fault.ensures.fault f is.1 (sym (c.number_in.ensures (fault_number f) (number_fits f) number.0)) (sym byte) in
      (byte ∙ is.2, c.in_ok-line.ensures ∙ ap fault_line same ∙ sym is.3);
}
