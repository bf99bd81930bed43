use Rattle.std.proofs.Common.{◌∙◌, ap, map, subst, sym}
use Rattle.risc_model.specs.InputOrder.{AreOrdered}
use Rattle.galluspa.specs.Raw.{raw_input}
use Rattle.galluspa.proofs.InputLemmas.{not-unordered}
use Rattle.galluspa.proofs.advance.inputs_of.Goals as goal

pub unreachable-requires : goal.unreachable-requires
unreachable-requires c =
    not-unordered c.args.inputs.now c.in_ok-events_of.field-0.items c.in-Err.field-0.at c.in_ok-events_of.ensures c.in-Err.ensures.first_wrong c.requires

pub returns : goal.returns
returns c =
    let written = ap (map raw_input) c.in-Ok.ensures.list ∙ c.in_ok-events_of.ensures in
    record {
      written = written;
      ordered = subst AreOrdered (sym c.in-Ok.ensures.list) c.in-Ok.ensures.ordered;
    }
