use Rattle.std.proofs.Common.{◌≡◌, Option, None, Some, refl, sym, ◌∙◌}
use Rattle.std.specs.Prelude.{IfNone}
use Rattle.risc_model.specs.MachineState.{cpu_state}
use Rattle.oberon_check.specs.declared.part.Part.{Part}
use Rattle.oberon_check.specs.Difference.{register_parts, control_parts}
use Rattle.oberon_check.proofs.Parts.{same_cpu}
use Rattle.oberon_check.proofs.Rules.{met_append, broken_append}
use Rattle.oberon_check.proofs.difference.cpu_difference.Goals as goal

pub returns-in-Some-clause-part : goal.returns-in-Some-clause-part
returns-in-Some-clause-part c =
    sym (broken_append (register_parts c.args.claimed.now.r c.args.cpu.now.r) (control_parts (cpu_state c.args.claimed.now) (cpu_state c.args.cpu.now)) _ (sym c.in-Some.ensures.part))

pub returns-clause-part : goal.returns-clause-part
returns-clause-part c =
    c.control_difference.ensures
    ∙ sym (met_append (register_parts c.args.claimed.now.r c.args.cpu.now.r) (control_parts (cpu_state c.args.claimed.now) (cpu_state c.args.cpu.now)) (sym c.in_default.ensures.part))

if_none : (P : Type 0) (o : Option Part) → (o ≡ None → P) → IfNone o P
if_none P None h = h refl
if_none P (Some part) h = tt

pub returns-clause-same : goal.returns-clause-same
returns-clause-same c =
    if_none _ _ (λ none. same_cpu (cpu_state c.args.claimed.now) (cpu_state c.args.cpu.now) c.in_default.ensures.same (sym c.control_difference.ensures ∙ none))
