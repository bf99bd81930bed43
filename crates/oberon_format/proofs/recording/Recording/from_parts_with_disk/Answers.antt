use Rattle.oberon_format.proofs.Common.{Fault, fault_of_parts_with_disk, IfSome, IsNamedFault, Option, parts_of, refl, subst, sym, VERSION_WITH_DISK}
use Rattle.oberon_format.proofs.LawfulLemmas.{lawful_parts}
use Rattle.oberon_format.proofs.Named.{parts_named}
use Rattle.oberon_format.proofs.recording.Recording.from_parts_with_disk.Goals as goal

pub returns-in-Some-clause-lawful : goal.returns-in-Some-clause-lawful
returns-in-Some-clause-lawful c =
    let found = rw c.deref.ensures.value at c.in-Some.ensures.fault in
    (λ h. absurd cc, λ lawful. let none = lawful_parts VERSION_WITH_DISK _ refl lawful (λ other. absurd cc) in absurd cc)

pub returns-in-Some-clause-named : goal.returns-in-Some-clause-named
returns-in-Some-clause-named c =
    let found = rw c.deref.ensures.value at c.in-Some.ensures.fault in let r = parts_of c.args.pool c.args.inputs c.args.checkpoints.items in
    subst (λ (o : Option Fault). IfSome o IsNamedFault) {x = fault_of_parts_with_disk r} (sym {b = fault_of_parts_with_disk r} found) (parts_named VERSION_WITH_DISK r)
