use Rattle.std.proofs.Common.{refl}
use Rattle.std.proofs.lemmas.Bool.{false≢true}
use Rattle.oberon_session.proofs.PartLemmas.{breaks-unlawful}
use Rattle.oberon_session.proofs.session.Session.from_parts.Goals as goal

pub returns-in-Some-clause-lawful : goal.returns-in-Some-clause-lawful
returns-in-Some-clause-lawful c =
    let broken = rw (c.deref.ensures.value, c.deref-2.ensures.value) at c.in-Some.ensures.some in
    (λ no. absurd (false≢true no), λ lawful. absurd (breaks-unlawful _ c.in-Some.fault broken lawful))

pub returns-in-Some-clause-refused : goal.returns-in-Some-clause-refused
returns-in-Some-clause-refused c = rw (c.deref.ensures.value, c.deref-2.ensures.value) at c.in-Some.ensures.some

pub invariant_of-result : goal.invariant_of-result
invariant_of-result c =
    let lawful = rw (c.deref.ensures.value, c.deref-2.ensures.value) at c.in_default.ensures.none in
    lawful.within

pub returns-clause-lawful : goal.returns-clause-lawful
returns-clause-lawful c =
    let lawful = rw (c.deref.ensures.value, c.deref-2.ensures.value) at c.in_default.ensures.none in
    (λ _. lawful, λ _. refl)
