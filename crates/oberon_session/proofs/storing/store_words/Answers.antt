use Rattle.std.proofs.Common.{ap, arith, length}
use Rattle.std.specs.Prelude.{Result, Ok, Err, OnOk}
use Rattle.oberon_session.proofs.PagesStored.{few-changes, low-changes}
use Rattle.oberon_session.proofs.storing.store_words.Goals as goal

pub store_pages-requires-clause-few : goal.store_pages-requires-clause-few
store_pages-requires-clause-few c = rw c.deref.ensures.value (few-changes _ _ c.in_ok-changed.changed.items c.in_ok-changed.ensures)

pub store_pages-requires-clause-slots : goal.store_pages-requires-clause-slots
store_pages-requires-clause-slots c = rw c.deref.ensures.value (low-changes _ _ c.in_ok-changed.changed.items c.in_ok-changed.ensures)

weaker : {T E P Q : Type 0} (r : Result T E) → (P → Q) → OnOk r P → OnOk r Q
weaker (Ok x) on p = on p
weaker (Err e) on p = tt

pub returns-clause-grown : goal.returns-clause-grown
returns-clause-grown c =
    let few = few-changes _ _ c.in_ok-changed.changed.items c.in_ok-changed.ensures in
    let same = ap length c.deref.ensures.value in
    weaker c.store_pages.result (λ grown. omega (arith, grown, few, same)) c.store_pages.ensures.grown
