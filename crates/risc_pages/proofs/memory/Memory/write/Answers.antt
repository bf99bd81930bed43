use Rattle.std.proofs.Common.{◌/◌, ◌%◌, set, true, ap, arith, Vec, Global}
use Rattle.std.proofs.lemmas.List.{map-set}
use Rattle.std.proofs.lemmas.Result.{err_from_is_err_and}
use Rattle.risc_pages.proofs.SlotLemmas.{contents_kept, in_slot, owned_at, owned_once, owned_taken, words_set, words_taken}
use Rattle.risc_pages.specs.Contents.{Contents}
use Rattle.risc_pages.specs.declared.page.Page.{Page}
use Rattle.risc_pages.specs.declared.slot.Slot.{Slot}
use Rattle.risc_pages.proofs.memory.Memory.write.Goals as goal

pub returns-in-Owned-clause-ok : goal.returns-in-Owned-clause-ok
returns-in-Owned-clause-ok c =
    let is = in_slot c.self.inside.slots.items (c.args.number / 256) c.index_mut.ensures.value c.in-Owned.is in
    words_set _ _ _ _ _ _ c.self.invariant.count c.requires is (ap (λ (m : Contents). m.words) c.self.view_is)
    (ap (λ (z : Page). set z.words (c.args.number % 256) c.args.value) c.deref_mut.ensures.value)

pub returns-in-Owned-clause-owned : goal.returns-in-Owned-clause-owned
returns-in-Owned-clause-owned c = simp map-set (ap (λ (m : Contents). set m.owned (c.args.number / 256) true) c.self.view_is)

pub returns-in-Owned-clause-base : goal.returns-in-Owned-clause-base
returns-in-Owned-clause-base c =
    ap (λ (m : Contents). m.base) c.self.view_is

pub returns-in_ok-copy_on_write-in-Shared-clause-ok : goal.returns-in_ok-copy_on_write-in-Shared-clause-ok
returns-in_ok-copy_on_write-in-Shared-clause-ok c =
    let is = in_slot c.self.inside.slots.items (c.args.number / 256) c.index_mut.ensures.value c.in-Shared.is in
    words_taken c.self.inside.slots.items _ _ _ _ _ c.self.invariant.count c.requires is (ap (λ (m : Contents). m.words) c.self.view_is) c.in_ok-copy_on_write-in-Shared.ensures.ok

pub returns-in_ok-copy_on_write-in-Shared-clause-owned : goal.returns-in_ok-copy_on_write-in-Shared-clause-owned
returns-in_ok-copy_on_write-in-Shared-clause-owned c = owned_taken c.self.inside.slots.items _ _ _ _ _ (ap (λ (m : Contents). m.owned) c.self.view_is) c.in_ok-copy_on_write-in-Shared.ensures.ok

pub returns-in_ok-copy_on_write-in-Shared-clause-base : goal.returns-in_ok-copy_on_write-in-Shared-clause-base
returns-in_ok-copy_on_write-in-Shared-clause-base c =
    ap (λ (m : Contents). m.base) c.self.view_is

pub returns-in_ok-copy_on_write-in-Blank-clause-ok : goal.returns-in_ok-copy_on_write-in-Blank-clause-ok
returns-in_ok-copy_on_write-in-Blank-clause-ok c =
    let is = in_slot c.self.inside.slots.items (c.args.number / 256) c.index_mut.ensures.value c.in-Blank.is in
    words_taken c.self.inside.slots.items _ _ _ _ _ c.self.invariant.count c.requires is (ap (λ (m : Contents). m.words) c.self.view_is) c.in_ok-copy_on_write-in-Blank.ensures.ok

pub returns-in_ok-copy_on_write-in-Blank-clause-owned : goal.returns-in_ok-copy_on_write-in-Blank-clause-owned
returns-in_ok-copy_on_write-in-Blank-clause-owned c = owned_taken c.self.inside.slots.items _ _ _ _ _ (ap (λ (m : Contents). m.owned) c.self.view_is) c.in_ok-copy_on_write-in-Blank.ensures.ok

pub returns-in_ok-copy_on_write-in-Blank-clause-base : goal.returns-in_ok-copy_on_write-in-Blank-clause-base
returns-in_ok-copy_on_write-in-Blank-clause-base c =
    ap (λ (m : Contents). m.base) c.self.view_is

pub returns-in_err-copy_on_write-in-Blank-clause-base : goal.returns-in_err-copy_on_write-in-Blank-clause-base
returns-in_err-copy_on_write-in-Blank-clause-base c =
    ap (λ (m : Contents). m.base)
    (contents_kept c.self.inside.slots.items _ c.self.inside.bases.items (c.args.number / 256) c.index_mut.ensures.value c.in-Blank.is
    (ap (λ (v : Vec Slot Global). v.items) c.in_err-copy_on_write-in-Blank.ensures.err) c.self.view_is)

pub returns-in_err-copy_on_write-in-Blank-clause-err : goal.returns-in_err-copy_on_write-in-Blank-clause-err
returns-in_err-copy_on_write-in-Blank-clause-err c =
    rw (err_from_is_err_and c.from_residual.result c.from_residual.ensures.1).1
    (contents_kept c.self.inside.slots.items _ c.self.inside.bases.items (c.args.number / 256) c.index_mut.ensures.value c.in-Blank.is
    (ap (λ (v : Vec Slot Global). v.items) c.in_err-copy_on_write-in-Blank.ensures.err) c.self.view_is)

pub returns-in_err-copy_on_write-in-Blank-clause-out_of_memory : goal.returns-in_err-copy_on_write-in-Blank-clause-out_of_memory
returns-in_err-copy_on_write-in-Blank-clause-out_of_memory c =
    rw (err_from_is_err_and c.from_residual.result c.from_residual.ensures.1).1
    (owned_at c.self.inside.slots.items c.self.inside.bases.items (c.args.number / 256) c.index_mut.ensures.value c.in-Blank.is c.self.view_is c.self.invariant.count
    (omega (arith, c.requires)))

pub returns-in_err-copy_on_write-in-Blank-clause-succeeds : goal.returns-in_err-copy_on_write-in-Blank-clause-succeeds
returns-in_err-copy_on_write-in-Blank-clause-succeeds c =
    λ owned.
    absurd (owned_once
    (owned_at c.self.inside.slots.items c.self.inside.bases.items (c.args.number / 256) c.index_mut.ensures.value c.in-Blank.is c.self.view_is c.self.invariant.count
    (omega (arith, c.requires)))
    owned)

pub returns-in_err-copy_on_write-in-Shared-clause-base : goal.returns-in_err-copy_on_write-in-Shared-clause-base
returns-in_err-copy_on_write-in-Shared-clause-base c =
    ap (λ (m : Contents). m.base)
    (contents_kept c.self.inside.slots.items _ c.self.inside.bases.items (c.args.number / 256) c.index_mut.ensures.value c.in-Shared.is
    (ap (λ (v : Vec Slot Global). v.items) c.in_err-copy_on_write-in-Shared.ensures.err) c.self.view_is)

pub returns-in_err-copy_on_write-in-Shared-clause-err : goal.returns-in_err-copy_on_write-in-Shared-clause-err
returns-in_err-copy_on_write-in-Shared-clause-err c =
    rw (err_from_is_err_and c.from_residual-in_err-copy_on_write-in-Shared.result c.from_residual-in_err-copy_on_write-in-Shared.ensures.1).1
    (contents_kept c.self.inside.slots.items _ c.self.inside.bases.items (c.args.number / 256) c.index_mut.ensures.value c.in-Shared.is
    (ap (λ (v : Vec Slot Global). v.items) c.in_err-copy_on_write-in-Shared.ensures.err) c.self.view_is)

pub returns-in_err-copy_on_write-in-Shared-clause-out_of_memory : goal.returns-in_err-copy_on_write-in-Shared-clause-out_of_memory
returns-in_err-copy_on_write-in-Shared-clause-out_of_memory c =
    rw (err_from_is_err_and c.from_residual-in_err-copy_on_write-in-Shared.result c.from_residual-in_err-copy_on_write-in-Shared.ensures.1).1
    (owned_at c.self.inside.slots.items c.self.inside.bases.items (c.args.number / 256) c.index_mut.ensures.value c.in-Shared.is c.self.view_is c.self.invariant.count
    (omega (arith, c.requires)))

pub returns-in_err-copy_on_write-in-Shared-clause-succeeds : goal.returns-in_err-copy_on_write-in-Shared-clause-succeeds
returns-in_err-copy_on_write-in-Shared-clause-succeeds c =
    λ owned.
    absurd (owned_once
    (owned_at c.self.inside.slots.items c.self.inside.bases.items (c.args.number / 256) c.index_mut.ensures.value c.in-Shared.is c.self.view_is c.self.invariant.count
    (omega (arith, c.requires)))
    owned)
