use Rattle.std.proofs.Common.{◌/◌, ◌%◌, set, true, refl, ap, arith}
use Rattle.std.proofs.lemmas.List.{map-set}
use Rattle.risc_pages.proofs.SlotLemmas.{contents_kept, in_slot, owned_at, words_set}
use Rattle.risc_pages.specs.Contents.{Contents}
use Rattle.risc_pages.specs.declared.page.Page.{Page}
use Rattle.risc_pages.proofs.memory.Memory.write_owned.Goals as goal

pub returns-in-Owned-clause-words : goal.returns-in-Owned-clause-words
returns-in-Owned-clause-words c = λ _.
    let is = in_slot c.self.inside.slots.items (c.args.number / 256) c.index_mut.ensures.value c.in-Owned.is in
    words_set _ _ _ _ _ _ c.self.invariant.count c.requires is (ap (λ (m : Contents). m.words) c.self.view_is)
    (ap (λ (z : Page). set z.words (c.args.number % 256) c.args.word) c.deref_mut.ensures.value)

pub returns-in-Owned-clause-owned : goal.returns-in-Owned-clause-owned
returns-in-Owned-clause-owned c = λ _. simp map-set (ap (λ (m : Contents). set m.owned (c.args.number / 256) true) c.self.view_is)

pub returns-in-Owned-clause-base : goal.returns-in-Owned-clause-base
returns-in-Owned-clause-base c =
    ap (λ (m : Contents). m.base) c.self.view_is

pub returns-in-Owned-clause-answer : goal.returns-in-Owned-clause-answer
returns-in-Owned-clause-answer c =
    owned_at c.self.inside.slots.items c.self.inside.bases.items (c.args.number / 256) c.index_mut.ensures.value c.in-Owned.is c.self.view_is c.self.invariant.count
    (omega (arith, c.requires))

pub returns-in-Blank-clause-base : goal.returns-in-Blank-clause-base
returns-in-Blank-clause-base c =
    ap (λ (m : Contents). m.base) (contents_kept c.self.inside.slots.items _ c.self.inside.bases.items (c.args.number / 256) c.index_mut.ensures.value refl refl c.self.view_is)

pub returns-in-Blank-clause-unchanged : goal.returns-in-Blank-clause-unchanged
returns-in-Blank-clause-unchanged c = λ _. contents_kept c.self.inside.slots.items _ c.self.inside.bases.items (c.args.number / 256) c.index_mut.ensures.value refl refl c.self.view_is

pub returns-in-Blank-clause-answer : goal.returns-in-Blank-clause-answer
returns-in-Blank-clause-answer c =
    owned_at c.self.inside.slots.items c.self.inside.bases.items (c.args.number / 256) c.index_mut.ensures.value c.in-Blank.is c.self.view_is c.self.invariant.count
    (omega (arith, c.requires))

pub returns-in-Shared-clause-base : goal.returns-in-Shared-clause-base
returns-in-Shared-clause-base c =
    ap (λ (m : Contents). m.base) (contents_kept c.self.inside.slots.items _ c.self.inside.bases.items (c.args.number / 256) c.index_mut.ensures.value refl refl c.self.view_is)

pub returns-in-Shared-clause-unchanged : goal.returns-in-Shared-clause-unchanged
returns-in-Shared-clause-unchanged c = λ _. contents_kept c.self.inside.slots.items _ c.self.inside.bases.items (c.args.number / 256) c.index_mut.ensures.value refl refl c.self.view_is

pub returns-in-Shared-clause-answer : goal.returns-in-Shared-clause-answer
returns-in-Shared-clause-answer c =
    owned_at c.self.inside.slots.items c.self.inside.bases.items (c.args.number / 256) c.index_mut.ensures.value c.in-Shared.is c.self.view_is c.self.invariant.count
    (omega (arith, c.requires))
