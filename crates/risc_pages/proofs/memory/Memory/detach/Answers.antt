use Rattle.std.proofs.Common.{◌≡◌, ℕ, ◌<◌, List, [], ◌∷◌, ◌++◌, length, length-append, get_or, ap, sym, subst, ◌∙◌, append_assoc, append-nil, arith}
use Rattle.std.specs.Vec.Iter.{into_iter_items}
use Rattle.std.proofs.lemmas.List.{get_or_default}
use Rattle.risc_pages.proofs.DetachedLemmas.{at_split, before_split, contents-same, each_more, nothing_left}
use Rattle.risc_pages.specs.declared.detached.DetachedSlot.{DetachedSlot}
use Rattle.risc_pages.specs.declared.slot.Began.{Began}
use Rattle.risc_pages.specs.declared.slot.Slot.{Slot}
use Rattle.risc_pages.specs.inner.Detached.{IsSameSlot}
use Rattle.risc_pages.specs.inner.Slots.{base_of, content, is_owned}
use Rattle.risc_pages.proofs.memory.Memory.detach.Goals as goal

pub index-requires : goal.index-requires
index-requires c =
    let slots : List Slot = c.self.inside.slots.items in
    let all = c.self.invariant.count in
    let bases = c.self.invariant.bases_count in
    let whole : c.loop-slot.yielded ++ c.in-Some.slot ∷ into_iter_items c.next.new.self ≡ into_iter_items c.into_iter-slot-iterator.result =
    rw (← c.in-Some.ensures.steps.0) c.loop-slot.invariant.split in
    let less : length c.loop-slot.yielded < length slots = before_split slots c.loop-slot.yielded (into_iter_items c.next.new.self) c.in-Some.slot (whole ∙ c.into_iter-slot-iterator.ensures.into_iter_gives.0) in
    let count = c.loop-slot.invariant.count in
    let len = c.len.ensures ∙ c.loop-slot.detached.ok.0 in
    omega arith

pub detach-requires : goal.detach-requires
detach-requires c = λ shared.
    let slots : List Slot = c.self.inside.slots.items in
    let x : Slot = c.in-Some.slot in
    let rest : List Slot = into_iter_items c.next.new.self in
    let whole : c.loop-slot.yielded ++ x ∷ rest ≡ into_iter_items c.into_iter-slot-iterator.result = rw (← c.in-Some.ensures.steps.0) c.loop-slot.invariant.split in
    let split : c.loop-slot.yielded ++ x ∷ rest ≡ slots = whole ∙ c.into_iter-slot-iterator.ensures.into_iter_gives.0 in
    let less : length c.loop-slot.yielded < length slots = before_split slots c.loop-slot.yielded rest x split in
    let len : c.len.result ≡ length c.loop-slot.yielded = c.len.ensures ∙ c.loop-slot.detached.ok.0 ∙ c.loop-slot.invariant.count in
    let here : get_or slots c.len.result x ≡ x = ap (λ (k : ℕ). get_or slots k x) len ∙ at_split slots c.loop-slot.yielded rest x x split in
    sym (ap (λ (s : Slot). content s) here)
    ∙ c.self.invariant.based c.len.result x c.index.result.now (let all = c.self.invariant.count in omega arith) (ap (λ (s : Slot). is_owned s) here ∙ shared)
    ∙ ap (λ (b : Began). base_of b) (sym c.index.ensures)

pub loop-slot-preserved : goal.loop-slot-preserved
loop-slot-preserved c =
    let slots : List Slot = c.self.inside.slots.items in
    let bases : List Began = c.self.inside.bases.items in
    let rest : List Slot = into_iter_items c.next.new.self in
    let x : Slot = c.in-Some.slot in
    let steps : into_iter_items c.loop-slot.slot-iterator ≡ x ∷ rest = c.in-Some.ensures.steps.0 in
    let all : into_iter_items c.into_iter-slot-iterator.result ≡ slots = c.into_iter-slot-iterator.ensures.into_iter_gives.0 in
    let split : c.loop-slot.yielded ++ x ∷ rest ≡ into_iter_items c.into_iter-slot-iterator.result = rw (← steps) c.loop-slot.invariant.split in
    let count : length c.loop-slot.detached.items ≡ length c.loop-slot.yielded = c.loop-slot.invariant.count in
    let more = length-append c.loop-slot.detached.items (c.detach.result ∷ []) in
    let len : c.len.result ≡ length c.loop-slot.detached.items = c.len.ensures ∙ c.loop-slot.detached.ok.0 in
    let inside : c.len.result < length bases =
    let less : length c.loop-slot.yielded < length (into_iter_items c.into_iter-slot-iterator.result) = before_split (into_iter_items c.into_iter-slot-iterator.result) c.loop-slot.yielded rest x split in
    let same = ap length all in
    let n = c.self.invariant.count in
    let m = c.self.invariant.bases_count in
    omega arith in
    let here = λ (d : Slot) (b : Began).
    subst (λ (s : Slot). IsSameSlot s (base_of (get_or bases (length c.loop-slot.detached.items) b)) c.detach.result)
    (sym (ap (λ (k : ℕ). get_or (into_iter_items c.into_iter-slot-iterator.result) k d) count ∙ at_split (into_iter_items c.into_iter-slot-iterator.result) c.loop-slot.yielded rest x d split))
    (subst (λ (z : Began). IsSameSlot x (base_of z) c.detach.result)
    (c.index.ensures ∙ get_or_default bases c.len.result c.index.result.now b inside ∙ ap (λ (k : ℕ). get_or bases k b) len)
    c.detach.ensures) in
    let yields = length-append c.loop-slot.yielded (x ∷ []) in
    let P : ℕ → DetachedSlot → Type 0 = λ k e. (d : Slot) (b : Began) → IsSameSlot (get_or (into_iter_items c.into_iter-slot-iterator.result) k d) (base_of (get_or bases k b)) e in
    rw c.push_reserved.ensures.items (record {
      room = omega (arith, c.push_reserved.ensures.capacity);
      split = append_assoc c.loop-slot.yielded (x ∷ []) _ ∙ split;
      left = let was = c.loop-slot.invariant.left in let gone = c.in-Some.ensures.steps.1 in let short = ap length steps in omega arith;
      count = omega (arith, more, yields, count);
      same = λ k e h. each_more P c.loop-slot.detached.items c.detach.result c.loop-slot.invariant.same here k e (omega (arith, more));
    })

pub returns : goal.returns
returns c =
    let at = c.loop-slot in
    let empty : into_iter_items at.slot-iterator ≡ [] = nothing_left _ (sym at.invariant.left ∙ c.in-None.ensures.steps.0) in
    let all : at.yielded ≡ into_iter_items c.into_iter-slot-iterator.result = sym (append-nil at.yielded) ∙ rw empty at at.invariant.split in
    let slots : into_iter_items c.into_iter-slot-iterator.result ≡ c.self.inside.slots.items = c.into_iter-slot-iterator.ensures.into_iter_gives.0 in
    let count : length c.self.inside.slots.items ≡ 1024 = c.self.invariant.count in
    let bases : length c.self.inside.bases.items ≡ 1024 = c.self.invariant.bases_count in
    let n : length at.detached.items ≡ 1024 = at.invariant.count ∙ ap length (all ∙ slots) ∙ count in
    sym (contents-same c.self.inside.slots.items c.self.inside.bases.items at.detached.items (omega arith) (omega arith)
    (λ k d b e h. subst (λ (l : List Slot). IsSameSlot (get_or l k d) (base_of (get_or c.self.inside.bases.items k b)) (get_or at.detached.items k e)) slots (at.invariant.same k e (omega arith) d b)))
    ∙ c.self.view_is
