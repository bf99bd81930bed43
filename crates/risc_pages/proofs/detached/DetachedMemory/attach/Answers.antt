use Rattle.std.proofs.Common.{◌≡◌, ℕ, ◌<◌, List, [], ◌∷◌, ◌++◌, length, length-append, get_or, ap, sym, subst, ◌∙◌, append_assoc, append-nil, arith, false}
use Rattle.std.specs.Vec.Iter.{into_iter_items}
use Rattle.risc_pages.proofs.DetachedLemmas.{at_split, base-named, before_split, contents-same, each_more, nothing_left}
use Rattle.risc_pages.specs.Pages.{page_of}
use Rattle.risc_pages.specs.declared.detached.DetachedSlot.{DetachedSlot}
use Rattle.risc_pages.specs.declared.slot.Began.{Began}
use Rattle.risc_pages.specs.declared.slot.Slot.{Slot}
use Rattle.risc_pages.specs.inner.Detached.{IsSameSlot, detached_base}
use Rattle.risc_pages.specs.inner.Slots.{base_of, content, is_owned}
use Rattle.risc_pages.proofs.detached.DetachedMemory.attach.Goals as goal

pub attach-requires-clause-base : goal.attach-requires-clause-base
attach-requires-clause-base c =
    let slots : List DetachedSlot = c.self.inside.slots.items in
    let numbers : List ℕ = c.args.table.now.numbers in
    let x : DetachedSlot = c.in-Some.slot in
    let rest : List DetachedSlot = into_iter_items c.next.new.self in
    let whole : c.loop-slot.yielded ++ x ∷ rest ≡ into_iter_items c.into_iter-slot-iterator.result = rw (← c.in-Some.ensures.steps.0) c.loop-slot.invariant.split in
    let split : c.loop-slot.yielded ++ x ∷ rest ≡ slots = whole ∙ c.into_iter-slot-iterator.ensures.into_iter_gives.0 in
    let less : length c.loop-slot.yielded < length slots = before_split slots c.loop-slot.yielded rest x split in
    let len : c.len.result ≡ length c.loop-slot.yielded = c.len.ensures ∙ c.loop-slot.slots.ok.0 ∙ c.loop-slot.invariant.count in
    let here : get_or slots c.len.result x ≡ x = ap (λ (k : ℕ). get_or slots k x) len ∙ at_split slots c.loop-slot.yielded rest x x split in
    let n : length slots ≡ 1024 = c.self.invariant in
    let t : length numbers ≡ 1024 = c.args.table.now.count in
    sym (ap (λ (s : DetachedSlot). detached_base s) here)
    ∙ base-named slots c.args.self c.args.pool.now numbers c.len.result x 0 c.self.view_is c.page-page.ensures.pages c.requires.named c.requires.base (omega arith) (omega arith)
    ∙ ap (λ (z : List ℕ). page_of c.args.pool.now (get_or z c.len.result 0)) (sym c.numbers-numbers.ensures)

pub loop-slot-preserved : goal.loop-slot-preserved
loop-slot-preserved c =
    let slots : List Slot = c.loop-slot.slots.items in
    let bases : List Began = c.loop-slot.bases.items in
    let detached : List DetachedSlot = into_iter_items c.into_iter-slot-iterator.result in
    let x : DetachedSlot = c.in-Some.slot in
    let s : Slot = c.attach.result in
    let began : Began = record { page = c.page-page.result } in
    let rest : List DetachedSlot = into_iter_items c.next.new.self in
    let steps : into_iter_items c.loop-slot.slot-iterator ≡ x ∷ rest = c.in-Some.ensures.steps.0 in
    let split : c.loop-slot.yielded ++ x ∷ rest ≡ detached = rw (← steps) c.loop-slot.invariant.split in
    let count : length slots ≡ length c.loop-slot.yielded = c.loop-slot.invariant.count in
    let bases_count : length bases ≡ length c.loop-slot.yielded = c.loop-slot.invariant.bases_count in
    let len : c.len.result ≡ length slots = c.len.ensures ∙ c.loop-slot.slots.ok.0 in
    let more = length-append slots (s ∷ []) in
    let bases_more = length-append bases (began ∷ []) in
    let yields = length-append c.loop-slot.yielded (x ∷ []) in
    let page : ℕ → List ℕ = λ k. page_of c.args.pool.now (get_or c.numbers-numbers.result.now k 0) in
    let P : ℕ → Slot → Type 0 = λ k it. (d : DetachedSlot) → IsSameSlot it (page k) (get_or detached k d) in
    let Q : ℕ → Slot → Type 0 = λ k it. is_owned it ≡ false → content it ≡ page k in
    let B : ℕ → Began → Type 0 = λ k it. base_of it ≡ page k in
    let here : P (length slots) s = λ d.
    subst (λ (it : DetachedSlot). IsSameSlot s (page (length slots)) it)
    (sym (ap (λ (k : ℕ). get_or detached k d) count ∙ at_split detached c.loop-slot.yielded rest x d split))
    (subst (λ (k : ℕ). IsSameSlot s (page k) x) len c.attach.ensures.same) in
    let based : Q (length slots) s = subst (λ (k : ℕ). Q k s) len c.attach.ensures.based in
    let begun : B (length bases) began = c.page-page.ensures.words ∙ ap page (len ∙ count ∙ sym bases_count) in
    rw (c.push_reserved.ensures.items, c.push_reserved-in-loop-slot.ensures.items) (record {
      room = omega (arith, c.push_reserved.ensures.capacity);
      bases_room = omega (arith, c.push_reserved-in-loop-slot.ensures.capacity);
      split = append_assoc c.loop-slot.yielded (x ∷ []) _ ∙ split;
      left = let was = c.loop-slot.invariant.left in let gone = c.in-Some.ensures.steps.1 in let short = ap length steps in omega arith;
      count = omega (arith, more, yields, count);
      bases_count = omega (arith, bases_more, yields, bases_count);
      same = λ k e h. each_more P slots s c.loop-slot.invariant.same here k e (omega (arith, more));
      based = λ k e h. each_more Q slots s c.loop-slot.invariant.based based k e (omega (arith, more));
      bases_same = λ k e h. each_more B bases began c.loop-slot.invariant.bases_same begun k e (omega (arith, bases_more));
    })

pub invariant_of-result : goal.invariant_of-result
invariant_of-result c =
    let at = c.loop-slot in
    let empty : into_iter_items at.slot-iterator ≡ [] = nothing_left _ (sym at.invariant.left ∙ c.in-None.ensures.steps.0) in
    let all : at.yielded ≡ into_iter_items c.into_iter-slot-iterator.result = sym (append-nil at.yielded) ∙ rw empty at at.invariant.split in
    let n : length at.yielded ≡ 1024 = ap length (all ∙ c.into_iter-slot-iterator.ensures.into_iter_gives.0) ∙ c.self.invariant in
    let count : length at.slots.items ≡ 1024 = at.invariant.count ∙ n in
    let bases_count : length at.bases.items ≡ 1024 = at.invariant.bases_count ∙ n in
    record {
      count = count;
      bases_count = bases_count;
      based = λ k d e h shared. at.invariant.based k d (omega arith) shared ∙ sym (at.invariant.bases_same k e (omega arith));
    }

pub returns : goal.returns
returns c =
    let at = c.loop-slot in
    let empty : into_iter_items at.slot-iterator ≡ [] = nothing_left _ (sym at.invariant.left ∙ c.in-None.ensures.steps.0) in
    let all : at.yielded ≡ into_iter_items c.into_iter-slot-iterator.result = sym (append-nil at.yielded) ∙ rw empty at at.invariant.split in
    let gives : into_iter_items c.into_iter-slot-iterator.result ≡ c.self.inside.slots.items = c.into_iter-slot-iterator.ensures.into_iter_gives.0 in
    let d : length c.self.inside.slots.items ≡ 1024 = c.self.invariant in
    let n : length at.yielded ≡ 1024 = ap length (all ∙ gives) ∙ d in
    let count : length at.slots.items ≡ 1024 = at.invariant.count ∙ n in
    let bases_count : length at.bases.items ≡ 1024 = at.invariant.bases_count ∙ n in
    contents-same at.slots.items at.bases.items c.self.inside.slots.items (omega arith) (omega arith)
    (λ k s b e h.
    subst (λ (w : List ℕ). IsSameSlot (get_or at.slots.items k s) w (get_or c.self.inside.slots.items k e)) (sym (at.invariant.bases_same k b (omega arith)))
    (subst (λ (l : List DetachedSlot). IsSameSlot (get_or at.slots.items k s) (page_of c.args.pool.now (get_or c.numbers-numbers.result.now k 0)) (get_or l k e)) gives
    (at.invariant.same k s (omega arith) e)))
    ∙ c.self.view_is
