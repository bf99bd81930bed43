use Rattle.std.proofs.Common.{◌≡◌, ℕ, ◌<◌, List, [], ◌∷◌, Bool, length, length-append, get_or, false, ap, sym, ◌∙◌, arith, refl}
use Rattle.std.proofs.lemmas.List.{get_or_default}
use Rattle.std.proofs.lemmas.List.Elements.{All-map, All-push}
use Rattle.risc_pages.proofs.Paging.{flat_map-same, same_more}
use Rattle.risc_pages.proofs.SlotLemmas.{IsContent-slots, IsMemory-contents_of}
use Rattle.risc_pages.specs.declared.slot.Began.{Began}
use Rattle.risc_pages.specs.declared.slot.Slot.{Slot}
use Rattle.risc_pages.specs.Pages.{page_of}
use Rattle.risc_pages.specs.inner.Slots.{AreBased, base_of, content, is_owned}
use Rattle.risc_pages.proofs.memory.Memory.from_table.Goals as goal

numbers_count : (c : goal.After-loop-number) → length c.args.table.now.numbers ≡ 1024
numbers_count c = c.args.table.now.count

count : (c : goal.After-loop-number) → length c.loop-number.slots.items ≡ 1024
count c =
    let n : length c.numbers-numbers.result.now ≡ length c.args.table.now.numbers = ap (λ (x : List ℕ). length x) c.numbers-numbers.ensures in
    let t : length c.args.table.now.numbers ≡ 1024 = numbers_count c in
    let p : length c.loop-number.slots.items ≡ c.loop-number.number-index = c.loop-number.invariant.count in
    omega arith

-- each slot has the page that the table names there
same : (c : goal.After-loop-number) (k : ℕ) (d : Slot) (e : ℕ) → k < length c.loop-number.slots.items → content (get_or c.loop-number.slots.items k d) ≡ page_of c.args.pool.now (get_or c.args.table.now.numbers k e)
same c k d e h = c.loop-number.invariant.same k d e h ∙ ap (λ (x : List ℕ). page_of c.args.pool.now (get_or x k e)) c.numbers-numbers.ensures

bases_count : (c : goal.After-loop-number) → length c.loop-number.bases.items ≡ 1024
bases_count c =
    let slots : length c.loop-number.slots.items ≡ c.loop-number.number-index = c.loop-number.invariant.count in
    let bases : length c.loop-number.bases.items ≡ c.loop-number.number-index = c.loop-number.invariant.bases_count in
    bases ∙ sym slots ∙ count c

-- so does the page that it began with
bases_same : (c : goal.After-loop-number) (k : ℕ) (d : Began) (e : ℕ) → k < length c.loop-number.bases.items → base_of (get_or c.loop-number.bases.items k d) ≡ page_of c.args.pool.now (get_or c.args.table.now.numbers k e)
bases_same c k d e h = c.loop-number.invariant.bases_same k d e h ∙ ap (λ (x : List ℕ). page_of c.args.pool.now (get_or x k e)) c.numbers-numbers.ensures

based : (c : goal.After-loop-number) → AreBased c.loop-number.slots.items c.loop-number.bases.items
based c = record {
  count = count c;
  bases_count = bases_count c;
  based = λ k d e h _. same c k d 0 (let n = count c in omega arith) ∙ sym (bases_same c k e 0 (let n = bases_count c in omega arith));
}

pub returns-clause-content : goal.returns-clause-content
returns-clause-content c = IsContent-slots c.loop-number.slots.items _ _ (count c) (same c)

pub returns-clause-words : goal.returns-clause-words
returns-clause-words c =
    let n = numbers_count c in
    let p = count c in
    flat_map-same content (page_of c.args.pool.now) c.loop-number.slots.items c.args.table.now.numbers (omega arith) (same c)

pub returns-clause-base : goal.returns-clause-base
returns-clause-base c =
    let n = numbers_count c in
    let p = bases_count c in
    flat_map-same base_of (page_of c.args.pool.now) c.loop-number.bases.items c.args.table.now.numbers (omega arith) (bases_same c)

pub invariant_of-result : goal.invariant_of-result
invariant_of-result c = based c

pub returns-clause-shared : goal.returns-clause-shared
returns-clause-shared c = All-map (λ (owned : Bool). owned ≡ false) is_owned c.loop-number.slots.items c.loop-number.invariant.shared

pub returns-clause-memory : goal.returns-clause-memory
returns-clause-memory c = IsMemory-contents_of c.loop-number.slots.items c.loop-number.bases.items _ (based c) refl

pub loop-number-preserved : goal.loop-number-preserved
loop-number-preserved c =
    let slots = c.loop-number.slots.items in
    let count : length slots ≡ c.loop-number.number-index = c.loop-number.invariant.count in
    let numbers = c.numbers-numbers.result.now in
    let more = length-append slots (c.slot.result ∷ []) in
    let here = λ (e : ℕ).
    c.slot.ensures.words
    ∙ ap (page_of c.args.pool.now) (get_or_default numbers c.loop-number.number-index 0 e c.loop-number-test.true)
    ∙ ap (λ (k : ℕ). page_of c.args.pool.now (get_or numbers k e)) (sym count) in
    let bases = c.loop-number.bases.items in
    let bases_count : length bases ≡ c.loop-number.number-index = c.loop-number.invariant.bases_count in
    let began : Began = record { page = c.page-page.result } in
    let bases_more = length-append bases (began ∷ []) in
    let there = λ (e : ℕ).
    c.page-page.ensures.words
    ∙ ap (page_of c.args.pool.now) (get_or_default numbers c.loop-number.number-index 0 e c.loop-number-test.true)
    ∙ ap (λ (k : ℕ). page_of c.args.pool.now (get_or numbers k e)) (sym bases_count) in
    rw (c.push_reserved.ensures.items, c.push_reserved-in-loop-number.ensures.items) (record {
      room = omega (arith, c.push_reserved.ensures.capacity);
      bases_room = omega (arith, c.push_reserved-in-loop-number.ensures.capacity);
      count = omega (arith, more);
      bases_count = omega (arith, bases_more);
      same = λ k d e h. same_more content (page_of c.args.pool.now) slots numbers c.slot.result c.loop-number.invariant.same here k d e (omega (arith, more));
      bases_same = λ k d e h. same_more base_of (page_of c.args.pool.now) bases numbers began c.loop-number.invariant.bases_same there k d e (omega (arith, bases_more));
      shared = All-push (λ (p : Slot). is_owned p ≡ false) _ _ c.loop-number.invariant.shared c.slot.ensures.shared;
    })
