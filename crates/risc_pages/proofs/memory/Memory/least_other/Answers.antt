use Rattle.std.proofs.Common.{◌≡◌, ℕ, ◌<◌, List, length, get_or, sym, ap, ◌∙◌, arith}
use Rattle.std.proofs.lemmas.Bool.{false≢true}
use Rattle.risc_pages.proofs.Paging.{flat_map-same}
use Rattle.risc_pages.proofs.SlotLemmas.{page_at-content}
use Rattle.risc_pages.proofs.PoolLemmas.{page_at-table_words}
use Rattle.risc_pages.specs.Tables.{table_words}
use Rattle.risc_pages.specs.Contents.{Contents}
use Rattle.risc_pages.specs.declared.slot.Slot.{Slot}
use Rattle.risc_pages.specs.Pages.{page_at, page_of}
use Rattle.risc_pages.specs.inner.Slots.{content}
use Rattle.risc_pages.proofs.memory.Memory.least_other.Goals as goal

pub returns-clause-none : goal.returns-clause-none
returns-clause-none c _ =
    let t : length c.args.table.now.numbers ≡ 1024 = c.args.table.now.count in
    let n : length c.self.inside.slots.items ≡ 1024 = c.self.invariant.count in
    let e = c.numbers-numbers.ensures in
    sym (ap (λ (m : Contents). m.words) c.self.view_is)
    ∙ flat_map-same content (page_of c.args.pool.now) c.self.inside.slots.items c.args.table.now.numbers (omega arith)
    (λ k d x h. c.loop-slot.invariant k d x (omega arith) ∙ ap (λ (z : List ℕ). page_of c.args.pool.now (get_or z k x)) e)

pub returns-then-not-is_same-clause-some : goal.returns-then-not-is_same-clause-some
returns-then-not-is_same-clause-some c _ =
    let t : length c.args.table.now.numbers ≡ 1024 = c.args.table.now.count in
    let n : length c.self.inside.slots.items ≡ 1024 = c.self.invariant.count in
    let e = c.numbers-numbers.ensures in
    let mine = λ (k : ℕ) (h : k < 1024). page_at-content c.self.inside.slots.items c.args.self.now.words k c.index.result.now (ap (λ (m : Contents). m.words) c.self.view_is) (omega arith) in
    let theirs = λ (k : ℕ) (h : k < 1024). page_at-table_words c.args.pool.now c.args.table.now.numbers k 0 c.is_same.ensures.pages c.requires (omega arith) in
    record {
      inside = c.loop-slot-test.true;
      before = λ k h. mine k (omega arith) ∙ c.loop-slot.invariant k c.index.result.now 0 h ∙ ap (λ (z : List ℕ). page_of c.args.pool.now (get_or z k 0)) e ∙ sym (theirs k (omega arith));
      differs = λ same.
          let own : page_at c.args.self.now.words c.loop-slot.slot ≡ content c.index.result.now =
          mine c.loop-slot.slot c.loop-slot-test.true ∙ ap (λ (p : Slot). content p) (sym c.index.ensures) in
          let other : page_at (table_words c.args.pool.now c.args.table.now.numbers) c.loop-slot.slot ≡ page_of c.args.pool.now (get_or c.numbers-numbers.result.now c.loop-slot.slot 0) =
          theirs c.loop-slot.slot c.loop-slot-test.true ∙ ap (λ (z : List ℕ). page_of c.args.pool.now (get_or z c.loop-slot.slot 0)) (sym e) in
          false≢true (c.if-not-is_same.ensures.same.1 (sym own ∙ same ∙ other));
    }
