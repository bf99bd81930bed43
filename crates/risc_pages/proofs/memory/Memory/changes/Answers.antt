use Rattle.std.proofs.Common.{◌≡◌, ℕ, List, ◌++◌, ◌∷◌, [], length, Vec, Global, map, refl, ap, sym, ◌∙◌, arith}
use Rattle.std.proofs.lemmas.List.Elements.{All-nil, All-push, All-same}
use Rattle.std.specs.List.{flat_map}
use Rattle.risc_pages.proofs.DeltaLemmas.{changed_below-zero, slots_more, slots_same, AreDifferences-changed_below}
use Rattle.risc_pages.proofs.SlotLemmas.{page_at-base_of, page_at-content}
use Rattle.risc_pages.specs.Contents.{Contents}
use Rattle.risc_pages.specs.declared.page.Page.{Page}
use Rattle.risc_pages.specs.Delta.{changed_below}
use Rattle.risc_pages.specs.declared.slot.Began.{Began}
use Rattle.risc_pages.specs.declared.slot.Slot.{Slot}
use Rattle.risc_pages.specs.Pages.{page_at}
use Rattle.risc_pages.specs.inner.Slots.{base_of, content}
use Rattle.risc_pages.proofs.memory.Memory.changes.Goals as goal
use Rattle.risc_pages.proofs.memory.Memory.changes.Goals.{in-Some+in_ok-push, in_default}

pub loop-slot-init : goal.loop-slot-init
loop-slot-init c =
    let P : ℕ × Page → Type 0 = λ z. z.1.words ≡ page_at (flat_map content c.self.inside.slots.items) z.0 in
    record {
      slots = ap (λ (cs : List (ℕ × Page)). map (λ (z : ℕ × Page). z.0) cs) c.new-changed.ensures.items ∙ sym (changed_below-zero _ _);
      pages = All-same P _ [] c.new-changed.ensures.items (All-nil P);
    }

pub loop-slot-preserved : goal.loop-slot-preserved
loop-slot-preserved c =
    let slots : List Slot = c.self.inside.slots.items in
    let words : List ℕ = flat_map content slots in
    let bases : List Began = c.self.inside.bases.items in
    let base : List ℕ = flat_map base_of bases in
    let P : ℕ × Page → Type 0 = λ z. z.1.words ≡ page_at words z.0 in
    let n : length slots ≡ 1024 = c.self.invariant.count in
    let m : length bases ≡ 1024 = c.self.invariant.bases_count in
    let own : page_at words c.loop-slot.slot ≡ content c.index-in-loop-slot.result.now =
    page_at-content slots words c.loop-slot.slot c.index-in-loop-slot.result.now refl (omega arith) ∙ ap (λ (p : Slot). content p) (sym c.index-in-loop-slot.ensures) in
    let first : page_at base c.loop-slot.slot ≡ base_of c.index.result.now =
    page_at-base_of bases base c.loop-slot.slot c.index.result.now refl (omega arith) ∙ ap (λ (p : Began). base_of p) (sym c.index.ensures) in
    elim c.match-change.branch [
      | in-Some+in_ok-push w ↦
          let items : c.match-change.changed.items ≡ c.loop-slot.changed.items ++ (c.loop-slot.slot, w.in-Some.page.now) ∷ [] =
          ap (λ (v : Vec (ℕ × Page) Global). v.items) w.changed-is ∙ w.in_ok-push.ensures.items in
          record {
            slots = ap (λ (cs : List (ℕ × Page)). map (λ (z : ℕ × Page). z.0) cs) items
                ∙ slots_more _ base words _ w.in-Some.page.now c.loop-slot.invariant.slots (λ same. w.in-Some.ensures.some.1 (sym own ∙ same ∙ first));
            pages = All-same P _ _ items (All-push P _ _ c.loop-slot.invariant.pages (w.in-Some.ensures.some.0 ∙ sym own));
          }
      | in_default w ↦
          let items : c.match-change.changed.items ≡ c.loop-slot.changed.items = ap (λ (v : Vec (ℕ × Page) Global). v.items) w.changed-is in
          record {
            slots = ap (λ (cs : List (ℕ × Page)). map (λ (z : ℕ × Page). z.0) cs) items
                ∙ slots_same _ base words _ c.loop-slot.invariant.slots (own ∙ w.in_default.ensures.none ∙ sym first);
            pages = All-same P _ _ items c.loop-slot.invariant.pages;
          }
    ]

pub returns-clause-differences : goal.returns-clause-differences
returns-clause-differences c =
    let base : flat_map base_of c.self.inside.bases.items ≡ c.args.self.now.base = ap (λ (m : Contents). m.base) c.self.view_is in
    let words : flat_map content c.self.inside.slots.items ≡ c.args.self.now.words = ap (λ (m : Contents). m.words) c.self.view_is in
    let all : c.loop-slot.slot ≡ 1024 = omega arith in
    AreDifferences-changed_below _ _ _
    (c.loop-slot.invariant.slots
    ∙ ap (λ (n : ℕ). changed_below n (flat_map base_of c.self.inside.bases.items) (flat_map content c.self.inside.slots.items)) all
    ∙ ap (λ (b : List ℕ). changed_below 1024 b (flat_map content c.self.inside.slots.items)) base
    ∙ ap (λ (w : List ℕ). changed_below 1024 c.args.self.now.base w) words)
