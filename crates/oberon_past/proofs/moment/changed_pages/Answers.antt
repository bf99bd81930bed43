use Rattle.std.proofs.Common.{◌≡◌, ◌∙◌, ℕ, List, [], ◌∷◌, ◌++◌, Vec, Global, ap, map, refl, sym}
use Rattle.std.proofs.lemmas.Bool.{false≢true}
use Rattle.std.proofs.lemmas.List.Elements.{All-nil, All-push, All-same}
use Rattle.risc_pages.proofs.DeltaLemmas.{changed_below-zero, slots_more, slots_same}
use Rattle.risc_pages.specs.declared.page.Page.{Page}
use Rattle.risc_pages.specs.Pages.{page_at}
use Rattle.oberon_past.proofs.moment.changed_pages.Goals as goal
use Rattle.oberon_past.proofs.moment.changed_pages.Goals.{then-not-are_same+in_ok-push, else-not-are_same}

pub loop-slot-init : goal.loop-slot-init
loop-slot-init c =
    let P : ℕ × Page → Type 0 = λ z. z.1.words ≡ page_at c.args.memory.now.words z.0 in
    record {
      slots = ap (λ (cs : List (ℕ × Page)). map (λ (z : ℕ × Page). z.0) cs) c.new-changed.ensures.items ∙ sym (changed_below-zero _ _);
      pages = All-same P _ [] c.new-changed.ensures.items (All-nil P);
    }

pub loop-slot-preserved : goal.loop-slot-preserved
loop-slot-preserved c =
    let words : List ℕ = c.args.memory.now.words in
    let base : List ℕ = c.args.base.now.words in
    let P : ℕ × Page → Type 0 = λ z. z.1.words ≡ page_at words z.0 in
    elim c.if-not-are_same.branch [
      | then-not-are_same+in_ok-push w ↦
          let items : c.if-not-are_same.changed.items ≡ c.loop-slot.changed.items ++ (c.loop-slot.slot, c.page_at-page.result) ∷ [] =
          ap (λ (v : Vec (ℕ × Page) Global). v.items) w.changed-is ∙ w.in_ok-push.ensures.items in
          record {
            slots = ap (λ (cs : List (ℕ × Page)). map (λ (z : ℕ × Page). z.0) cs) items
                ∙ slots_more _ base words _ c.page_at-page.result c.loop-slot.invariant.slots
                (λ same. absurd (false≢true (w.if-not-are_same.ensures.1 (c.page_at-page.ensures ∙ same ∙ sym c.page_at-earlier.ensures))));
            pages = All-same P _ _ items (All-push P _ _ c.loop-slot.invariant.pages c.page_at-page.ensures);
          }
      | else-not-are_same w ↦
          let items : c.if-not-are_same.changed.items ≡ c.loop-slot.changed.items = ap (λ (v : Vec (ℕ × Page) Global). v.items) w.changed-is in
          record {
            slots = ap (λ (cs : List (ℕ × Page)). map (λ (z : ℕ × Page). z.0) cs) items
                ∙ slots_same _ base words _ c.loop-slot.invariant.slots
                (sym c.page_at-page.ensures ∙ w.if-not-are_same.ensures.0 refl ∙ c.page_at-earlier.ensures);
            pages = All-same P _ _ items c.loop-slot.invariant.pages;
          }
    ]
