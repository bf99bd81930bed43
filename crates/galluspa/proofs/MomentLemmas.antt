-- The state at a count of a past, as it is written to a caller.
use Rattle.std.proofs.Common.{◌≡◌, ◌∙◌, ◌≤◌, ◌<◌, ℕ, Bool, List, [], ◌∷◌, Err, IfErr, Ok, OnErr, OnOk, Option, Result, ap, length, map, refl, subst, sym, take}
use Rattle.std.proofs.lemmas.List.{length-map, map-id}
use Rattle.std.proofs.lemmas.List.FromFn.{length-range_with_len}
use Rattle.std.proofs.lemmas.List.Sums.{count_by-le-length, length-filter}
use Rattle.std.specs.List.{count_by, range_with_len}
use Rattle.risc_pages.specs.declared.page.Page.{Page}
use Rattle.risc_pages.specs.Delta.{changed_below, differs_at}
use Rattle.risc_pages.specs.Pages.{page_at}
use Rattle.oberon_past.specs.declared.answer.Answer.{Answer}
use Rattle.oberon_past.specs.declared.answer.Answer.TheVariants as answer
use Rattle.oberon_past.specs.declared.moment.Moment.{Moment}
use Rattle.oberon_past.specs.Past.{IsAnswer, IsInside, IsMoment, IsNearAnswer, PastParts, nearest_count}
use Rattle.oberon_past.specs.Run.{Run, state_at, words_at}
use Rattle.oberon_session.specs.Stored.{changed_page_view}
use Rattle.galluspa.specs.declared.claims.RawPage.{RawPage}
use Rattle.galluspa.specs.declared.moments.Unseen.{Unseen}
use Rattle.galluspa.specs.declared.raw.RawState.{RawState}
use Rattle.galluspa.specs.Past.{HasMoment, changed_slots}
use Rattle.galluspa.specs.inner.Moments.{IsUnseen, IsWrittenState, raw_page}

map-map : {A B C : Type 0} (g : B → C) (f : A → B) (xs : List A) → map g (map f xs) ≡ map (λ x. g (f x)) xs
map-map g f [] = refl
map-map g f (x ∷ xs) = ap (λ ys. g (f x) ∷ ys) (map-map g f xs)

-- at most all pages differ
changed-most : (n : ℕ) (base words : List ℕ) → length (changed_below n base words) ≤ n
unfolding changed_below
changed-most n base words =
    let all : List ℕ = range_with_len 0 n in
    let differ : ℕ → Bool = differs_at base words in
    subst (λ (k : ℕ). k ≤ n) (sym (length-filter differ all)) (subst (λ (k : ℕ). count_by differ all ≤ k) (length-range_with_len 0 n) (count_by-le-length differ all))

-- the number of pages of a moment
pub moment-pages : (run : Run) (n : ℕ) (from : Option ℕ) (m : Moment) → IsMoment run n from m → length m.changed.items ≡ length (changed_slots run n from)
moment-pages run n from m is =
    sym (length-map m.changed.items changed_page_view)
    ∙ ap (λ (l : List (ℕ × List ℕ)). length l) is.changed
    ∙ length-map (changed_slots run n from) (λ (slot : ℕ). (slot, page_at (state_at run n).words slot))

pub moment-few : (run : Run) (n : ℕ) (from : Option ℕ) (m : Moment) → IsMoment run n from m → length m.changed.items ≤ 1024
moment-few run n from m is = subst (λ (k : ℕ). k ≤ 1024) (sym (moment-pages run n from m is)) (changed-most 1024 (words_at run from) (state_at run n).words)

-- a moment that is written is the state at its count, and has the pages that differ
pub moment-written : (run : Run) (n : ℕ) (from : Option ℕ) (m : Moment) (state : RawState) (slots : List ℕ) (pages : List RawPage) (count : ℕ)
    → IsMoment run n from m → IsWrittenState m state → take count slots ≡ map (λ (c : ℕ × Page). c.0) m.changed.items → take count pages ≡ map raw_page m.changed.items
    → HasMoment run n from state slots pages count
moment-written run n from m state slots pages count is written slots_are pages_are =
    let items : List (ℕ × Page) = m.changed.items in
    let words : List ℕ = (state_at run n).words in
    let L : List ℕ = changed_slots run n from in
    let view : ℕ → ℕ × List ℕ = λ (slot : ℕ). (slot, page_at words slot) in
    let cpu = written.cpu_is ∙ is.cpu in
    let devices = written.devices_are ∙ is.devices in
    record {
      count_is = written.count_is ∙ is.count;
      state_is = λ i. record { cpu = cpu i; devices = devices i; words = words };
      range = written.range;
      slots_are = slots_are
          ∙ sym (map-map (λ (c : ℕ × List ℕ). c.0) changed_page_view items)
          ∙ ap (λ (l : List (ℕ × List ℕ)). map (λ (c : ℕ × List ℕ). c.0) l) is.changed
          ∙ map-map (λ (c : ℕ × List ℕ). c.0) view L
          ∙ map-id L;
      pages_are = ap (λ (l : List RawPage). map (λ (page : RawPage). page.words) l) pages_are
          ∙ map-map (λ (page : RawPage). page.words) raw_page items
          ∙ sym (map-map (λ (c : ℕ × List ℕ). c.1) changed_page_view items)
          ∙ ap (λ (l : List (ℕ × List ℕ)). map (λ (c : ℕ × List ℕ). c.1) l) is.changed
          ∙ map-map (λ (c : ℕ × List ℕ). c.1) view L;
    }

-- ---- answers

pub at-done : (run : Run) (end n : ℕ) (asked from : Option ℕ) (found : Answer) (m : Moment) → IsAnswer run end n asked found → found ≡ answer.Done m → asked ≡ from
    → IsInside run end n from × IsMoment run n from m
at-done run end n asked from found m is done same = subst (λ (a : Answer). IsAnswer run end n from a) done (subst (λ (f : Option ℕ). IsAnswer run end n f found) same is)

pub near-done : (p : PastParts) (n : ℕ) (asked from : Option ℕ) (found : Answer) (m : Moment) → IsNearAnswer p n asked found → found ≡ answer.Done m → asked ≡ from
    → IsInside p.run p.end n from × IsMoment p.run (nearest_count p n) from m
near-done p n asked from found m is done same = subst (λ (a : Answer). IsNearAnswer p n from a) done (subst (λ (f : Option ℕ). IsNearAnswer p n f found) same is)

-- a moment that is written
pub ok-written : {A : Type 0} (result : Result A Unseen) (run : Run) (n : ℕ) (from : Option ℕ) (m : Moment) (state : RawState) (slots : List ℕ) (pages : List RawPage) (count : ℕ)
    → IsMoment run n from m → OnOk result (IsWrittenState m state) → OnOk result (take count slots ≡ map (λ (c : ℕ × Page). c.0) m.changed.items)
    → OnOk result (take count pages ≡ map raw_page m.changed.items) → OnOk result (HasMoment run n from state slots pages count)
ok-written (Ok a) run n from m state slots pages count is written slots_are pages_are = moment-written run n from m state slots pages count is written slots_are pages_are
ok-written (Err e) run n from m state slots pages count is written slots_are pages_are = tt

-- one for which there is too little room
pub err-room : {A : Type 0} (result : Result A Unseen) (p : PastParts) (n there : ℕ) (from : Option ℕ) (m : Moment) (budget room count : ℕ)
    → 0 < budget → IsInside p.run p.end n from → IsMoment p.run there from m → count ≡ length m.changed.items
    → IfErr result (λ refusal. refusal ≡ Unseen.Room) → OnErr result (room < count) → IfErr result (IsUnseen p n there from budget room count)
err-room (Ok a) p n there from m budget room count some inside is needed refusal short = tt
err-room (Err e) p n there from m budget room count some inside is needed refusal short =
    subst (IsUnseen p n there from budget room count) (sym refusal) (some, inside, record { needed_is = needed ∙ moment-pages p.run there from m is; short = short })
