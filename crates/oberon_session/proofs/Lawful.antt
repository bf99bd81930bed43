-- The parts of a tested draft make a lawful session.
use Rattle.std.proofs.Common.{◌≡◌, ◌<◌, ◌≤◌, ◌==◌, ◌∙◌, ℕ, Bool, true, false, List, [], ◌∷◌, Option, Some, None, arith, ap, get_or, length, map, refl, sym, subst}
use Rattle.std.proofs.lemmas.List.{length-map}
use Rattle.std.proofs.lemmas.List.Elements.{All-map}
use Rattle.std.specs.List.{All}
use Rattle.std.specs.Prelude.{Result, Ok, Err}
use Rattle.hex.specs.Hex.{decode_of}
use Rattle.risc_core.specs.declared.branch.TheConstants.{COUNTER_END}
use Rattle.risc_pages.specs.Pages.{IsPage}
use Rattle.risc_model.specs.declared.cpu.Cpu.{Cpu}
use Rattle.risc_model.specs.declared.event.Event.{Event}
use Rattle.risc_model.specs.InputOrder.{AreOrdered}
use Rattle.risc_model.specs.MachineState.{CpuState, cpu_state}
use Rattle.oberon_session.proofs.Mapped.{unmapped}
use Rattle.oberon_session.specs.Digits.{PlacedWords, all_placed_of, placed_of, words_of_bytes}
use Rattle.oberon_session.specs.Parts.{placed_view, session_of_parts}
use Rattle.oberon_session.specs.Draft.{Draft, InputNumbers, PageText}
use Rattle.oberon_session.specs.Ranges.{max_inputs, slots_of}
use Rattle.oberon_session.specs.Session.{cpu_of, numbers_of_event}
use Rattle.oberon_session.specs.SessionParts.{IsLawfulWithDisk, slots_in}
use Rattle.oberon_session.specs.Shape.{each}
use Rattle.oberon_session.specs.inner.Tested.{InOrder, InRange}
use Rattle.oberon_session.specs.declared.digits.PlacedPage.{PlacedPage}
use Rattle.recording_limits.specs.declared.limits.TheConstants.{MAX_EVENTS_WITH_DISK}

module _ {A X B : Type 0} (read : A → Option X) (from : A → B) (to : X → B) (along : (x : A) (y : X) → read x ≡ Some y → to y ≡ from x) where
  pub each-along : (xs : List A) (ys : List X) → each read xs ≡ Some ys → map to ys ≡ map from xs
  each-along [] ys all =
      let none : [] ≡ ys = cc in
      rw (← none) refl
  each-along (x ∷ xs) ys all = go (read x) (each read xs) (λ zs rest. each-along xs zs rest) refl refl all
    where
      go : (first : Option X) (others : Option (List X)) → ((zs : List X) → each read xs ≡ Some zs → map to zs ≡ map from xs) → read x ≡ first → each read xs ≡ others → each read (x ∷ xs) ≡ Some ys → map to ys ≡ map from (x ∷ xs)
      go None others more at rest all =
          let bad : None ≡ Some ys = rw at at all in
          cc
      go (Some z) None more at rest all =
          let bad : None ≡ Some ys = rw (at, rest) at all in
          cc
      go (Some z) (Some zs) more at rest all =
          let is : Some (z ∷ zs) ≡ Some ys = rw (at, rest) at all in
          let same : z ∷ zs ≡ ys = cc in
          let head = along x z at in
          let tail = more zs rest in
          rw (← same, head, tail) refl

placed-at : (page : PageText) (placed : PlacedWords) → placed_of page ≡ Some placed → placed.at ≡ page.at
placed-at page placed is = go (decode_of page.hex) refl is
  where
    go : (bytes : Result (List ℕ) _) → decode_of page.hex ≡ bytes → placed_of page ≡ Some placed → placed.at ≡ page.at
    go (Ok bytes) decoded is =
        let same : Some (record { at = page.at; words = words_of_bytes bytes }) ≡ Some placed = rw decoded at is in
        let inner : record { at = page.at; words = words_of_bytes bytes } ≡ placed = cc in
        sym (ap (λ (p : PlacedWords). p.at) inner)
    go (Err e) decoded is =
        let bad : None ≡ Some placed = rw decoded at is in
        cc

pub placed-slots : (pages : List PageText) (placed : List PlacedWords) → all_placed_of pages ≡ Some placed → slots_in placed ≡ slots_of pages
placed-slots pages placed is = each-along placed_of (λ (page : PageText). page.at) (λ (p : PlacedWords). p.at) placed-at pages placed is

pub whole-pages : (pages : List PlacedPage) → All (λ (p : PlacedWords). IsPage p.words) (map placed_view pages)
whole-pages pages = All-map (λ (p : PlacedWords). IsPage p.words) placed_view pages
    (λ k d lt. record { whole = (get_or pages k d).page.whole; fit = (get_or pages k d).page.fit })

-- a session has not too many inputs for one with a disk
pub few-inputs : (version : ℕ) → max_inputs version ≤ MAX_EVENTS_WITH_DISK
few-inputs version = go (version == 3) refl
  where
    go : (third : Bool) → (version == 3) ≡ third → max_inputs version ≤ MAX_EVENTS_WITH_DISK
    go true is = rw is (omega arith)
    go false is = rw is (omega arith)

module _ (draft : Draft) (cpu : Cpu) (rate phase disk : ℕ) (pages : List PlacedPage) (inputs : List Event) (counts : List ℕ) where
  pub is-lawful : InRange draft → InOrder draft → AreOrdered inputs → map numbers_of_event inputs ≡ draft.inputs → cpu_state cpu ≡ cpu_of draft.start → rate ≡ draft.start.rate → phase ≡ draft.start.phase
      → disk ≡ draft.start.disk → all_placed_of draft.pages ≡ Some (map placed_view pages) → counts ≡ draft.checkpoints → IsLawfulWithDisk (session_of_parts cpu rate phase disk pages inputs counts)
  is-lawful range order ordered numbers cpu-is rate-is phase-is disk-is pages-are counts-are =
      let many = sym (length-map inputs numbers_of_event) ∙ ap (λ (l : List InputNumbers). length l) numbers in
      let slots = placed-slots draft.pages (map placed_view pages) pages-are in
      let all-low : All (λ p. p < 1024) (slots_of draft.pages) = All-map (λ p. p < 1024) (λ (page : PageText). page.at) draft.pages (λ k d lt. (range.pages.1 k d lt).0) in
      let low : All (λ p. p < 1024) (slots_in (map placed_view pages)) = rw slots all-low in
      let as-many : length (map placed_view pages) ≡ length draft.pages =
      sym (length-map (map placed_view pages) (λ (p : PlacedWords). p.at)) ∙ ap length slots ∙ length-map draft.pages (λ (page : PageText). page.at) in
      record {
        cpu = record {
          count = cpu.count;
          registers = cpu.registers;
          auxiliary = cpu.auxiliary;
          counter = subst (λ (s : CpuState). s.pc < COUNTER_END) (sym cpu-is) range.start.2;
          stops = subst (λ (s : CpuState). s.stop ≤ 4) (sym cpu-is) (omega arith);
        };
        timer = rw (rate-is, phase-is) range.start.4;
        running = ap (λ (s : CpuState). s.stop) cpu-is;
        disk = rw disk-is range.start.5;
        few = omega (arith, range.pages.0, as-many);
        slots = unmapped (λ (p : PlacedWords). p.at) (λ p. p < 1024) (map placed_view pages) low;
        rising = rw slots order.pages;
        contents = whole-pages pages;
        events = omega (arith, range.inputs.0, few-inputs draft.version, many);
        ordered = ordered;
        counts = rw counts-are range.checkpoints;
        rises = rw counts-are order.checkpoints;
      }
