-- Parts of a session that break no rule are lawful, and lawful parts break none.
use Rattle.std.proofs.Common.{◌<◌, ℕ, List, arith, refl}
use Rattle.std.specs.List.Sorted.{IsStrictlyIncreasing}
use Rattle.risc_devices.specs.declared.disk.TheConstants.{UNANSWERED}
use Rattle.risc_model.specs.declared.cpu.Cpu.{Cpu}
use Rattle.risc_model.specs.declared.event.Event.{Event}
use Rattle.risc_model.specs.InputOrder.{AreOrdered}
use Rattle.oberon_session.proofs.Lawful.{whole-pages}
use Rattle.oberon_session.proofs.Mapped.{mapped-fit, mapped-rises}
use Rattle.oberon_session.specs.Digits.{PlacedWords}
use Rattle.oberon_session.specs.Parts.{AreInOrder, AreInRange, BreaksParts, placed_view, session_of_parts}
use Rattle.oberon_session.specs.SessionParts.{IsLawful, SessionParts}
use Rattle.oberon_session.specs.inner.Tested.{PartsFit, RisesBy}
use Rattle.oberon_session.specs.declared.digits.PlacedPage.{PlacedPage}
use Rattle.oberon_session.specs.declared.fault.SessionFault.{SessionFault}
use Rattle.oberon_session.specs.declared.fault.SessionFault.TheVariants.{Json, Shape, Range, Order, Hex, Memory}

module _ (cpu : Cpu) (rate phase : ℕ) (pages : List PlacedPage) (inputs : List Event) (counts : List ℕ) where
  abbrev s : SessionParts
  s = session_of_parts cpu rate phase UNANSWERED pages inputs counts

  pub in-range : PartsFit cpu rate phase pages inputs counts → AreInRange s
  in-range fit =
      let placed = (mapped-fit 1024 (λ (page : PlacedWords). page.at < 1024) placed_view pages).0 fit.2 in
      record {
        counter = fit.0.0;
        running = fit.0.1;
        timer = fit.1;
        few = placed.0;
        slots = placed.1;
        events = fit.3;
        unanswered = fit.4;
        counts = fit.5;
      }

  pub range-fits : AreInRange s → PartsFit cpu rate phase pages inputs counts
  range-fits range =
      let placed = (mapped-fit 1024 (λ (page : PlacedWords). page.at < 1024) placed_view pages).1 (range.few, range.slots) in
      ((range.counter, range.running), range.timer, placed, range.events, range.unanswered, range.counts)

  pub in-order : RisesBy (λ (page : PlacedPage). page.at) pages × IsStrictlyIncreasing counts → AreInOrder s
  in-order rise = record {
    slots = (mapped-rises (λ (page : PlacedWords). page.at) placed_view pages).0 rise.0;
    counts = rise.1;
  }

  pub order-rises : AreInOrder s → RisesBy (λ (page : PlacedPage). page.at) pages × IsStrictlyIncreasing counts
  order-rises order = ((mapped-rises (λ (page : PlacedWords). page.at) placed_view pages).1 order.slots, order.counts)

  pub parts-lawful : AreInRange s → AreInOrder s → AreOrdered inputs → IsLawful s
  parts-lawful range order ordered = record {
    within = record {
      cpu = record {
        count = cpu.count;
        registers = cpu.registers;
        auxiliary = cpu.auxiliary;
        counter = range.counter;
        stops = omega (arith, range.running);
      };
      running = range.running;
      timer = range.timer;
      disk = omega arith;
      few = range.few;
      slots = range.slots;
      rising = order.slots;
      contents = whole-pages pages;
      events = omega (arith, range.events);
      ordered = ordered;
      counts = range.counts;
      rises = order.counts;
    };
    plain = record { begins = refl; unanswered = range.unanswered; few_inputs = range.events };
  }

-- ---- lawful parts break no rule

pub lawful-range : (s : SessionParts) → IsLawful s → AreInRange s
lawful-range s lawful = record {
  counter = lawful.within.cpu.counter;
  running = lawful.within.running;
  timer = lawful.within.timer;
  few = lawful.within.few;
  slots = lawful.within.slots;
  events = lawful.plain.few_inputs;
  unanswered = lawful.plain.unanswered;
  counts = lawful.within.counts;
}

pub lawful-order : (s : SessionParts) → IsLawful s → AreInOrder s
lawful-order s lawful = record { slots = lawful.within.rising; counts = lawful.within.rises }

pub breaks-unlawful : (s : SessionParts) (fault : SessionFault) → BreaksParts s fault → IsLawful s → ⊥
breaks-unlawful s Json broken lawful = broken
breaks-unlawful s Shape broken lawful = broken
breaks-unlawful s Range broken lawful = broken (lawful-range s lawful)
breaks-unlawful s Order broken lawful = broken.1 (lawful-order s lawful)
breaks-unlawful s Hex broken lawful = broken
breaks-unlawful s Memory broken lawful = broken
