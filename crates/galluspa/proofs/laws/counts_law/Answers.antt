use Rattle.std.proofs.Common.{◌==◌, ◌&&◌}
use Rattle.std.specs.List.{list_any}
use Rattle.risc_model.specs.Inclusive.{goes_between, goes_into, one_if_made}
use Rattle.risc_model.specs.Calls.{made}
use Rattle.risc_model.specs.Visits.{is_at, jumps, one_if}
use Rattle.risc_model.proofs.CallLemmas.{with_calls-on}
use Rattle.risc_model.proofs.VisitLemmas.{over-on}
use Rattle.galluspa.proofs.laws.counts_law.Goals as goal

pub returns : goal.returns
returns c = record {
  visits_add = λ p. over-on (λ t. one_if (is_at p t));
  departures_add = λ p. over-on (λ t. one_if (is_at p t && jumps t));
  inclusive_add = λ group g. with_calls-on (λ m t calls. one_if (t.cpu.stop == 0 && list_any (goes_into group g) calls));
  inclusive_between_add = λ group g h. with_calls-on (λ m t calls. one_if (t.cpu.stop == 0 && list_any (goes_between group g h) calls));
  calls_between_add = λ group g h. with_calls-on (λ m t calls. one_if_made (goes_between group g h) (made m t calls));
}
