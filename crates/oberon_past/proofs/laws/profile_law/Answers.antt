use Rattle.std.proofs.Common.{◌&&◌, ◌-◌}
use Rattle.risc_model.specs.Visits.{departures, is_at, jumps, one_if, visits}
use Rattle.oberon_past.proofs.Counting.{adds-both, counts-on}
use Rattle.oberon_past.specs.Run.{state_at}
use Rattle.oberon_past.proofs.laws.profile_law.Goals as goal

pub returns : goal.returns
returns c = λ run from at to old mid new start on more first second. record {
  visits_are = adds-both
      (λ p. visits p run.inputs from (at - from) (state_at run from))
      (λ p. visits p run.inputs at (to - at) (state_at run at))
      (λ p. visits p run.inputs from (to - from) (state_at run from))
      old.visits mid.visits new.visits
      (λ p. counts-on (λ t. one_if (is_at p t)) run from at to start on more) first.visits_are second.visits_are;
  departures_are = adds-both
      (λ p. departures p run.inputs from (at - from) (state_at run from))
      (λ p. departures p run.inputs at (to - at) (state_at run at))
      (λ p. departures p run.inputs from (to - from) (state_at run from))
      old.departures mid.departures new.departures
      (λ p. counts-on (λ t. one_if (is_at p t && jumps t)) run from at to start on more) first.departures_are second.departures_are;
}
