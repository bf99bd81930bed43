use Rattle.std.proofs.Common.{◌<◌, ◌^◌, ◌-◌, ℕ, arith}
use Rattle.galluspa.specs.Raw.{state_of}
use Rattle.galluspa.proofs.ProfileLemmas.{at_most-one, exact, over-most}
use Rattle.galluspa.proofs.profile.profile.Goals as goal

pub returns-clause-profiled : goal.returns-clause-profiled
returns-clause-profiled c =
    let steps : ℕ = c.args.to - c.args.state.now.count in
    let few : steps < 2 ^ 64 = omega (arith, c.ranges.to.fits) in
    record {
      events = c.in_ok-inputs.inputs;
      are_events = c.in_ok-inputs.ensures;
      forward = omega (arith, c.if-to-state.false);
      visits_are = λ p inside. exact _ _ steps (c.in_ok-profile_parts.ensures.visits p inside) (c.numbers_fit.ensures p) (over-most _ c.in_ok-inputs.inputs c.args.state.now.count steps (state_of c.args.state.now c.args.words.now) (λ t. at_most-one _)) few;
      departures_are = λ p inside. exact _ _ steps (c.in_ok-profile_parts.ensures.departures p inside) (c.numbers_fit-2.ensures p) (over-most _ c.in_ok-inputs.inputs c.args.state.now.count steps (state_of c.args.state.now c.args.words.now) (λ t. at_most-one _)) few;
    }
