use Rattle.std.proofs.Common.{◌∙◌, ◌≤◌, ℕ, ap, arith}
use Rattle.oberon_session.specs.Extended.{last_count}
use Rattle.oberon_past.specs.Run.{Run, state_at}
use Rattle.oberon_past.proofs.Checks.{answered-of, states-of}
use Rattle.oberon_past.proofs.Drafts.{low-last}
use Rattle.oberon_past.proofs.past.Past.check_from.Goals as goal

pub approach-requires : goal.approach-requires
approach-requires c =
    let low = low-last c.args.recording.now c.count-count.ensures.lawful c.args.from.checkpoint c.requires.progress.inside in
    omega (arith, low, c.requires.progress.on, c.requires.inside)

pub returns-clause-checked : goal.returns-clause-checked
returns-clause-checked c = λ truth.
    let r = c.args.recording.now in
    let n : ℕ = c.args.from.count in
    let low : n ≤ last_count r = omega (arith, low-last r c.count-count.ensures.lawful c.args.from.checkpoint c.requires.progress.inside, c.requires.progress.on) in
    let state = c.in_ok-machine.ensures
    ∙ ap (λ (run : Run). state_at run n) c.approach.ensures.longer.run
    ∙ states-of r c.args.self.now.run c.requires.run n low in
    c.check_on.ensures.checked (record { state = state; truth = truth })

pub returns-clause-answered : goal.returns-clause-answered
returns-clause-answered c = answered-of c.args.recording.now c.args.from c.check_on.result c.check_on.ensures.further
