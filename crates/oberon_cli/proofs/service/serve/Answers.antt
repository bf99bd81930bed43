use Rattle.oberon_cli.specs.Reply.{IsSent, failure}
use Rattle.oberon_cli.proofs.KnownLemmas.{known_answer}
use Rattle.oberon_cli.proofs.ThreeLemmas.{three}
use Rattle.oberon_cli.proofs.service.serve.Goals as goal

pub returns-in-Ok-clause-replies : goal.returns-in-Ok-clause-replies
returns-in-Ok-clause-replies g c =
    let is = c.in-Ok.ensures.ok in
    let sent : IsSent is.0 (g.W.Sink.known c.args.output.now) (g.W.Sink.known c.send.new.output) c.send.result =
    rw (← is.2, ← is.3, ← c.deref.ensures.value) c.send.ensures in
    (is.0, is.1, sent)

pub returns-in-Ok-clause-answers : goal.returns-in-Ok-clause-answers
returns-in-Ok-clause-answers g c =
    let is = c.in-Ok.ensures.ok in
    let sent : IsSent is.0 (g.W.Sink.known c.args.output.now) (g.W.Sink.known c.send.new.output) c.send.result =
    rw (← is.2, ← is.3, ← c.deref.ensures.value) c.send.ensures in
    known_answer _ (g.R.Source.known c.args.input.now) (g.R.Source.known c.reply.new.input) (g.W.Sink.known c.args.output.now) (g.W.Sink.known c.send.new.output) is.0 _ is.1 sent

pub returns-in-Err-clause-replies : goal.returns-in-Err-clause-replies
returns-in-Err-clause-replies g c = (failure c.in-Err.failure, c.in-Err.ensures.err, c.refuse.ensures)

pub returns-in-Err-clause-answers : goal.returns-in-Err-clause-answers
returns-in-Err-clause-answers g c =
    known_answer _ (g.R.Source.known c.args.input.now) (g.R.Source.known c.reply.new.input) (g.W.Sink.known c.args.output.now) (g.W.Sink.known c.refuse.new.output) (failure c.in-Err.failure) _ c.in-Err.ensures.err c.refuse.ensures

pub returns-in-Ok-clause-three : goal.returns-in-Ok-clause-three
returns-in-Ok-clause-three g c =
    let is = c.in-Ok.ensures.ok in
    let sent : IsSent is.0 (g.W.Sink.known c.args.output.now) (g.W.Sink.known c.send.new.output) c.send.result =
    rw (← is.2, ← is.3, ← c.deref.ensures.value) c.send.ensures in
    three _ (g.R.Source.known c.args.input.now) (g.R.Source.known c.reply.new.input) (g.W.Sink.known c.args.output.now) (g.W.Sink.known c.send.new.output) is.0 _ is.1 sent

pub returns-in-Err-clause-three : goal.returns-in-Err-clause-three
returns-in-Err-clause-three g c =
    three _ (g.R.Source.known c.args.input.now) (g.R.Source.known c.reply.new.input) (g.W.Sink.known c.args.output.now) (g.W.Sink.known c.refuse.new.output) (failure c.in-Err.failure) _ c.in-Err.ensures.err c.refuse.ensures
