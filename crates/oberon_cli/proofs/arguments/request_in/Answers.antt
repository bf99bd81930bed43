use Rattle.std.proofs.Common.{◌≡◌, List, Some, IfErr, IfOk}
use Rattle.std.proofs.lemmas.Result.{IfErr-weaker}
use Rattle.clap.specs.Words.{Text}
use Rattle.oberon_cli.specs.Asked.{request_in}
use Rattle.oberon_cli.specs.inner.Requests.{RefusedBy}
use Rattle.oberon_cli.proofs.Literals.{check_refused}
use Rattle.oberon_cli.proofs.Parsed.{no_arguments, some_arguments}
use Rattle.oberon_cli.proofs.arguments.request_in.Goals as goal

pub returns-then-is_empty-clause-ok : goal.returns-then-is_empty-clause-ok
returns-then-is_empty-clause-ok c =
    no_arguments (λ texts. IfOk c.parsed.result (λ request. request_in texts ≡ Some request)) c.args.arguments.now (λ argument. argument.now) c.if-is_empty.ensures
    c.parsed.ensures.ok

pub returns-then-is_empty-clause-err : goal.returns-then-is_empty-clause-err
returns-then-is_empty-clause-err c =
    no_arguments (λ texts. IfErr c.parsed.result (RefusedBy texts)) c.args.arguments.now (λ argument. argument.now) c.if-is_empty.ensures
    (IfErr-weaker c.parsed.result _ _ check_refused c.parsed.ensures.err)

pub parsed-requires-2 : goal.parsed-requires-2
parsed-requires-2 c = some_arguments _ c.if-is_empty.ensures
