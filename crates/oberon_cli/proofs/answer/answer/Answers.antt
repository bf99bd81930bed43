use Rattle.std.proofs.Common.{◌≡◌, ◌<◌, ◌≤◌, ◌+◌, ℕ, List, arith, length, subst}
use Rattle.oberon_shards.specs.Combination.{IsShardReportIn}
use Rattle.oberon_cli.specs.Answer.{longest_in}
use Rattle.oberon_cli.proofs.AnswerLemmas.{check_answer, first_bytes, shard_answer}
use Rattle.oberon_cli.proofs.answer.answer.Goals as goal

pub returns-in-Ok : goal.returns-in-Ok
returns-in-Ok g c =
    rw c.reported.ensures.0 (check_answer c.args.request _ _ _ c.args.bytes.now c.in-Ok.report.line.items c.in-Ok.report.status c.reported.result.status c.in-Check.is c.in-Ok.ensures c.reported.ensures.1)

pub returns-in_ok-shard_line_in-in-Shard : goal.returns-in_ok-shard_line_in-in-Shard
returns-in_ok-shard_line_in-in-Shard g c =
    let most : ℕ = longest_in c.in-Shard.versions + 1 in
    let limit : c.limit.result ≡ most = c.limit.ensures in
    let within : c.min.result ≤ most = search arith in
    let whole : c.min.result < most → length c.args.bytes.now ≤ c.min.result = search arith in
    let front = first_bytes c.min.result most c.args.bytes.now within whole in
    let report = c.in_ok-shard_line_in-in-Shard.field-0 in
    rw (c.reported-in-Shard.ensures.0, c.reported-in-Shard.ensures.1) (shard_answer c.args.request c.in-Shard.versions c.in-Shard.index c.in-Shard.of c.args.bytes.now report.line.items report.status c.in-Shard.is
    (subst (λ (bytes : List ℕ). IsShardReportIn c.in-Shard.versions bytes c.in-Shard.index c.in-Shard.of report.line.items report.status) front c.in_ok-shard_line_in-in-Shard.ensures))
