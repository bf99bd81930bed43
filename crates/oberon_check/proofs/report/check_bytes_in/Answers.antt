use Rattle.std.proofs.lemmas.Result.{IfOk-weaker}
use Rattle.oberon_check.specs.Versions.{TextIn}
use Rattle.oberon_check.proofs.InVersions.{good-answer, verdict-line}
use Rattle.oberon_check.proofs.report.check_bytes_in.Goals as goal

pub returns-in_ok-verdict-in-Ok : goal.returns-in_ok-verdict-in-Ok
returns-in_ok-verdict-in-Ok g c =
    let v = c.args.versions in
    let bytes = c.args.bytes.now in
    let text = good-answer v bytes (TextIn v bytes) c.in-Ok.r c.in-Ok.ensures in
    IfOk-weaker c.answered.result _ _ (λ report is.
    verdict-line v bytes c.in-Ok.r text c.in_ok-verdict-in-Ok.verdict c.in_ok-verdict-in-Ok.ensures report.line.items report.status is.0 is.1) c.answered.ensures
