use Rattle.std.proofs.Common.{arith}
use Rattle.std.proofs.lemmas.Result.{IfErr-weaker, IfOk-weaker}
use Rattle.oberon_session.proofs.Table.{breaks-bytes, fault-json, fault-long, session-bytes}
use Rattle.oberon_session.proofs.reading.read_up_to.Goals as goal

pub returns-then-bytes-gt-LONGEST_SESSION-clause-err : goal.returns-then-bytes-gt-LONGEST_SESSION-clause-err
returns-then-bytes-gt-LONGEST_SESSION-clause-err c = fault-long c.args.newest c.args.bytes.now (omega arith)

pub returns-in-Ok-clause-ok : goal.returns-in-Ok-clause-ok
returns-in-Ok-clause-ok c =
    IfOk-weaker c.session_in.result _ _ (λ session h. session-bytes c.args.newest c.args.bytes.now (omega arith) c.in-Ok.ensures.cases.1 session (rw c.in-Ok.ensures.cases.0 at h)) c.session_in.ensures.ok

pub returns-in-Ok-clause-err : goal.returns-in-Ok-clause-err
returns-in-Ok-clause-err c =
    IfErr-weaker c.session_in.result _ _ (λ fault h. breaks-bytes c.args.newest c.args.bytes.now (omega arith) c.in-Ok.ensures.cases.1 fault (rw c.in-Ok.ensures.cases.0 at h)) c.session_in.ensures.err

pub returns-in-Err-clause-err : goal.returns-in-Err-clause-err
returns-in-Err-clause-err c = fault-json c.args.newest c.args.bytes.now (omega arith) (λ text. absurd (c.in-Err.ensures.cases.0 text))
