use Rattle.std.proofs.Common.{refl}
use Rattle.oberon_cli.specs.Reply.{answer, help}
use Rattle.oberon_cli.proofs.service.reply.Goals as goal

pub returns-in_ok-answer-in-Ok-clause-ok : goal.returns-in_ok-answer-in-Ok-clause-ok
returns-in_ok-answer-in-Ok-clause-ok g c = (
  answer c.in-Ok.request c.in_ok-bytes-in-Ok.bytes.items c.in_ok-answer-in-Ok.field-0.bytes.items c.in_ok-answer-in-Ok.field-0.status,
  (
    c.in-Ok.ensures.ok,
    rw (← c.limit.ensures) c.in_ok-bytes-in-Ok.ensures.read,
    rw (← c.deref.ensures.value) c.in_ok-answer-in-Ok.ensures,
  ),
  refl,
  refl,
)

pub returns-in_ok-to_string-in-Err-Help-clause-ok : goal.returns-in_ok-to_string-in-Err-Help-clause-ok
returns-in_ok-to_string-in-Err-Help-clause-ok g c = (help c.into_bytes.result.items, (rw c.in-Err-Help.field-0-is at c.in-Err-Help.ensures.err, refl), refl, refl)
