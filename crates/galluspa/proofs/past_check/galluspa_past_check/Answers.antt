use Rattle.galluspa.proofs.past_check.galluspa_past_check.Goals as goal

pub returns-then-not-write_line-clause-no_room : goal.returns-then-not-write_line-clause-no_room
returns-then-not-write_line-clause-no_room c = λ _ truth. (
  c.in-Ok-Line.answer.bytes.items,
  (c.in-Ok-Line.answer.status, c.in-Ok-Line.ensures.line c.in-Ok-Line.answer c.in-Ok-Line.field-0-is truth),
  c.write_line.ensures.count,
  c.write_line.ensures.no_room c.if-not-write_line.true,
)
