use Rattle.oberon_format.proofs.Common.{get_or, page_id_offset, word_at, ℕ, ◌<◌, ◌≡◌}
use Rattle.oberon_format.proofs.reading.read_table.Given as goal

abbrev pub invariant-loop-p : goal.invariant-loop-p
invariant-loop-p l = record {
  each : (k d : ℕ) → k < l.p → get_or l.table.numbers k d ≡ word_at l.bytes (page_id_offset l.offset k);
}
