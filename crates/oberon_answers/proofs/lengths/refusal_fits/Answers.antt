use Rattle.std.proofs.Common.{◌≡◌, ◌<◌, arith, length, subst, sym}
use Rattle.std.specs.Prelude.{codes}
use Rattle.oberon_format.specs.Line.{fault_line}
use Rattle.oberon_format.specs.declared.fault.Fault.{Fault}
use Rattle.oberon_answers.proofs.LineLemmas.{refused_short}
use Rattle.oberon_answers.proofs.lengths.refusal_fits.Goals as goal

short : {fault found : Fault} → fault ≡ found → length (fault_line found) < 256 → length (fault_line fault) < 256
short is fits = subst (λ (fault : Fault). length (fault_line fault) < 256) (sym is) fits

pub returns-in-Short : goal.returns-in-Short
returns-in-Short c = short c.in-Short.is (refused_short 1 _ (codes "short") (omega arith) c.digits_fit.ensures (omega arith))

pub returns-in-Magic : goal.returns-in-Magic
returns-in-Magic c = short c.in-Magic.is (refused_short 2 _ (codes "magic") (omega arith) c.digits_fit-in-Magic.ensures (omega arith))

pub returns-in-Version : goal.returns-in-Version
returns-in-Version c = short c.in-Version.is (refused_short 3 _ (codes "version") (omega arith) c.digits_fit-in-Version.ensures (omega arith))

pub returns-in-Limit : goal.returns-in-Limit
returns-in-Limit c = short c.in-Limit.is (refused_short 4 _ (codes "limit") (omega arith) c.digits_fit-in-Limit.ensures (omega arith))

pub returns-in-Event : goal.returns-in-Event
returns-in-Event c = short c.in-Event.is (refused_short 5 _ (codes "event") (omega arith) c.digits_fit-in-Event.ensures (omega arith))

pub returns-in-Checkpoint : goal.returns-in-Checkpoint
returns-in-Checkpoint c = short c.in-Checkpoint.is (refused_short 6 _ (codes "checkpoint") (omega arith) c.digits_fit-in-Checkpoint.ensures (omega arith))

pub returns-in-Page : goal.returns-in-Page
returns-in-Page c = short c.in-Page.is (refused_short 7 _ (codes "page") (omega arith) c.digits_fit-in-Page.ensures (omega arith))

pub returns-in-Trailing : goal.returns-in-Trailing
returns-in-Trailing c = short c.in-Trailing.is (refused_short 8 _ (codes "trailing") (omega arith) c.digits_fit-in-Trailing.ensures (omega arith))
