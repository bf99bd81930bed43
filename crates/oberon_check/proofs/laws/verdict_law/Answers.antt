use Rattle.oberon_check.proofs.Existence.{some_verdict}
use Rattle.oberon_check.proofs.Unique.{one_verdict}
use Rattle.oberon_check.proofs.laws.verdict_law.Goals as goal

pub returns : goal.returns
returns c r lawful =
    let v = some_verdict r lawful in
    (v.0, v.1, λ other is. one_verdict r other v.0 is v.1)
