use Rattle.std.proofs.Common.{◌∙◌, ap, arith, below_more, sym}
use Rattle.galluspa.specs.declared.raw.RawInput.{RawInput}
use Rattle.galluspa.specs.inner.Running.{IsRight}
use Rattle.galluspa.proofs.InputLemmas.{in-order, input-there, raw-count, raw-next, right, untrue}
use Rattle.galluspa.proofs.advance.are_in_order.Goals as goal
use Rattle.galluspa.proofs.advance.are_in_order.Goals.{then-input-least-via-then-input-least, then-input-least-via-else-input-least+then-input-gt-MAX_COUNT}

-- an input that no slice has
abbrev none : RawInput
none = record { count = 0; kind = 0; value = 0 }

pub returns-then-input-least : goal.returns-then-input-least
returns-then-input-least c =
    let inputs = c.args.inputs.now in
    let place = c.loop-input.input-index in
    let here = raw-count inputs place none c.loop-input-test.true in
    elim c.then-input-least.branch [
      | then-input-least-via-then-input-least w ↦ untrue (λ order.
          let is = right inputs order place c.loop-input-test.true in
          omega (arith, is.rises, here, c.loop-input.invariant.least, w.if-input-least.true))
      | then-input-least-via-else-input-least+then-input-gt-MAX_COUNT w ↦ untrue (λ order.
          let is = right inputs order place c.loop-input-test.true in
          omega (arith, is.bounded, here, w.if-input-gt-MAX_COUNT.true))
    ]

pub returns-in_default : goal.returns-in_default
returns-in_default c = untrue (λ order.
    let is = right c.args.inputs.now order c.loop-input.input-index c.loop-input-test.true in
    c.in_default.ensures.range (is.is_input none))

pub loop-input-preserved : goal.loop-input-preserved
loop-input-preserved c =
    let inputs = c.args.inputs.now in
    let place = c.loop-input.input-index in
    let here = raw-count inputs place none c.loop-input-test.true in
    let same = ap (λ (r : RawInput). r.count) c.in-Some.ensures.event in
    let is : IsRight inputs place = record {
      rises = omega (arith, here, c.loop-input.invariant.least, c.if-input-least.false);
      bounded = omega (arith, here, c.if-input-gt-MAX_COUNT.false);
      is_input = input-there inputs place none c.loop-input-test.true c.in-Some.ensures.lawful;
    } in
    record {
      right = below_more (λ k. IsRight inputs k) place c.loop-input.invariant.right is;
      least = same ∙ sym here ∙ sym (raw-next inputs place);
    }

pub returns : goal.returns
returns c =
    let l = c.loop-input in
    (λ _. in-order c.args.inputs.now (λ k lt. l.invariant.right k (omega (arith, l.auto.input-index-end, c.loop-input-test.false, lt))), λ _. search arith)
