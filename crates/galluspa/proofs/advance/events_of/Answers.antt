use Rattle.std.proofs.Common.{◌≡◌, ◌∙◌, ℕ, ap, arith, length, map, take}
use Rattle.std.proofs.Math.Seq.{take-length}
use Rattle.galluspa.specs.Raw.{raw_input}
use Rattle.galluspa.proofs.InputLemmas.{one-more, right}
use Rattle.galluspa.proofs.advance.events_of.Goals as goal

pub loop-input-preserved : goal.loop-input-preserved
loop-input-preserved c =
    ap (map raw_input) c.in_ok-push.ensures.items
    ∙ one-more c.args.inputs.now c.loop-input.events.items c.in-Some.event c.loop-input.input-index (record { count = 0; kind = 0; value = 0 })
    c.loop-input-test.true c.loop-input.invariant c.in-Some.ensures.event

pub returns : goal.returns
returns c =
    let all : c.loop-input.input-index ≡ length c.args.inputs.now = omega (arith, c.loop-input.auto.input-index-end, c.loop-input-test.false) in
    c.loop-input.invariant ∙ ap (λ (n : ℕ). take n c.args.inputs.now) all ∙ take-length c.args.inputs.now

pub unreachable-requires : goal.unreachable-requires
unreachable-requires c =
    let is = right c.args.inputs.now c.requires c.loop-input.input-index c.loop-input-test.true in
    c.in_default.ensures.range (is.is_input (record { count = 0; kind = 0; value = 0 }))
