use Rattle.std.proofs.Common.{◌≡◌, ◌∙◌, ℕ, ap, arith, length, refl, subst, sym, take}
use Rattle.galluspa.specs.Advance.{HasRun}
use Rattle.galluspa.proofs.WordLemmas.{front-rest}
use Rattle.galluspa.proofs.advance.galluspa_advance.Goals as goal

pub returns-in-Ok-clause-run : goal.returns-in-Ok-clause-run
returns-in-Ok-clause-run c = λ _.
    let same : length c.deref.result.now ≡ c.len.result = search arith in
    subst (HasRun c.args.inputs.now c.args.to c.args.state.now c.args.words.now c.run.new.state c.run.new.words)
    (sym c.deref.ensures.value ∙ sym c.copy_to_front.ensures.front ∙ ap (λ (n : ℕ). take n c.copy_to_front.new.out) same) c.in-Ok.ensures.run

pub returns-in-Err-Room-clause-range : goal.returns-in-Err-Room-clause-range
returns-in-Err-Room-clause-range c = search arith

pub returns-in-Ok-clause-written : goal.returns-in-Ok-clause-written
returns-in-Ok-clause-written c = λ _. c.in-Ok.ensures.written

pub returns-in-Ok-clause-unchanged : goal.returns-in-Ok-clause-unchanged
returns-in-Ok-clause-unchanged c = λ other. absurd (other refl)

pub returns-in-Ok-clause-unsent : goal.returns-in-Ok-clause-unsent
returns-in-Ok-clause-unsent c = λ other. absurd (other refl)

pub returns-in-Ok-clause-in_range : goal.returns-in-Ok-clause-in_range
returns-in-Ok-clause-in_range c = λ _. c.in-Ok.ensures.in_range

pub returns-in-Err-Range-clause-unchanged : goal.returns-in-Err-Range-clause-unchanged
returns-in-Err-Range-clause-unchanged c = λ _. c.in-Err-Range.ensures.unchanged

pub returns-in-Err-Room-clause-unchanged : goal.returns-in-Err-Room-clause-unchanged
returns-in-Err-Room-clause-unchanged c = λ _. c.in-Err-Room.ensures.unchanged

pub returns-in-Err-Memory-clause-unchanged : goal.returns-in-Err-Memory-clause-unchanged
returns-in-Err-Memory-clause-unchanged c = λ _. c.in-Err-Memory.ensures.unchanged

pub returns-in-Err-Range-clause-in_range : goal.returns-in-Err-Range-clause-in_range
returns-in-Err-Range-clause-in_range c = λ other. absurd (other refl)

pub returns-in-Err-Memory-clause-in_range : goal.returns-in-Err-Memory-clause-in_range
returns-in-Err-Memory-clause-in_range c = λ _. rw c.in-Err-Memory.field-0-is at c.in-Err-Memory.ensures.refused

pub copy_to_front-requires : goal.copy_to_front-requires
copy_to_front-requires c = rw c.deref.ensures.value c.in-Ok.ensures.room

pub returns-in-Ok-clause-room : goal.returns-in-Ok-clause-room
returns-in-Ok-clause-room c = λ _. omega (arith, c.len.ensures, c.deref.ensures.len, ap length c.deref.ensures.value, c.in-Ok.ensures.room)

pub returns-in-Ok-clause-rest : goal.returns-in-Ok-clause-rest
returns-in-Ok-clause-rest c =
    rw c.copy_to_front.ensures.all
    (front-rest c.deref.result.now c.args.sent.now c.len.result (c.len.ensures ∙ sym c.deref.ensures.len))

pub returns-in-Err-Range-clause-range : goal.returns-in-Err-Range-clause-range
returns-in-Err-Range-clause-range c = λ _. rw c.in-Err-Range.field-0-is at c.in-Err-Range.ensures.refused

pub returns-in-Err-Room-clause-no_room : goal.returns-in-Err-Room-clause-no_room
returns-in-Err-Room-clause-no_room c = λ _. let refused = rw c.in-Err-Room.field-0-is at c.in-Err-Room.ensures.refused in refused.1

pub returns-in-Err-Room-clause-in_range : goal.returns-in-Err-Room-clause-in_range
returns-in-Err-Room-clause-in_range c = λ _. let refused = rw c.in-Err-Room.field-0-is at c.in-Err-Room.ensures.refused in refused.0

pub returns-in-Ok-clause-range : goal.returns-in-Ok-clause-range
returns-in-Ok-clause-range c = λ is. absurd (omega arith)

pub returns-in-Ok-clause-no_room : goal.returns-in-Ok-clause-no_room
returns-in-Ok-clause-no_room c = λ is. absurd (omega arith)

pub returns-in-Ok-clause-codes : goal.returns-in-Ok-clause-codes
returns-in-Ok-clause-codes c = omega arith
