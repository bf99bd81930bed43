use Rattle.std.proofs.Common.{◌≡◌, ◌<◌, None, Some, arith, length, refl}
use Rattle.std.proofs.lemmas.Result.{err_from_is_err_and}
use Rattle.json.specs.Json.{after_end_array, read_key}
use Rattle.json.proofs.Grammar.{read_key-shorter}
use Rattle.serde_json.specs.Data.{no_members}
use Rattle.oberon_session.proofs.Taking.{found-all, found-more, found-no_key, found-refused, one-shorter, taken-all, taken-more, taken-refused, takes-array, takes-object, takes-weaker}
use Rattle.oberon_session.proofs.value.+pass.Goals as goal

pub finish-returns-in-Object : goal.finish-returns-in-Object
finish-returns-in-Object t c = rw c.in-Object.is (λ depth ts first.
    takes-weaker _ _ _ _ _ (λ json found h. (h.0, h.1)) (takes-object c.args.reader.now _ _ depth _ ts first.0 _ first.1 c.pass_members.ensures))

pub finish-returns-in-Array : goal.finish-returns-in-Array
finish-returns-in-Array t c = rw c.in-Array.is (λ depth ts first.
    takes-weaker _ _ _ _ _ (λ json found h. (h.0, h.1)) (takes-array c.args.reader.now _ _ depth _ ts first.0 _ first.1 c.pass_items.ensures))

pub pass-returns : goal.pass-returns
pass-returns t c = takes-weaker _ _ _ _ _ (λ json found h. tt) (c.finish.ensures c.args.depth c.args.reader.now c.in_ok-head.ensures.ok)

pub pass_items-items-smaller : goal.pass_items-items-smaller
pass_items-items-smaller t c =
    let going : (after_end_array c.items.reader ≡ None) × (c.take_end_array.new.self ≡ c.items.reader) = grind arith in
    let one = c.in_ok-pass.ensures in
    let less : length c.pass.new.reader < length c.items.reader = rw (← going.1) (one-shorter _ _ _ one.0 one.1) in
    less

pub pass_items-items-preserved : goal.pass_items-items-preserved
pass_items-items-preserved t c =
    let going : (after_end_array c.items.reader ≡ None) × (c.take_end_array.new.self ≡ c.items.reader) = grind arith in
    let one = c.in_ok-pass.ensures in
    (_, taken-more _ _ c.items.invariant.0 _ c.items.invariant.1 _ one.0 going.0 (rw (← going.1) one.1))

pub pass_items-returns-in_err-pass : goal.pass_items-returns-in_err-pass
pass_items-returns-in_err-pass t c =
    let going : (after_end_array c.items.reader ≡ None) × (c.take_end_array.new.self ≡ c.items.reader) = grind arith in
    let from = err_from_is_err_and c.from_residual.result c.from_residual.ensures.1 in
    rw (from.1, from.2) (λ no.
    let wrong = c.in_err-pass.ensures no in
    (wrong.0, taken-refused _ _ c.items.invariant.0 _ c.items.invariant.1 going.0 (rw (← going.1) wrong.1)))

pub pass_items-returns : goal.pass_items-returns
pass_items-returns t c = (_, taken-all _ _ c.items.invariant.0 _ c.items.invariant.1 _ (grind arith), tt)

pub pass_members-members-init : goal.pass_members-members-init
pass_members-members-init t c = (no_members, (refl, omega arith))

pub pass_members-returns-in_err-next_key : goal.pass_members-returns-in_err-next_key
pass_members-returns-in_err-next_key t c =
    let from = err_from_is_err_and c.from_residual.result c.from_residual.ensures.1 in
    rw (from.1, from.2) (λ no. (c.in_err-next_key.ensures.err.0, found-no_key _ _ c.members.invariant.0 _ c.members.invariant.1 c.in_err-next_key.ensures.err.1))

pub pass_members-members-smaller : goal.pass_members-members-smaller
pass_members-members-smaller t c =
    let named : read_key c.members.reader ≡ Some (Some c.in-Some.field-0.now, c.next_key.new.reader) = grind arith in
    let one = c.in_ok-pass.ensures in
    let key = read_key-shorter _ _ _ named in
    let one = one-shorter _ _ _ one.0 one.1 in
    let less : length c.pass.new.reader < length c.members.reader = omega (arith, key, one) in
    less

pub pass_members-members-preserved : goal.pass_members-members-preserved
pass_members-members-preserved t c =
    let named : read_key c.members.reader ≡ Some (Some c.in-Some.field-0.now, c.next_key.new.reader) = grind arith in
    let one = c.in_ok-pass.ensures in
    (_, found-more _ _ c.members.invariant.0 _ c.members.invariant.1 _ _ _ one.0 named one.1)

pub pass_members-returns-in_err-pass : goal.pass_members-returns-in_err-pass
pass_members-returns-in_err-pass t c =
    let named : read_key c.members.reader ≡ Some (Some c.in-Some.field-0.now, c.next_key.new.reader) = grind arith in
    let from = err_from_is_err_and c.from_residual-in_err-pass.result c.from_residual-in_err-pass.ensures.1 in
    rw (from.1, from.2) (λ no.
    let wrong = c.in_err-pass.ensures no in
    (wrong.0, found-refused _ _ c.members.invariant.0 _ c.members.invariant.1 _ _ named wrong.1))

pub pass_members-returns : goal.pass_members-returns
pass_members-returns t c = (_, found-all _ _ c.members.invariant.0 _ c.members.invariant.1 _ (grind arith), tt)
