use Rattle.std.proofs.Common.{◌≡◌, ◌∙◌, ◌<◌, Some, ap, arith, length, sym}
use Rattle.std.proofs.lemmas.Result.{err_from_is_err_and}
use Rattle.json.specs.Json.{read_key}
use Rattle.json.proofs.Grammar.{read_key-shorter}
use Rattle.oberon_session.specs.inner.Found.{with_session_member}
use Rattle.oberon_session.proofs.Members.{session-put}
use Rattle.oberon_session.proofs.Taking.{found-all, found-more, found-no_key, found-refused, one-shorter}
use Rattle.oberon_session.proofs.shape.SessionMembers.take_all.Goals as goal

pub returns-in_err-name : goal.returns-in_err-name
returns-in_err-name c =
    let from = err_from_is_err_and c.from_residual.result c.from_residual.ensures.1 in
    rw (from.1, from.2) (λ no. (c.in_err-name.ensures.err.0, found-no_key _ _ c.members.invariant.0 _ c.members.invariant.1 c.in_err-name.ensures.err.1))

pub returns-in_err-take : goal.returns-in_err-take
returns-in_err-take c =
    let named : read_key c.members.reader ≡ Some (Some c.in-Some.name.now, c.next_key.new.reader) = grind arith in
    let from = err_from_is_err_and c.from_residual-in_err-take.result c.from_residual-in_err-take.ensures.1 in
    rw (from.1, from.2) (λ no.
    let wrong = c.in_err-take.ensures no in
    (wrong.0, found-refused _ _ c.members.invariant.0 _ c.members.invariant.1 _ _ named wrong.1))

pub members-smaller : goal.members-smaller
members-smaller c =
    let named : read_key c.members.reader ≡ Some (Some c.in-Some.name.now, c.next_key.new.reader) = grind arith in
    let key = read_key-shorter _ _ _ named in
    let one = one-shorter _ _ _ c.in_ok-take.ensures.0 c.in_ok-take.ensures.1 in
    let less : length c.take.new.reader < length c.members.reader = omega (arith, key, one) in
    less

pub members-preserved : goal.members-preserved
members-preserved c =
    let named : read_key c.members.reader ≡ Some (Some c.in-Some.name.now, c.next_key.new.reader) = grind arith in
    let one = c.in_ok-take.ensures in (
      _,
      found-more _ _ c.members.invariant.0 _ c.members.invariant.1 _ _ _ one.0 named one.1,
      one.2 ∙ ap (with_session_member c.in-Some.name.now one.0) c.members.invariant.2 ∙ sym (session-put c.in-Some.name.now one.0 c.members.invariant.0),
    )

pub returns : goal.returns
returns c = (_, found-all _ _ c.members.invariant.0 _ c.members.invariant.1 _ (grind arith), c.members.invariant.2)
