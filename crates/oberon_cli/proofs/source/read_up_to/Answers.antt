use Rattle.std.proofs.Common.{◌≤◌, ◌∙◌, ◌-◌, length, arith}
use Rattle.oberon_cli.proofs.TurnLemmas.{fits_limit, lost_within, more_counted, more_taken, more_within}
use Rattle.oberon_cli.proofs.source.read_up_to.Goals as goal

pub returns-in_err-read_turn-clause-most : goal.returns-in_err-read_turn-clause-most
returns-in_err-read_turn-clause-most g c =
    let room_is : c.min-room.result ≤ c.args.limit - length c.loop-turn.bytes.items = search arith in
    lost_within c.args.limit c.min-room.result c.loop-turn.chunk c.loop-turn.bytes.items
    (g.R.Source.known c.args.input.now) (g.R.Source.known c.loop-turn.input) (g.R.Source.known c.read_turn.new.input)
    c.loop-turn.invariant.within room_is c.loop-turn.invariant.taken c.in_err-read_turn.ensures.lost

pub returns-then-branch-clause-read : goal.returns-then-branch-clause-read
returns-then-branch-clause-read g c =
    let got = c.in_ok-read_turn.ensures.gained in
    let room_is : c.min-room.result ≤ c.args.limit - length c.loop-turn.bytes.items = search arith in
    let fits = fits_limit c.args.limit _ c.min-room.result c.loop-turn.chunk got.0 c.loop-turn.invariant.within room_is got.2 in
    record {
      taken = more_taken _ _ _ _ got.0 _ got.1 c.loop-turn.invariant.taken got.4;
      within = more_within c.args.limit _ got.0 _ got.1 fits;
      whole = λ short. c.in_ok-read_turn.ensures.end c.if-branch.true;
      goes = c.in_ok-read_turn.ensures.goes ∙ c.loop-turn.invariant.goes;
    }

pub returns-then-branch-clause-most : goal.returns-then-branch-clause-most
returns-then-branch-clause-most g c =
    let got = c.in_ok-read_turn.ensures.gained in
    let room_is : c.min-room.result ≤ c.args.limit - length c.loop-turn.bytes.items = search arith in
    let fits = fits_limit c.args.limit _ c.min-room.result c.loop-turn.chunk got.0 c.loop-turn.invariant.within room_is got.2 in
    (c.read_turn.new.bytes.items, more_within c.args.limit _ got.0 _ got.1 fits, more_taken _ _ _ _ got.0 _ got.1 c.loop-turn.invariant.taken got.4)

pub loop-turn-preserved : goal.loop-turn-preserved
loop-turn-preserved g c =
    let got = c.in_ok-read_turn.ensures.gained in
    let room_is : c.min-room.result ≤ c.args.limit - length c.loop-turn.bytes.items = search arith in
    let fits = fits_limit c.args.limit _ c.min-room.result c.loop-turn.chunk got.0 c.loop-turn.invariant.within room_is got.2 in
    record {
      within = more_within c.args.limit _ got.0 _ got.1 fits;
      counted = more_counted c.loop-turn._turn _ got.0 _ got.1 c.loop-turn.invariant.counted (got.3 c.if-branch.false);
      taken = more_taken _ _ _ _ got.0 _ got.1 c.loop-turn.invariant.taken got.4;
      goes = c.in_ok-read_turn.ensures.goes ∙ c.loop-turn.invariant.goes;
    }

pub returns-clause-fault : goal.returns-clause-fault
returns-clause-fault g c = absurd (omega (arith, c.loop-turn.invariant.within, c.loop-turn.invariant.counted, c.loop-turn-test.false))

pub returns-then-room-eq0-clause-read : goal.returns-then-room-eq0-clause-read
returns-then-room-eq0-clause-read g c = record {
  taken = c.loop-turn.invariant.taken;
  within = c.loop-turn.invariant.within;
  whole = λ short. absurd (omega (arith, short, c.len.ensures, c.loop-turn.bytes.ok.0, c.min-room.ensures, c.if-room-eq0.true));
  goes = c.loop-turn.invariant.goes;
}
