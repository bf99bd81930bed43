use Rattle.oberon_past.proofs.running.reach.Goals as goal

pub returns : goal.returns
returns c = rw (c.in_ok-machine_at.ensures.base, c.in_ok-machine_at.ensures.state) at c.closed.ensures
