use Rattle.std.proofs.Common.{refl}
use Rattle.risc_machine.proofs.FollowerLemmas.{hop-jump}
use Rattle.risc_machine.proofs.hop.Hop.jump.Goals as goal

pub returns : goal.returns
returns c = λ s hops registers words.
    hop-jump c.args.self _ c.args.registers.now c.args.memory.now.words c.word_at-word.result s hops registers words c.word_at-word.ensures refl refl refl c.is_set.ensures
