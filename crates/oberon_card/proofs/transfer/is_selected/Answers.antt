use Rattle.std.proofs.Common.{refl}
use Rattle.oberon_card.specs.Transfer.{is_selected}
use Rattle.oberon_card.proofs.transfer.is_selected.Goals as goal

pub returns : goal.returns
unfolding is_selected
returns c = refl
