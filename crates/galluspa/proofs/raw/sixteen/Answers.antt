use Rattle.std.proofs.Common.{◌++◌, ◌∙◌, ℕ, List, ap, length}
use Rattle.std.proofs.lemmas.List.{drop-replicate}
use Rattle.galluspa.proofs.raw.sixteen.Goals as goal

pub returns : goal.returns
returns c = c.copy_to_front.ensures.all ∙ ap (λ (rest : List ℕ). c.args.codes.now ++ rest) (drop-replicate (length c.args.codes.now) 16 0)
