use Rattle.oberon_format.proofs.Common.{arith, IsEncoding, List, subst, sym, ℕ, ◌∙◌}
use Rattle.oberon_format.proofs.Encoded.{encoded}
use Rattle.oberon_format.proofs.WriteLemmas.{parts_joined}
use Rattle.oberon_format.proofs.writing.written_in.Goals as goal

pub returns : goal.returns
returns c =
    let v = c.args.version in let r = c.args.r.now in
    let bytes = parts_joined v r c.events.result.now _ _ _ _ _ _ (c.events.ensures.events ∙ c.inputs.ensures.inputs) c.in_ok-out.ensures.items c.in_ok-push_header.ensures
    c.in_ok-push_events.ensures c.in_ok-push_checkpoints.ensures c.in_ok-push_output.ensures (search arith) in
    subst (λ (l : List ℕ). IsEncoding v l r) (sym bytes) (encoded v r c.requires.known c.requires.later c.inputs.ensures.lawful c.requires.plain)
