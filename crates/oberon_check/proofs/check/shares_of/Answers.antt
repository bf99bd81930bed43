use Rattle.std.proofs.Common.{◌∙◌, ◌++◌, ◌∷◌, [], List, map, sym, ap, append-nil, append_assoc}
use Rattle.std.specs.Prelude.{Ok, Result}
use Rattle.std.specs.declared.alloc.AllocError.{AllocError}
use Rattle.std.proofs.lemmas.List.{map-append, nil_from_length}
use Rattle.oberon_check.specs.Work.{DoneRecord}
use Rattle.oberon_check.proofs.check.shares_of.Goals as goal

abbrev Answer : Type 0
Answer = Result DoneRecord AllocError

abbrev answered : DoneRecord → Answer
answered d = Ok d

pub loop-result-preserved : goal.loop-result-preserved
loop-result-preserved c =
    let i = c.loop-result.invariant in
    let step = c.in-Some.ensures.steps in
    let at = ap (λ (l : List Answer). c.loop-result.yielded ++ l) (sym step.0) ∙ i.rest in record {
      shares = ap (map answered) c.in_ok-push.ensures.items ∙ map-append answered c.loop-result.done.items (c.in_ok-share.share ∷ [])
          ∙ (λ k. i.shares k ++ sym c.in_ok-share.was k ∷ []);
      rest = append_assoc c.loop-result.yielded (c.in-Some.result ∷ []) _ ∙ at;
    }

pub returns : goal.returns
returns c =
    let i = c.loop-result.invariant in
    let none = nil_from_length c.loop-result.result-iterator.rest.items (sym c.loop-result.result-iterator.rest.ok.0 ∙ c.in-None.ensures.steps.0) in
    i.shares ∙ sym (append-nil c.loop-result.yielded) ∙ ap (λ (l : List Answer). c.loop-result.yielded ++ l) (sym none) ∙ i.rest
