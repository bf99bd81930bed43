use Rattle.std.proofs.Common.{◌≡◌, ◌∙◌, ◌<◌, List, ℕ, ap, arith, get_or, length, map, subst, sym}
use Rattle.std.specs.Prelude.{IfOk, Ok, Result}
use Rattle.std.specs.declared.alloc.AllocError.{AllocError}
use Rattle.std.proofs.lemmas.List.{get_or-map, length-map}
use Rattle.oberon_check.specs.Work.{DoneRecord}
use Rattle.oberon_check.proofs.check.verdict_of.Goals as goal

abbrev Answer : Type 0
Answer = Result DoneRecord AllocError

abbrev answered : DoneRecord → Answer
answered d = Ok d

-- what is true of each result is true of each share
of_shares : (Q : DoneRecord → Type 0) (ds : List DoneRecord) (rs : List Answer) → map answered ds ≡ rs → ((k : ℕ) (r : Answer) → k < length rs → IfOk (get_or rs k r) Q)
    → (k : ℕ) (d : DoneRecord) → k < length ds → Q (get_or ds k d)
of_shares Q ds rs same each k d lt =
    let long : k < length rs = omega (arith, length-map ds answered, ap length same, lt) in
    subst (λ (r : Answer). IfOk r Q) (ap (λ (rs : List Answer). get_or rs k (answered d)) (sym same) ∙ get_or-map answered ds k d (answered d) lt) (each k (answered d) long)

pub gather-requires-clause-all : goal.gather-requires-clause-all
gather-requires-clause-all c =
    c.in_ok-done.done.ok.0 ∙ sym (length-map c.in_ok-done.done.items answered) ∙ ap length c.in_ok-done.ensures ∙ sym c.args.results.ok.0 ∙ c.requires.len

pub gather-requires-clause-shares : goal.gather-requires-clause-shares
gather-requires-clause-shares c = (c.requires.shares.0, of_shares _ _ _ c.in_ok-done.ensures c.requires.shares.1)
