use Rattle.oberon_format.proofs.Common.{[], ap, arith, Event, event_rules, event_start, false, fields_in, get_or, has_kind, kind_of, length, List, parts_of, Some, sym, true, ℕ, ◌<◌, ◌∙◌, ◌≡◌}
use Rattle.oberon_format.proofs.LawfulLemmas.{event_met, event_unmet}
use Rattle.oberon_format.proofs.RuleLemmas.{each_broken, each_more}
use Rattle.oberon_format.specs.declared.fault.Fault.TheVariants as fault
use Rattle.oberon_format.proofs.parts.events_fault.Goals as goal

pub returns-then-not-has_kind : goal.returns-then-not-has_kind
returns-then-not-has_kind c =
    let r = parts_of c.args.pool.now c.args.inputs.now [] in
    let i = c.loop-i.i in let e = c.index-events-i.result in
    let here : get_or c.events-events.result.now i e ≡ get_or r.inputs i e = ap (λ (es : List Event). get_or es i e) c.events-events.ensures.events in
    let inside : i < length r.inputs = omega (arith, ap (λ (es : List Event). length es) c.events-events.ensures.events) in
    let own : has_kind c.args.version c.kind.result ≡ false = sym c.has_kind.ensures ∙ c.if-not-has_kind.true in
    let kind : c.kind.result ≡ kind_of (get_or r.inputs i e).input = c.kind.ensures ∙ ap (λ (x : Event). kind_of x.input) here in
    let start : c.event_start.result ≡ event_start (length r.pool) i = c.event_start.ensures ∙ ap (λ (n : ℕ). event_start n i) c.len.ensures.count in
    sym (each_broken (event_rules (fields_in c.args.version r)) i (length r.inputs) (fault.Event c.event_start.result) inside c.loop-i.invariant
    (event_unmet c.args.version r i e inside (ap (has_kind c.args.version) (sym kind) ∙ own) ∙ ap (λ (n : ℕ). Some (fault.Event n)) (sym start)))

pub loop-i-preserved : goal.loop-i-preserved
loop-i-preserved c =
    let r = parts_of c.args.pool.now c.args.inputs.now [] in
    let i = c.loop-i.i in let e = c.index-events-i.result in
    let here : get_or c.events-events.result.now i e ≡ get_or r.inputs i e = ap (λ (es : List Event). get_or es i e) c.events-events.ensures.events in
    let inside : i < length r.inputs = omega (arith, ap (λ (es : List Event). length es) c.events-events.ensures.events) in
    let own : has_kind c.args.version c.kind.result ≡ true = sym c.has_kind.ensures ∙ c.if-not-has_kind.false in
    let kind : c.kind.result ≡ kind_of (get_or r.inputs i e).input = c.kind.ensures ∙ ap (λ (x : Event). kind_of x.input) here in
    each_more (event_rules (fields_in c.args.version r)) i c.loop-i.invariant
    (event_met c.args.version r i e c.events-events.ensures.ordered inside (ap (has_kind c.args.version) (sym kind) ∙ own))
