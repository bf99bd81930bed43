use Rattle.std.proofs.Common.{◌≡◌, ◌++◌, ◌&&◌, ◌||◌, ℕ, true, false, not, nat_eq, List, length, take, Option, Some, ap, sym, subst, ◌∙◌, rules}
use Rattle.std.specs.List.{list_any, prefix_len}
use Rattle.std.specs.Option.{option_to_list}
use Rattle.std.proofs.lemmas.List.{append-nil}
use Rattle.risc_model.specs.declared.call.Call.{Call}
use Rattle.risc_model.specs.declared.call.Turn.{Turn}
use Rattle.risc_model.specs.Turns.{IsStack}
use Rattle.risc_machine.specs.inner.Follows.{ends_by, returns_by}
use Rattle.risc_machine.proofs.FollowerLemmas.{jump-unchanged, jump-opened, jump-turn, still-opened, still-turn}
use Rattle.risc_machine.proofs.call_log.CallLog.note.Goals as goal

pub returns-then-not-changes-clause-calls : goal.returns-then-not-changes-clause-calls
returns-then-not-changes-clause-calls c = λ is s jump.
    let calls : List Call = c.args.self.now.calls.items in
    let limit : ℕ = c.args.self.now.limit in
    let f = c.follow-followed in
    let stay = subst (λ (l : List Call). IsStack limit l → f.result.stay ≡ prefix_len (λ call. not (ends_by limit c.args.jump.now call)) l) c.deref.ensures.value f.ensures.stay is in
    let makes = subst (λ (l : List Call). IsStack limit l → f.result.calls ≡ (c.args.jump.now.links && not (list_any (returns_by c.args.jump.now) l))) c.deref.ensures.value f.ensures.calls is in
    let height : c.len.result ≡ length calls = search rules in
    let same = subst (λ (k : ℕ). (f.result.calls || not (nat_eq f.result.stay k)) ≡ false) height (sym c.changes.ensures ∙ c.if-not-changes.true) in
    sym (still-opened limit c.args.count calls s (jump-unchanged limit c.args.jump.now calls s f.result.stay f.result.calls jump stay makes same))

pub returns-then-not-changes-clause-turns : goal.returns-then-not-changes-clause-turns
returns-then-not-changes-clause-turns c = λ is s jump.
    let calls : List Call = c.args.self.now.calls.items in
    let limit : ℕ = c.args.self.now.limit in
    let f = c.follow-followed in
    let stay = subst (λ (l : List Call). IsStack limit l → f.result.stay ≡ prefix_len (λ call. not (ends_by limit c.args.jump.now call)) l) c.deref.ensures.value f.ensures.stay is in
    let makes = subst (λ (l : List Call). IsStack limit l → f.result.calls ≡ (c.args.jump.now.links && not (list_any (returns_by c.args.jump.now) l))) c.deref.ensures.value f.ensures.calls is in
    let height : c.len.result ≡ length calls = search rules in
    let same = subst (λ (k : ℕ). (f.result.calls || not (nat_eq f.result.stay k)) ≡ false) height (sym c.changes.ensures ∙ c.if-not-changes.true) in
    let none = still-turn limit c.args.count calls s (jump-unchanged limit c.args.jump.now calls s f.result.stay f.result.calls jump stay makes same) in
    sym (ap (λ (o : Option Turn). c.args.self.now.turns.items ++ option_to_list o) none ∙ append-nil c.args.self.now.turns.items)

pub returns-clause-calls : goal.returns-clause-calls
returns-clause-calls c = λ is s jump.
    let calls : List Call = c.args.self.now.calls.items in
    let limit : ℕ = c.args.self.now.limit in
    let f = c.follow-followed in
    let stay = subst (λ (l : List Call). IsStack limit l → f.result.stay ≡ prefix_len (λ call. not (ends_by limit c.args.jump.now call)) l) c.deref.ensures.value f.ensures.stay is in
    let makes = subst (λ (l : List Call). IsStack limit l → f.result.calls ≡ (c.args.jump.now.links && not (list_any (returns_by c.args.jump.now) l))) c.deref.ensures.value f.ensures.calls is in
    c.call-call.ensures.calls
    ∙ ap (λ (l : List Call). l ++ option_to_list c.call-call.result) c.truncate.ensures.items
    ∙ ap (λ (o : Option Call). take f.result.stay calls ++ option_to_list o) c.call-call.ensures.call
    ∙ sym (jump-opened limit c.args.count c.args.jump.now calls s f.result.stay f.result.calls jump stay makes)

pub returns-clause-turns : goal.returns-clause-turns
returns-clause-turns c = λ is s jump.
    let calls : List Call = c.args.self.now.calls.items in
    let turns : List Turn = c.args.self.now.turns.items in
    let limit : ℕ = c.args.self.now.limit in
    let f = c.follow-followed in
    let stay = subst (λ (l : List Call). IsStack limit l → f.result.stay ≡ prefix_len (λ call. not (ends_by limit c.args.jump.now call)) l) c.deref.ensures.value f.ensures.stay is in
    let makes = subst (λ (l : List Call). IsStack limit l → f.result.calls ≡ (c.args.jump.now.links && not (list_any (returns_by c.args.jump.now) l))) c.deref.ensures.value f.ensures.calls is in
    let height : c.len.result ≡ length calls = search rules in
    let changed = subst (λ (k : ℕ). (f.result.calls || not (nat_eq f.result.stay k)) ≡ true) height (sym c.changes.ensures ∙ c.if-not-changes.false) in
    let turn = jump-turn limit c.args.count c.args.jump.now calls s f.result.stay f.result.calls jump stay makes changed in
    c.in-Ok.ensures.items
    ∙ ap (λ (v : _). v.items ++ option_to_list (Some (record { count = c.args.count; stay = f.result.stay; call = c.call-call.result }))) c.call-call.ensures.turns
    ∙ ap (λ (o : Option Call). turns ++ option_to_list (Some (record { count = c.args.count; stay = f.result.stay; call = o }))) c.call-call.ensures.call
    ∙ sym (ap (λ (o : Option Turn). turns ++ option_to_list o) turn)
