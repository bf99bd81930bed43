use Rattle.std.proofs.Common.{◌≡◌, ◌∙◌, ◌⊎◌, ◌<◌, ◌≤◌, ℕ, List, ap, arith, inl, inr, length, refl}
use Rattle.risc_machine.specs.declared.call_log.CallLog.{CallLog}
use Rattle.risc_model.specs.declared.call.Turn.{Turn}
use Rattle.oberon_past.proofs.CallsFollowed.{calls-none, calls-up_to}
use Rattle.oberon_past.specs.Past.{PastParts}
use Rattle.oberon_past.specs.Run.{Run, state_at}
use Rattle.oberon_past.proofs.past.Past.calls.Goals as goal

pub returns-then-from-to-clause-called : goal.returns-then-from-to-clause-called
returns-then-from-to-clause-called c =
    (c.in_default.ensures.none, calls-none c.args.self.now.run c.args.from c.args.log c.requires.are_open c.args.to (omega (arith, c.if-from-to.true)) c.requires.fresh)

pub returns-then-not-branch-clause-called : goal.returns-then-not-branch-clause-called
returns-then-not-branch-clause-called c =
    let range = c.in_default.ensures.none in
    let none = ap (λ (l : List Turn). length l) c.requires.fresh in (
      range,
      calls-none c.args.self.now.run c.args.from c.args.log c.requires.are_open c.args.from refl c.requires.fresh,
      omega (arith, range.1, c.if-from-to.false),
      omega (arith, none, c.requires.room.turns),
      c.requires.room.calls,
    )

pub returns-then-is_part-clause-called : goal.returns-then-is_part-clause-called
returns-then-is_part-clause-called c =
    let range = c.in_default.ensures.none in
    let run : Run = c.args.self.now.run in
    let from : ℕ = c.args.from in
    let left : CallLog = c.follow_calls.new.log in
    let next : ℕ = c.in-Ok.next in
    let same : c.approach.new.self.run ≡ run = c.approach.ensures.longer.run in
    let state = c.in_ok-machine.ensures ∙ ap (λ (r : Run). state_at r from) same in
    let inputs = ap (λ (p : PastParts). p.run.inputs) c.self.view_is ∙ ap (λ (r : Run). r.inputs) same in
    let part = c.is_part.ensures.part c.if-is_part.true in (
      range,
      calls-up_to run from c.args.log c.requires.are_open c.search_end-end.result left next _ _ state inputs c.in-Ok.ensures.followed next (omega arith) (λ less. absurd (omega (arith, less))),
      part.0,
      part.1,
      part.2,
    )

pub returns-clause-called : goal.returns-clause-called
returns-clause-called c =
    let range = c.in_default.ensures.none in
    let run : Run = c.args.self.now.run in
    let from : ℕ = c.args.from in
    let left : CallLog = c.follow_calls.new.log in
    let next : ℕ = c.in-Ok.next in
    let same : c.approach.new.self.run ≡ run = c.approach.ensures.longer.run in
    let state = c.in_ok-machine.ensures ∙ ap (λ (r : Run). state_at r from) same in
    let inputs = ap (λ (p : PastParts). p.run.inputs) c.self.view_is ∙ ap (λ (r : Run). r.inputs) same in
    let inside : next ≤ c.args.to = omega (arith, c.in-Ok.ensures.followed.inside.1, c.search_end-end.ensures.1) in
    let within = c.in-Ok.ensures.within in
    let full : next < c.args.to → (length left.turns.items ≡ c.args.log.room) ⊎ (length left.calls.items ≡ c.args.log.height) =
    λ less. elim (c.is_part.ensures.full c.if-is_part.false less) [
      | inl turns ↦ inl (omega (arith, turns, within.1))
      | inr calls ↦ inr (omega (arith, calls, within.0))
    ] in (
      range,
      calls-up_to run from c.args.log c.requires.are_open c.search_end-end.result left next _ _ state inputs c.in-Ok.ensures.followed c.args.to inside full,
    )
