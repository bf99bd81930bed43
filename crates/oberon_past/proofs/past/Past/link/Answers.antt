use Rattle.std.proofs.Common.{◌≡◌, ◌-◌, ◌∙◌, ℕ, Option, None, ap, arith, refl, subst, sym}
use Rattle.risc_model.proofs.RunLemmas.{run_of-none}
use Rattle.risc_model.specs.MachineState.{State}
use Rattle.risc_model.specs.Replay.{run_of}
use Rattle.oberon_past.specs.Links.{IsLinkBy}
use Rattle.oberon_past.specs.Origins.{value_of}
use Rattle.oberon_past.specs.Run.{Run, state_at}
use Rattle.oberon_past.specs.declared.link.Link.{Link}
use Rattle.oberon_past.specs.declared.write.Write.{Write}
use Rattle.oberon_past.proofs.past.Past.link.Goals as goal

-- the state at the first count is the first state
at-start : (run : Run) (n : ℕ) → n ≡ run.start → state_at run n ≡ run.first
at-start run n is = run_of-none run.inputs run.start (n - run.start) run.first (omega (arith, is))

pub returns-in_default : goal.returns-in_default
returns-in_default c =
    let run = c.args.self.now.run in
    let part = c.args.part in
    let value = c.in_ok-value.ensures ∙ ap (λ (s : State). value_of part s) (at-start run c.extent-first.result.first c.extent-first.ensures.first) in
    let link : Link = record { value = c.in_ok-value.field-0; write = None; computation = None } in
    subst (λ (write : Option Write). IsLinkBy run part write link) (sym c.in_default.is)
    (record { write_is = refl; value_is = value; computed = refl })
