-- A run in which no step is done.
use Rattle.std.proofs.Common.{◌≡◌, ◌∙◌, ◌-◌, ◌≤◌, ℕ, [], ap, arith, length, sym}
use Rattle.risc_model.proofs.RunLemmas.{sent_of-none}
use Rattle.oberon_past.specs.Live.{HasRun, IsEnding}
use Rattle.oberon_past.specs.Past.{IsLonger, PastParts}
use Rattle.oberon_past.specs.Run.{state_at}
use Rattle.oberon_past.specs.declared.progress.Progress.{Progress}

pub stayed : (old new : PastParts) → IsLonger old new → (to room : ℕ) → old.end ≤ to → (progress : Progress) → progress.sent.items ≡ []
    → IsEnding old new to room progress.ending → HasRun old to room new progress
stayed old new longer to room on progress none ending = record {
  run = longer.run;
  further = (omega (arith, longer.end), omega (arith, longer.end, on));
  spacing = longer.spacing;
  keyframes = longer.keyframes;
  pages = longer.pages;
  sent = none ∙ sym (sent_of-none old.run.inputs old.end (new.end - old.end) (state_at old.run old.end) (omega (arith, longer.end)));
  fits = omega (arith, ap length none);
  ending = ending;
}
