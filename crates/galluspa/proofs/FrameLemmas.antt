-- A run reads no inputs but those of its own counts.
use Rattle.std.proofs.Common.{◌≡◌, ◌≢◌, ◌∙◌, ◌<◌, ◌≤◌, ◌+◌, ℕ, List, ◌++◌, ap, sym, arith, length}
use Rattle.risc_devices.specs.DeviceState.{DeviceState}
use Rattle.risc_model.specs.declared.event.Event.{Event}
use Rattle.risc_model.specs.InputOrder.{count_at}
use Rattle.risc_model.specs.Replay.{fed}
use Rattle.risc_model.proofs.FrameLemmas.{agree-run, agree-sent, fed-append}
use Rattle.risc_model.proofs.RunLemmas.{fed-others}
use Rattle.galluspa.specs.Laws.{FrameLaw}

same-fed : (before due after : List Event) (from n k : ℕ) (d : DeviceState) → ((i : ℕ) → i < length before → count_at before i < from) → ((i : ℕ) → i < length after → from + n ≤ count_at after i)
    → k < n → fed due (from + k) d ≡ fed (before ++ (due ++ after)) (from + k) d
same-fed before due after from n k d past later h =
    let m : ℕ = from + k in
    sym (fed-append before (due ++ after) m d
    ∙ ap (fed (due ++ after) m) (fed-others before m d (λ i lt. let p = past i lt in let ne : count_at before i ≢ m = omega arith in ne))
    ∙ fed-append due after m d
    ∙ fed-others after m (fed due m d) (λ i lt. let p = later i lt in let ne : count_at after i ≢ m = omega arith in ne))

pub frame_law-holds : FrameLaw
frame_law-holds = (
  (λ before due after from n s past later. agree-run due (before ++ (due ++ after)) from n s (λ k d h. same-fed before due after from n k d past later h)),
  (λ before due after from n s past later. agree-sent due (before ++ (due ++ after)) from n s (λ k d h. same-fed before due after from n k d past later h)),
)
