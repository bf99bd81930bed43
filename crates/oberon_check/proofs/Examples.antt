-- Worked examples of the definitions: the order of the parts, the lines of verdicts, and the least failed segment of a list
-- of verdicts.
use Rattle.std.proofs.Common.{◌≡◌, ◌<◌, ℕ, zero, suc, [], ◌∷◌, List, get_or, Option, None, Some, map, refl, inl, inr, arith}
use Rattle.std.specs.Prelude.{codes, Contains}
use Rattle.std.specs.Fmt.{digits}
use Rattle.risc_devices.specs.DeviceState.{DeviceState}
use Rattle.risc_model.specs.MachineState.{CpuState}
use Rattle.oberon_format.specs.FirstFault.{Rule, each}
use Rattle.oberon_format.specs.Recording.{RecordingParts}
use Rattle.oberon_check.specs.declared.part.Part.{Part}
use Rattle.oberon_check.specs.declared.part.Part.TheVariants.{R, H, Pc, Flags, Stop, Timer, Rate, Phase, Switches, Leds, Mouse, Serial, Keys, Disk, Sent, Page}
use Rattle.oberon_check.specs.declared.verdict.Verdict.TheVariants.{Accepted, FalseAt}
use Rattle.oberon_check.specs.Difference.{register_parts, control_parts, device_parts}
use Rattle.oberon_check.specs.Line.{part_name, line_of, status_of}
use Rattle.oberon_check.specs.Segment.{SegmentVerdictRecord}
use Rattle.oberon_check.specs.inner.Tally.{lesser_of, end_of}
use Rattle.oberon_check.specs.Work.{IsAfterShown, IsJob, failed_of}

-- the order of the registers, of the processor's other parts and of the devices, and the names of parts
order_of_registers : (a b : List ℕ) → map (λ (rule : Rule Part). rule.1) (register_parts a b) ≡ R 0 ∷ R 1 ∷ R 2 ∷ R 3 ∷ R 4 ∷ R 5 ∷ R 6 ∷ R 7 ∷ R 8 ∷ R 9 ∷ R 10 ∷ R 11 ∷ R 12 ∷ R 13 ∷ R 14 ∷ R 15 ∷ []
unfolding each
order_of_registers a b = refl

order_of_devices : (a b : DeviceState) → map (λ (rule : Rule Part). rule.1) (device_parts a b) ≡ Timer ∷ Rate ∷ Phase ∷ Switches ∷ Leds ∷ Mouse ∷ Serial ∷ Keys ∷ Disk ∷ []
order_of_devices a b = refl

order_of_control : (a b : CpuState) → map (λ (rule : Rule Part). rule.1) (control_parts a b) ≡ H ∷ Pc ∷ Flags ∷ Stop ∷ []
order_of_control a b = refl

names : map part_name (R 0 ∷ R 15 ∷ H ∷ Pc ∷ Rate ∷ Phase ∷ Sent ∷ Page 1023 ∷ [])
    ≡ codes "R0" ∷ codes "R15" ∷ codes "H" ∷ codes "PC" ∷ codes "rate" ∷ codes "phase" ∷ codes "out" ∷ codes "page 1023" ∷ []
unfolding digits
names = refl

-- the line of a recording that has only checkpoint 0, and the line with the largest numbers
no_checkpoint : line_of (Accepted 0 0) ≡ codes "accepted 0 checkpoints 0 steps\n"
unfolding digits
no_checkpoint = refl

most_steps : line_of (Accepted 4096 1099511627776) ≡ codes "accepted 4096 checkpoints 1099511627776 steps\n"
unfolding digits
most_steps = refl

false_register : line_of (FalseAt 1 100 (R 0)) ≡ codes "false checkpoint 1 at 100 part R0\n"
unfolding digits
false_register = refl

false_leds : line_of (FalseAt 3 30 Leds) ≡ codes "false checkpoint 3 at 30 part LEDs\n"
unfolding digits
false_leds = refl

false_output : line_of (FalseAt 2 4 Sent) ≡ codes "false checkpoint 2 at 4 part out\n"
unfolding digits
false_output = refl

statuses : map status_of (Accepted 2 9 ∷ FalseAt 1 2 (R 5) ∷ []) ≡ 0 ∷ 1 ∷ []
statuses = refl

-- segments 7, 3 and 5 failed, in this order: 3 is the least, and only the segments below it need a verdict
least_of_three : lesser_of (lesser_of (lesser_of None 7 (Some Leds)) 3 (Some Keys)) 5 (Some H) ≡ Some (3, Keys)
least_of_three = refl

held_changes_nothing : lesser_of (Some (3, Keys)) 1 None ≡ Some (3, Keys)
held_changes_nothing = refl

below_the_least : end_of (Some (3, Keys)) 10 ≡ 3
below_the_least = refl

all_of_them : end_of None 10 ≡ 10
all_of_them = refl

-- 4 is the only element of this list
only_four : (k x : ℕ) → k < 1 → get_or (4 ∷ []) k x ≡ x → 4 ≡ x
only_four zero x small is = is
only_four (suc k) x small is = absurd (omega arith)

not_eight : (x : ℕ) → x ≡ 8 → x < 8 → ⊥
not_eight x is below = absurd (omega arith)

-- ten segments in jobs of four. Segment 2 failed: job 0 ends with it, and no other segment is reported
module _ (r : RecordingParts) where
  abbrev found : ℕ → Option Part → SegmentVerdictRecord
  found segment part = record { recording = r; segment = segment; part = part }

  abbrev first_job : List SegmentVerdictRecord
  first_job = found 0 None ∷ found 1 None ∷ found 2 (Some Leds) ∷ []

  job_ends_with_its_failed : IsJob 10 4 [] 0 first_job
  job_ends_with_its_failed = inr (omega arith, refl, (omega arith, refl, (omega arith, refl, refl)))

  failed_is_reported : failed_of first_job ≡ 2 ∷ []
  failed_is_reported = refl

  -- job 1 begins at segment 4, so it may be skipped if 2 was shown, but not if only 4 was
  skipped : IsJob 10 4 (2 ∷ []) 1 []
  skipped = inl (refl, (2, (0, omega arith, refl), omega arith))

  not_at_its_first : IsJob 10 4 (4 ∷ []) 1 [] → ⊥
  not_at_its_first (inl over) =
      let after : IsAfterShown (4 ∷ []) 4 = over.1 in
      let there : Contains (4 ∷ []) after.0 = after.1 in
      let four = only_four there.0 after.0 there.1 there.2 in
      let below : after.0 < 4 = after.2 in
      absurd (omega arith)
  not_at_its_first (inr series) = not_eight 4 series (omega arith)

  -- the last job has two segments
  last_job : IsJob 10 4 [] 2 (found 8 None ∷ found 9 None ∷ [])
  last_job = inr (omega arith, refl, (omega arith, refl, refl))
