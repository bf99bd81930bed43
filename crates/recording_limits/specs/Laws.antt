-- Each limit by its value, so that a mistyped number cannot change a definition above unnoticed. All are this project's own
-- choice.
use Rattle.std.specs.Prelude.{◌≡◌}
use Rattle.recording_limits.specs.declared.limits.TheConstants.{LAST_CHECKPOINT, LONGEST_SESSION, MAX_OUTPUT, MAX_PAGES}
use Rattle.recording_limits.specs.declared.limits.TheConstants.{MAX_EVENTS, MAX_EVENTS_WITH_DISK}

pub record HasLimits : Type 0 where
  pub output : MAX_OUTPUT ≡ 1048576
  pub pages : MAX_PAGES ≡ 65536
  pub events : MAX_EVENTS ≡ 1000000
  pub events_with_disk : MAX_EVENTS_WITH_DISK ≡ 4000000
  pub checkpoints : LAST_CHECKPOINT ≡ 4096
  pub session : LONGEST_SESSION ≡ 67108864
