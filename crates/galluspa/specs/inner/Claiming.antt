-- What a checkpoint claims, before its pages are written.
use Rattle.std.specs.Prelude.{◌≡◌, length}
use Rattle.oberon_format.specs.CheckpointParts.{CheckpointParts}
use Rattle.galluspa.specs.declared.claims.RawCheckpoint.{RawCheckpoint}
use Rattle.galluspa.specs.Raw.{AreDevices, IsCpu, IsPadded, cpu_of, devices_of}

-- the parts of a checkpoint, as a caller gets them, each number in its range
pub record IsRawCheckpoint (c : CheckpointParts) (checkpoint : RawCheckpoint) : Type 0 where
  pub count_is : checkpoint.state.count ≡ c.count
  pub cpu_is : cpu_of checkpoint.state ≡ c.cpu
  pub devices_are : devices_of checkpoint.state ≡ c.devices
  pub sent_is : checkpoint.sent_count ≡ length c.sent
  pub pages_are : checkpoint.pages ≡ c.table
  pub cpu : IsCpu checkpoint.state
  pub devices : AreDevices checkpoint.state
  pub padded : IsPadded checkpoint.state
