-- The parts of a checkpoint.
use Rattle.std.specs.Prelude.{ℕ, false, List, [], ◌-◌, ◌++◌, length, replicate}
use Rattle.risc_devices.specs.DeviceState.{DeviceState, zero_devices}
use Rattle.risc_model.specs.MachineState.{CpuState, cpu_state}
use Rattle.oberon_format.specs.declared.checkpoint.Checkpoint.{Checkpoint}
use Rattle.oberon_format.specs.declared.ranges.TheConstants.{MAX_KEYS}

-- the state claimed at a count: the processor, the devices, the bytes sent since the checkpoint before, and the memory as the
-- page ids of its 1,024 slots
pub record CheckpointParts : Type 0 where
  pub count : ℕ
  pub cpu : CpuState
  pub devices : DeviceState
  pub sent : List ℕ
  pub table : List ℕ

-- the parts of a `Checkpoint`
abbrev pub checkpoint_parts : Checkpoint → CheckpointParts
checkpoint_parts c = record {
  count = c.count;
  cpu = cpu_state c.cpu;
  devices = c.devices;
  sent = c.sent.items;
  table = c.table.numbers;
}

-- the default where there is no checkpoint
abbrev pub no_checkpoint : CheckpointParts
no_checkpoint = record {
  count = 0;
  cpu = record { r = []; h = 0; pc = 0; flags = record { n = false; z = false; c = false; v = false }; stop = 0 };
  devices = zero_devices;
  sent = [];
  table = [];
}

-- the waiting keys, oldest first, and zeros after them (this project's own choice)
abbrev pub key_bytes : DeviceState → List ℕ
key_bytes d = d.keys ++ replicate (MAX_KEYS - length d.keys) 0
