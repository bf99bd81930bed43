-- What the types of a recording's parts guarantee, lawful or not, and which parts have numbers that fit the fields of a file.
use Rattle.std.specs.Prelude.{ℕ, ◌≡◌, ◌<◌, ◌^◌, All, List, length, slice_index}
use Rattle.risc_devices.specs.DeviceState.{IsDeviceState}
use Rattle.risc_pages.specs.Pages.{ArePages}
use Rattle.risc_pages.specs.Tables.{IsTable}
use Rattle.oberon_format.specs.CheckpointParts.{CheckpointParts}
use Rattle.oberon_format.specs.Recording.{RecordingParts, IsUnanswered}

-- sixteen registers that hold words, a word in H, devices in their ranges, a table of 1,024 page ids, and bytes of output
pub record IsFormed (c : CheckpointParts) : Type 0 where
  pub registers : length c.cpu.r ≡ 16
  pub words : (a : ℕ) → slice_index c.cpu.r a < 2 ^ 32
  pub auxiliary : c.cpu.h < 2 ^ 32
  pub devices : IsDeviceState c.devices
  pub table : IsTable c.table
  pub bytes : All (λ byte. byte < 2 ^ 8) c.sent

-- each checkpoint is as its types guarantee
abbrev pub AreFormed : List CheckpointParts → Type 0
AreFormed checkpoints = All IsFormed checkpoints

-- its other numbers fit the fields of a file: the count in eight bytes, and the program counter, the stop and the number of bytes
-- sent in four bytes each
pub record IsWritableWithDisk (c : CheckpointParts) : Type 0 where
  pub formed : IsFormed c
  pub count : c.count < 2 ^ 64
  pub counter : c.cpu.pc < 2 ^ 32
  pub stop : c.cpu.stop < 2 ^ 32
  pub sent : length c.sent < 2 ^ 32

-- all numbers of a recording's parts fit the fields of a file, whether they are lawful or not: the pages are pages, and the
-- numbers of pages, inputs and checkpoints fit in four bytes each. The numbers of an input always fit
pub record AreWritableWithDisk (r : RecordingParts) : Type 0 where
  pub pool : ArePages r.pool
  pub pages : length r.pool < 2 ^ 32
  pub events : length r.inputs < 2 ^ 32
  pub few : length r.checkpoints < 2 ^ 32
  pub checkpoints : All IsWritableWithDisk r.checkpoints

-- the same of a checkpoint without an answer of a disk, for which version 2 has no field
pub record IsWritable (c : CheckpointParts) : Type 0 where
  pub formed : IsFormed c
  pub count : c.count < 2 ^ 64
  pub counter : c.cpu.pc < 2 ^ 32
  pub stop : c.cpu.stop < 2 ^ 32
  pub sent : length c.sent < 2 ^ 32
  pub unanswered : IsUnanswered c

-- and of parts with such checkpoints
pub record AreWritable (r : RecordingParts) : Type 0 where
  pub pool : ArePages r.pool
  pub pages : length r.pool < 2 ^ 32
  pub events : length r.inputs < 2 ^ 32
  pub few : length r.checkpoints < 2 ^ 32
  pub checkpoints : All IsWritable r.checkpoints
