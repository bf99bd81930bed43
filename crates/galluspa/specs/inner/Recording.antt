-- A run whose instructions are recorded.
use Rattle.std.specs.Prelude.{ℕ, ◌≡◌, ◌⊎◌, ◌<◌, IfSome, List, length, slice_index_or}
use Rattle.risc_model.specs.MachineState.{IsCpuState, State, cpu_state}
use Rattle.risc_search.specs.declared.effect.Accessed.{Accessed}
use Rattle.oberon_past.specs.declared.traced.Record.{Record}
use Rattle.galluspa.specs.declared.raw.RawState.{RawState}
use Rattle.galluspa.specs.declared.records.RawRecord.{RawRecord}
use Rattle.galluspa.specs.Raw.{AreDevices, IsCpu, IsPadded, IsWritten, cpu_of, devices_of, state_of}
use Rattle.galluspa.specs.Records.{IsPlain, effect_of}

-- an access of one byte or four
abbrev pub HasBytes : Accessed → Type 0
HasBytes accessed = (accessed.access.count ≡ 1) ⊎ (accessed.access.count ≡ 4)

-- a caller's state and words are those of a machine at a count, as a call writes them
pub record IsMoved (s : State) (count : ℕ) (state : RawState) (words : List ℕ) : Type 0 where
  pub count_is : state.count ≡ count
  pub state_is : state_of state words ≡ s
  pub written : IsWritten state words

-- ---- records of a past

-- a record that a caller can get: its program counter and its stop are in their ranges, and it accesses one byte or four
pub record IsWritable (r : Record) : Type 0 where
  pub range : IsCpuState (cpu_state r.cpu)
  pub bytes : IfSome r.effect.accessed HasBytes

abbrev pub AreWritable : List Record → Type 0
AreWritable records = (i : ℕ) (d : Record) → i < length records → IsWritable (slice_index_or records i d)

-- a record as a caller gets it
pub record IsRaw (r : Record) (raw : RawRecord) : Type 0 where
  pub count_is : raw.state.count ≡ r.count
  pub cpu_is : cpu_of raw.state ≡ cpu_state r.cpu
  pub devices_are : devices_of raw.state ≡ r.devices
  pub cpu : IsCpu raw.state
  pub devices : AreDevices raw.state
  pub padded : IsPadded raw.state
  pub effect_is : effect_of raw ≡ r.effect
  pub plain : IsPlain raw

-- so many records of two lists
abbrev pub AreRaw : ℕ → List Record → List RawRecord → Type 0
AreRaw count records raws = (i : ℕ) (d : Record) (e : RawRecord) → i < count → IsRaw (slice_index_or records i d) (slice_index_or raws i e)
