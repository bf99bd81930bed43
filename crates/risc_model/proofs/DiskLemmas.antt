-- Inputs of the disk alone change its answer.
use Rattle.std.proofs.Common.{◌≡◌, ◌≢◌, ℕ, zero, suc, ◌+◌, ◌%◌, ◌^◌, Bool, cond, true, false, List, [], ◌∷◌, Option, None, nat_eq, nat_lt, slice_index, refl, ◌∙◌}
use Rattle.std.specs.Prelude.{drop, All}
use Rattle.std.proofs.lemmas.List.Elements.{All-head, All-tail}
use Rattle.risc_core.specs.declared.stop.Stop.TheVariants.{Fetch}
use Rattle.risc_core.specs.declared.address.Place.{Place}
use Rattle.risc_core.specs.declared.address.Place.TheVariants.{Ram, Device, Nowhere}
use Rattle.risc_core.specs.declared.instruction.Instr.{Instr}
use Rattle.risc_core.specs.declared.instruction.Instr.TheVariants.{Reg, Imm, Load, Store, BranchReg, BranchOff}
use Rattle.risc_core.specs.Instruction.{instruction_of}
use Rattle.risc_core.specs.Place.{target_of, lane_of}
use Rattle.risc_devices.specs.declared.kind.Kind.{Kind}
use Rattle.risc_devices.specs.declared.kind.Kind.TheVariants.{Timer, Switches, Mouse, Key, Serial, Disk}
use Rattle.risc_devices.specs.DeviceState.{DeviceState}
use Rattle.risc_devices.specs.DeviceWords.{after_read, after_write}
use Rattle.risc_devices.specs.Input.{taken_value, taken_input}
use Rattle.risc_devices.specs.InputKind.{kind_number}
use Rattle.risc_devices.specs.Ticks.{ticked}
use Rattle.risc_model.specs.declared.event.Event.{Event}
use Rattle.risc_model.specs.MachineState.{State}
use Rattle.risc_model.specs.Exec.{stopped_by, stored_value, load_at, device_store, store_at, address_in, perform, fetched, counted, exec}
use Rattle.risc_model.specs.Replay.{fed, feed, run_of}
use Rattle.risc_model.specs.DiskInputs.{IsOfDisk}
use Rattle.risc_model.specs.Laws.{DiskLaw}

-- ---- no instruction changes it

after_read-either : (serial key : Bool) (d : DeviceState) → (cond serial (record d { received = false }) (cond key (record d { keys = drop 1 d.keys }) d)).disk ≡ d.disk
after_read-either true key d = refl
after_read-either false true d = refl
after_read-either false false d = refl

after_read-disk : (d : DeviceState) (word : ℕ) → (after_read d word).disk ≡ d.disk
unfolding after_read
after_read-disk d word = after_read-either (nat_eq word 2) (nat_eq word 7) d

after_write-either : (lights : Bool) (leds : ℕ) (d : DeviceState) → (cond lights (record d { leds = leds }) d).disk ≡ d.disk
after_write-either true leds d = refl
after_write-either false leds d = refl

after_write-disk : (d : DeviceState) (word value : ℕ) → (after_write d word value).disk ≡ d.disk
unfolding after_write
after_write-disk d word value = after_write-either (nat_eq word 1) _ d

ticked-either : (still ends : Bool) (d : DeviceState) → (cond still d (cond ends (record d { timer = (d.timer + 1) % 2 ^ 32; phase = 0 }) (record d { phase = d.phase + 1 }))).disk ≡ d.disk
ticked-either true ends d = refl
ticked-either false true d = refl
ticked-either false false d = refl

ticked-disk : (d : DeviceState) → (ticked d).disk ≡ d.disk
unfolding ticked
ticked-disk d = ticked-either (nat_eq d.rate 0) (nat_eq (d.phase + 1) d.rate) d

load-disk : (place : Place) (lane : ℕ) (byte : Bool) (a : ℕ) (s : State) → (load_at place lane byte a s).devices.disk ≡ s.devices.disk
unfolding load_at
load-disk (Ram word) lane byte a s = refl
load-disk (Device word) lane byte a s = after_read-disk s.devices word
load-disk Nowhere lane byte a s = refl

store-disk : (place : Place) (lane : ℕ) (byte : Bool) (a : ℕ) (s : State) → (store_at place lane byte a s).0.devices.disk ≡ s.devices.disk
unfolding store_at device_store
store-disk (Ram word) lane byte a s = refl
store-disk (Device word) lane byte a s = after_write-disk s.devices word (stored_value byte (slice_index s.cpu.r a))
store-disk Nowhere lane byte a s = refl

perform-disk : (i : Instr) (s : State) → (perform i s).0.devices.disk ≡ s.devices.disk
unfolding perform
perform-disk (Reg op u v a b c) s = refl
perform-disk (Imm op u v a b im) s = refl
perform-disk (Load byte a b off) s = load-disk (target_of (address_in s b off)) (lane_of (address_in s b off)) byte a s
perform-disk (Store byte a b off) s = store-disk (target_of (address_in s b off)) (lane_of (address_in s b off)) byte a s
perform-disk (BranchReg k link c) s = refl
perform-disk (BranchOff k link off) s = refl

fetched-either : (within : Bool) (i : Instr) (s : State) → (cond within (perform i s) (record s { cpu = stopped_by Fetch s.cpu }, None)).0.devices.disk ≡ s.devices.disk
fetched-either true i s = perform-disk i s
fetched-either false i s = refl

fetched-disk : (s : State) → (fetched s).0.devices.disk ≡ s.devices.disk
unfolding fetched
fetched-disk s = fetched-either (nat_lt s.cpu.pc (2 ^ 18)) (instruction_of (slice_index s.words s.cpu.pc)) s

counted-either : (on : Bool) (o : State × Option ℕ) → (cond on (record o.0 { devices = ticked o.0.devices }, o.1) o).0.devices.disk ≡ o.0.devices.disk
counted-either true o = ticked-disk o.0.devices
counted-either false o = refl

counted-disk : (o : State × Option ℕ) → (counted o).0.devices.disk ≡ o.0.devices.disk
unfolding counted
counted-disk o = counted-either (nat_eq o.0.cpu.stop 0) o

exec-either : (on : Bool) (s : State) → (cond on (counted (fetched s)) (s, None)).0.devices.disk ≡ s.devices.disk
exec-either true s = counted-disk (fetched s) ∙ fetched-disk s
exec-either false s = refl

exec-disk : (s : State) → (exec s).0.devices.disk ≡ s.devices.disk
unfolding exec
exec-disk s = exec-either (nat_eq s.cpu.stop 0) s

-- ---- and no input of another kind

taken-disk : (kind : Kind) (value : ℕ) (d : DeviceState) → kind_number kind ≢ 6 → (taken_value kind value d).disk ≡ d.disk
unfolding taken_value
taken-disk Timer value d other = refl
taken-disk Switches value d other = refl
taken-disk Mouse value d other = refl
taken-disk Key value d other = refl
taken-disk Serial value d other = refl
taken-disk Disk value d other = absurd (other refl)

taken-either : (now : Bool) (e : Event) (d : DeviceState) → ¬ (IsOfDisk e) → (cond now (taken_input e.input d) d).disk ≡ d.disk
unfolding taken_input
taken-either true e d other = taken-disk e.input.kind e.input.value d other
taken-either false e d other = refl

fed-disk : (es : List Event) (n : ℕ) (d : DeviceState) → All (λ e. ¬ (IsOfDisk e)) es → (fed es n d).disk ≡ d.disk
fed-disk [] n d others = refl
fed-disk (e ∷ es) n d others =
    fed-disk es n (cond (nat_eq e.count n) (taken_input e.input d) d) (All-tail (λ e. ¬ (IsOfDisk e)) e es others)
    ∙ taken-either (nat_eq e.count n) e d (All-head (λ e. ¬ (IsOfDisk e)) e es others)

feed-either : (on : Bool) (es : List Event) (n : ℕ) (s : State) → All (λ e. ¬ (IsOfDisk e)) es → (cond on (record s { devices = fed es n s.devices }) s).devices.disk ≡ s.devices.disk
feed-either true es n s others = fed-disk es n s.devices others
feed-either false es n s others = refl

feed-disk : (es : List Event) (n : ℕ) (s : State) → All (λ e. ¬ (IsOfDisk e)) es → (feed es n s).devices.disk ≡ s.devices.disk
unfolding feed
feed-disk es n s others = feed-either (nat_eq s.cpu.stop 0) es n s others

run-disk : (es : List Event) (from n : ℕ) (s : State) → All (λ e. ¬ (IsOfDisk e)) es → (run_of es from n s).devices.disk ≡ s.devices.disk
unfolding run_of
run-disk es from zero s others = refl
run-disk es from (suc n) s others =
    exec-disk (feed es (from + n) (run_of es from n s)) ∙ feed-disk es (from + n) (run_of es from n s) others ∙ run-disk es from n s others

pub disk_law-holds : DiskLaw
disk_law-holds = (exec-disk, run-disk)
