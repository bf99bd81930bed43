-- Inputs as pairs of a kind's number and a value, and the ranges of their values.
use Rattle.std.proofs.Common.{◌≡◌, ◌≢◌, ℕ, ◌^◌, ◌<◌, refl, ap, sym, subst, ◌∙◌, arith}
use Rattle.std.proofs.Props.{props}
use Rattle.std.specs.Prelude.{IsTrue, ◌==◌, if◌then◌else◌}
use Rattle.risc_devices.specs.InputKind.{kind_number, is_input, is_input_with_disk, IsInput, IsInputWithDisk, is_mouse}
use Rattle.risc_devices.specs.Input.{kind_of, value_of}
use Rattle.risc_devices.specs.declared.input.Input.{Input}
use Rattle.risc_devices.specs.declared.kind.Kind.{Kind}
use Rattle.risc_devices.specs.declared.kind.Kind.TheVariants.{Timer, Switches, Mouse, Key, Serial, Disk}

-- an input of a machine without a disk is one of a machine with it
pub input_with_disk : (kind value : ℕ) → IsInput kind value → IsInputWithDisk kind value
unfolding is_input_with_disk
input_with_disk kind value lawful = grind arith

-- and so is each input with a disk that is not of the disk
pub input_without_disk : (kind value : ℕ) → kind ≢ 6 → IsInputWithDisk kind value → IsInput kind value
unfolding is_input_with_disk
input_without_disk kind value other lawful = grind arith

pub no_disk_input : (value : ℕ) → ¬ (IsInput 6 value)
unfolding is_input
no_disk_input value lawful = grind arith

-- what the value of each kind is
pub timer_fits : (value : ℕ) → IsInputWithDisk 1 value → value < 2 ^ 32
unfolding is_input is_input_with_disk
timer_fits value lawful = grind arith

pub switches_fit : (value : ℕ) → IsInputWithDisk 2 value → value < 2 ^ 12
unfolding is_input is_input_with_disk
switches_fit value lawful = grind arith

pub mouse_fits : (value : ℕ) → IsInputWithDisk 3 value → IsTrue (is_mouse value)
unfolding is_input is_input_with_disk
mouse_fits value lawful = grind arith

pub key_fits : (value : ℕ) → IsInputWithDisk 4 value → value < 2 ^ 8
unfolding is_input is_input_with_disk
key_fits value lawful = grind arith

pub serial_fits : (value : ℕ) → IsInputWithDisk 5 value → value < 2 ^ 8
unfolding is_input is_input_with_disk
serial_fits value lawful = grind arith

pub disk_fits : (value : ℕ) → IsInputWithDisk 6 value → value < 2 ^ 32
unfolding is_input is_input_with_disk
disk_fits value lawful = grind arith

-- a mouse word leaves bit 28 free
pub mouse_word_fits : (word : ℕ) → IsTrue (is_mouse word) → word < 2 ^ 27
unfolding is_mouse
mouse_word_fits word inside = grind arith

-- every input's value is a word, and its kind's number a byte
pub value_fits : (kind value : ℕ) → IsInputWithDisk kind value → value < 2 ^ 32
unfolding is_input is_input_with_disk is_mouse
value_fits kind value lawful = grind arith

pub kind_fits : (kind value : ℕ) → IsInputWithDisk kind value → kind < 7
unfolding is_input is_input_with_disk
kind_fits kind value lawful = grind arith

-- the kind of a number from 1 to 6
abbrev pub kind_at : ℕ → Kind
kind_at number =
    if number == 1 then Timer
    else if number == 2 then Switches
    else if number == 3 then Mouse
    else if number == 4 then Key
    else if number == 5 then Serial
    else Disk

kind_at-kind_number : (kind : Kind) → kind_at (kind_number kind) ≡ kind
kind_at-kind_number Timer = refl
kind_at-kind_number Switches = refl
kind_at-kind_number Mouse = refl
kind_at-kind_number Key = refl
kind_at-kind_number Serial = refl
kind_at-kind_number Disk = refl

kind_number-kind_at : (kind value : ℕ) → IsInputWithDisk kind value → kind_number (kind_at kind) ≡ kind
unfolding is_input is_input_with_disk
kind_number-kind_at kind value lawful = grind arith

-- the input of a kind's number and a value in its range
pub input_of : (kind value : ℕ) → IsInputWithDisk kind value → Input
input_of kind value lawful = record {
  kind = kind_at kind;
  value = value;
  lawful = subst (λ k. IsInputWithDisk k value) (sym (kind_number-kind_at kind value lawful)) lawful;
}

pub kind_of-input_of : (kind value : ℕ) (lawful : IsInputWithDisk kind value) → kind_of (input_of kind value lawful) ≡ kind
unfolding input_of
kind_of-input_of kind value lawful = kind_number-kind_at kind value lawful

pub value_of-input_of : (kind value : ℕ) (lawful : IsInputWithDisk kind value) → value_of (input_of kind value lawful) ≡ value
unfolding input_of
value_of-input_of kind value lawful = refl

-- inputs with the same kind number and value are equal
same_facts : (kind kind' : Kind) (value value' : ℕ) (lawful : IsInputWithDisk (kind_number kind) value) (lawful' : IsInputWithDisk (kind_number kind') value') → kind ≡ kind' → value ≡ value' → Path Input (record { kind = kind; value = value; lawful = lawful }) (record { kind = kind'; value = value'; lawful = lawful' })
same_facts kind kind' value value' lawful lawful' kinds values =
    let P : Kind → Type 0 = λ k. (l : IsInputWithDisk (kind_number k) value') → Path Input (record { kind = kind; value = value; lawful = lawful }) (record { kind = k; value = value'; lawful = l }) in
    let Q : ℕ → Type 0 = λ v. (l : IsInputWithDisk (kind_number kind) v) → Path Input (record { kind = kind; value = value; lawful = lawful }) (record { kind = kind; value = v; lawful = l }) in
    let facts : IsProp (IsInputWithDisk (kind_number kind) value) = hlevel props in
    let same_value : Q value = λ l. ap (λ (w : IsInputWithDisk (kind_number kind) value). let i : Input = record { kind = kind; value = value; lawful = w } in i) (facts lawful l) in
    subst P kinds (subst Q values same_value) lawful'

pub same_input : (a b : Input) → kind_of a ≡ kind_of b → value_of a ≡ value_of b → a ≡ b
same_input a b kind value =
    let kinds : a.kind ≡ b.kind = sym (kind_at-kind_number a.kind) ∙ (ap kind_at kind ∙ kind_at-kind_number b.kind) in
    same_facts a.kind b.kind a.value b.value a.lawful b.lawful kinds value
