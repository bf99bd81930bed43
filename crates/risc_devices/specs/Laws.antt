-- What the definitions mean, in other terms. Nothing here is chosen or restated: each law is proved from the definitions.
use Rattle.std.specs.Prelude.{ℕ, ◌≡◌, ◌/◌, ◌%◌, ◌^◌, ◌<◌, ◌↔◌, IsTrue}
use Rattle.risc_devices.specs.InputKind.{is_mouse}
use Rattle.risc_devices.specs.declared.words.TheConstants as word
use Rattle.risc_devices.specs.declared.kinds.TheConstants as kind
use Rattle.risc_devices.specs.declared.disk.TheConstants.{UNANSWERED}

-- bit i of a number is set
abbrev pub HasBit : ℕ → ℕ → Type 0
HasBit n i = n / 2 ^ i % 2 ≡ 1

-- a number is within a mask: each of its bits is one of the mask's
abbrev pub AreBitsOf : ℕ → ℕ → Type 0
AreBitsOf mask n = (i : ℕ) → HasBit n i → HasBit mask i

-- the mouse words are the words within the mask 073FF3FF
abbrev pub MouseLaw : Type 0
MouseLaw = (word : ℕ) → IsTrue (is_mouse word) ↔ ((word < 2 ^ 32) × AreBitsOf 0x073FF3FF word)

-- the named device words by their numbers ("Project Oberon" 2013, the hardware chapters)
pub record HasWordNumbers : Type 0 where
  pub timer : word.TIMER ≡ 0
  pub switches : word.SWITCHES ≡ 1
  pub leds : word.LEDS ≡ 1
  pub serial_data : word.SERIAL_DATA ≡ 2
  pub serial_status : word.SERIAL_STATUS ≡ 3
  pub spi_data : word.SPI_DATA ≡ 4
  pub spi_status : word.SPI_STATUS ≡ 5
  pub mouse : word.MOUSE ≡ 6
  pub keyboard : word.KEYBOARD ≡ 7

-- the kinds of inputs by their numbers (this project's own choice)
pub record HasKindNumbers : Type 0 where
  pub timer : kind.TIMER ≡ 1
  pub switches : kind.SWITCHES ≡ 2
  pub mouse : kind.MOUSE ≡ 3
  pub key : kind.KEY ≡ 4
  pub serial : kind.SERIAL ≡ 5
  pub disk : kind.DISK ≡ 6

-- each device word and each kind has its number, and the word of a disk without an answer its value, so that a mistyped one cannot
-- change a definition unnoticed
abbrev pub DeviceNumbersLaw : Type 0
DeviceNumbersLaw = HasWordNumbers × HasKindNumbers × (UNANSWERED ≡ 255)
