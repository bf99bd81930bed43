-- What a card does over several exchanges.
use Rattle.std.specs.Prelude.{ℕ, ◌≡◌, ◌+◌, ◌*◌, ◌^◌, true, false, List, [], ◌∷◌, length, replicate, Some, None}
use Rattle.oberon_card.specs.CardState.{CardState, has_block}
use Rattle.oberon_card.specs.Exchange.{said, exchanged}

-- the card after exchanges of bytes, and the bytes that it says in them
unfoldable pub after_all : List ℕ → CardState → CardState
after_all [] s = s
after_all (byte ∷ bytes) s = after_all bytes (exchanged byte s)

unfoldable pub says : List ℕ → CardState → List ℕ
says [] s = []
says (byte ∷ bytes) s = said s ∷ says bytes (exchanged byte s)

-- a card of which no command has come in part, and that waits for no block
pub record IsReady (s : CardState) : Type 0 where
  pub command : s.command ≡ []
  pub awaited : s.awaited ≡ false
  pub packet : s.packet ≡ None

-- command 17, with the bytes of its argument, the highest first, and any checksum
abbrev pub read_command : ℕ → ℕ → ℕ → ℕ → ℕ → List ℕ
read_command a b c d checksum = 0x51 ∷ a ∷ b ∷ c ∷ d ∷ checksum ∷ []

-- the number that these bytes are
abbrev pub number_of : ℕ → ℕ → ℕ → ℕ → ℕ
number_of a b c d = a * 2 ^ 24 + b * 2 ^ 16 + c * 2 ^ 8 + d

-- a card that gets the command to read a block that the image has asks its caller for it, and then says the status, the token and
-- the block to one that only listens, whatever it was going to say before
pub record ReadLaw (s : CardState) (a b c d checksum : ℕ) : Type 0 where
  pub asks : (after_all (read_command a b c d checksum) s).read ≡ Some (number_of a b c d)
  pub says_block : says (replicate (length (255 ∷ 0 ∷ 255 ∷ 254 ∷ s.block)) 255) (after_all (read_command a b c d checksum) s)
      ≡ 255 ∷ 0 ∷ 255 ∷ 254 ∷ s.block
