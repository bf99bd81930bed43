-- One exchange of bytes with a card: it says one, and hears one ("SD Specifications, Part 1: Physical Layer", SPI mode). That it
-- tests no checksum, and says 255 for each byte of one, is this project's own choice.
use Rattle.std.specs.Prelude.{ℕ, ◌+◌, ◌*◌, ◌/◌, ◌%◌, ◌^◌, Bool, false, nat_lt, ◌==◌, ◌&&◌, ◌||◌, if◌then◌else◌}
use Rattle.std.specs.Prelude.{List, [], ◌∷◌, ◌++◌, length, get_or, take, drop, Option, Some, None}
use Rattle.oberon_card.specs.CardState.{CardState}
use Rattle.oberon_card.specs.Commands.{obeyed}

-- the byte that it says: the next of its reply, then of the block that is read; else 255
unfoldable pub said : CardState → ℕ
said s = get_or (s.reply ++ s.sending) 0 255

-- that byte was said
unfoldable pub spoken : CardState → CardState
spoken s = if length s.reply == 0 then record s { sending = drop 1 s.sending } else record s { reply = drop 1 s.reply }

-- the argument of a command: its second to fifth byte, the highest first
abbrev pub argument_of : List ℕ → ℕ
argument_of bytes =
    get_or bytes 1 0 * 2 ^ 24 + get_or bytes 2 0 * 2 ^ 16 + get_or bytes 3 0 * 2 ^ 8 + get_or bytes 4 0

-- these bytes of a command came. A command has six: its number is in the lowest six bits of the first one, and the last one is a
-- checksum
unfoldable pub commanded : List ℕ → CardState → CardState
commanded bytes s =
    if length bytes == 6 then obeyed (get_or bytes 0 0 % 2 ^ 6) (argument_of bytes) s else record s { command = bytes }

-- these bytes of a block to be written came. After its 512 bytes and two of a checksum the caller is to write it, and the card says
-- that it took it (5)
unfoldable pub packed : List ℕ → CardState → CardState
packed bytes s =
    if length bytes == 514 then
    record s { packet = None; block = take 512 bytes; reply = 5 ∷ 0 ∷ []; sending = []; write = Some s.target }
    else record s { packet = Some bytes }

-- a byte is the token of a block to be written, for which the card waits
unfoldable pub is_token : ℕ → CardState → Bool
is_token byte s = s.awaited && (byte == 254)

-- a byte is one of a command: any after the first, in which bit 7 is clear and bit 6 set
unfoldable pub is_of_command : ℕ → CardState → Bool
is_of_command byte s = nat_lt 0 (length s.command) || (byte / 2 ^ 6 == 1)

-- it hears a byte while no block comes, and ignores one that is neither
unfoldable pub listened : ℕ → CardState → CardState
listened byte s =
    if is_token byte s then record s { awaited = false; packet = Some [] }
    else if is_of_command byte s then commanded (s.command ++ byte ∷ []) s
    else s

-- it hears a byte, after these of a block
unfoldable pub heard_after : Option (List ℕ) → ℕ → CardState → CardState
heard_after (Some bytes) byte s = packed (bytes ++ byte ∷ []) s
heard_after None byte s = listened byte s

-- it hears a byte
unfoldable pub heard : ℕ → CardState → CardState
heard byte s = heard_after s.packet byte s

-- one exchange
unfoldable pub exchanged : ℕ → CardState → CardState
exchanged byte s = heard byte (spoken s)
