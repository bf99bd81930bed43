-- What a card replies to a command, and does at it ("SD Specifications, Part 1: Physical Layer", SPI mode). That it knows these
-- commands alone, takes each at any time, and is ready at once is this project's own choice.
use Rattle.std.specs.Prelude.{ℕ, ◌/◌, ◌%◌, ◌^◌, true, false, ◌==◌, if◌then◌else◌, List, [], ◌∷◌, Some}
use Rattle.oberon_card.specs.CardState.{CardState, has_block}

-- it begins to reply
unfoldable pub replied : List ℕ → CardState → CardState
replied reply s = record s { command = []; application = false; reply = reply; sending = [] }

-- a reply that is a status: an idle byte comes before it
unfoldable pub stated : ℕ → CardState → CardState
stated status s = replied (255 ∷ status ∷ []) s

-- command 17: it says a block, after the token 254; or the status 40H if the image has no such block
unfoldable pub reading : ℕ → CardState → CardState
reading number s =
    if has_block number s then record (replied (255 ∷ 0 ∷ 255 ∷ 254 ∷ []) s) { sending = s.block; read = Some number }
    else stated 0x40 s

-- command 24: it waits for the token and a block; or says the status 40H if the image has no such block
unfoldable pub writing : ℕ → CardState → CardState
writing number s = if has_block number s then record (stated 0 s) { awaited = true; target = number } else stated 0x40 s

-- a command and its argument of 32 bits: 0 resets the card; 8 asks for its voltages, and gets the lowest twelve bits of the
-- argument back; 16 sets the length of a block, which stays 512; 17 reads a block, and 24 writes one; 41 after 55 starts the
-- card; 58 reads a register, which says that it counts in blocks. Any other is unknown, with status 4
unfoldable pub obeyed : ℕ → ℕ → CardState → CardState
obeyed number argument s =
    if number == 0 then stated 1 s
    else if number == 8 then replied (255 ∷ 1 ∷ 0 ∷ 0 ∷ argument / 2 ^ 8 % 2 ^ 4 ∷ argument % 2 ^ 8 ∷ []) s
    else if number == 16 then stated 0 s
    else if number == 17 then reading argument s
    else if number == 24 then writing argument s
    else if number == 41 then stated (if s.application then 0 else 4) s
    else if number == 55 then record (stated 0 s) { application = true }
    else if number == 58 then replied (255 ∷ 0 ∷ 0xC0 ∷ 0xFF ∷ 0 ∷ 0 ∷ []) s
    else stated 4 s
