-- Worked examples of the definitions, computed.
use Rattle.std.proofs.Common.{◌≡◌, ℕ, false, List, [], ◌∷◌, ◌++◌, replicate, Some, None, refl}
use Rattle.oberon_card.specs.CardState.{CardState, has_block}
use Rattle.oberon_card.specs.Commands.{replied, stated, reading, writing, obeyed}
use Rattle.oberon_card.specs.Exchange.{said, spoken, commanded, packed, is_token, is_of_command, listened, heard_after, heard, exchanged}
use Rattle.oberon_card.specs.Transfer.{exchanges, said_in_four, is_selected, is_fast, served, answer_of}

-- a card over the blocks 10 to 13, whose caller gives blocks of three bytes
abbrev powered : CardState
powered = record {
  first = 10;
  blocks = 4;
  command = [];
  application = false;
  reply = [];
  sending = [];
  awaited = false;
  target = 0;
  packet = None;
  block = 1 ∷ 2 ∷ 3 ∷ [];
  write = None;
  read = None;
}

-- the card after exchanges of bytes, and the bytes that it says in them
abbrev after : List ℕ → CardState → CardState
after [] s = s
after (byte ∷ bytes) s = after bytes (exchanged byte s)

abbrev says : List ℕ → CardState → List ℕ
says [] s = []
says (byte ∷ bytes) s = said s ∷ says bytes (exchanged byte s)

abbrev idle : List ℕ
idle = 255 ∷ 255 ∷ 255 ∷ 255 ∷ 255 ∷ 255 ∷ 255 ∷ []

-- command 0, and 8 with its pattern, of a card that was just powered; bytes that begin no command are ignored before
reset : says idle (after (0 ∷ 255 ∷ 0xC0 ∷ 0x40 ∷ 0 ∷ 0 ∷ 0 ∷ 0 ∷ 0x95 ∷ []) powered) ≡ 255 ∷ 1 ∷ 255 ∷ 255 ∷ 255 ∷ 255 ∷ 255 ∷ []
unfolding said spoken exchanged heard heard_after listened is_token is_of_command commanded obeyed stated replied reading writing has_block
reset = refl

voltages : says idle (after (0x48 ∷ 0 ∷ 0 ∷ 0xF1 ∷ 0xAA ∷ 0x87 ∷ []) powered) ≡ 255 ∷ 1 ∷ 0 ∷ 0 ∷ 1 ∷ 0xAA ∷ 255 ∷ []
unfolding said spoken exchanged heard heard_after listened is_token is_of_command commanded obeyed stated replied reading writing has_block
voltages = refl

-- command 41 after 55, and without it; command 58, and one that is unknown
started : says idle (after (0x77 ∷ 0 ∷ 0 ∷ 0 ∷ 0 ∷ 1 ∷ 0x69 ∷ 0 ∷ 0 ∷ 0 ∷ 0 ∷ 1 ∷ []) powered) ≡ 255 ∷ 0 ∷ 255 ∷ 255 ∷ 255 ∷ 255 ∷ 255 ∷ []
unfolding said spoken exchanged heard heard_after listened is_token is_of_command commanded obeyed stated replied reading writing has_block
started = refl

unannounced : says idle (after (0x69 ∷ 0 ∷ 0 ∷ 0 ∷ 0 ∷ 1 ∷ []) powered) ≡ 255 ∷ 4 ∷ 255 ∷ 255 ∷ 255 ∷ 255 ∷ 255 ∷ []
unfolding said spoken exchanged heard heard_after listened is_token is_of_command commanded obeyed stated replied reading writing has_block
unannounced = refl

register : says idle (after (0x7A ∷ 0 ∷ 0 ∷ 0 ∷ 0 ∷ 1 ∷ []) powered) ≡ 255 ∷ 0 ∷ 0xC0 ∷ 0xFF ∷ 0 ∷ 0 ∷ 255 ∷ []
unfolding said spoken exchanged heard heard_after listened is_token is_of_command commanded obeyed stated replied reading writing has_block
register = refl

-- a block is read: the status, the token, and its bytes
block_read : says (255 ∷ idle) (after (0x51 ∷ 0 ∷ 0 ∷ 0 ∷ 13 ∷ 1 ∷ []) powered) ≡ 255 ∷ 0 ∷ 255 ∷ 254 ∷ 1 ∷ 2 ∷ 3 ∷ 255 ∷ []
unfolding said spoken exchanged heard heard_after listened is_token is_of_command commanded obeyed stated replied reading writing has_block
block_read = refl

block_wanted : (after (0x51 ∷ 0 ∷ 0 ∷ 0 ∷ 13 ∷ 1 ∷ []) powered).read ≡ Some 13
unfolding said spoken exchanged heard heard_after listened is_token is_of_command commanded obeyed stated replied reading writing has_block
block_wanted = refl

-- the image has no block 9, and no block 14
no_blocks : says idle (after (0x51 ∷ 0 ∷ 0 ∷ 0 ∷ 9 ∷ 1 ∷ []) powered) ++ says idle (after (0x58 ∷ 0 ∷ 0 ∷ 0 ∷ 14 ∷ 1 ∷ []) powered)
    ≡ 255 ∷ 0x40 ∷ 255 ∷ 255 ∷ 255 ∷ 255 ∷ 255 ∷ 255 ∷ 0x40 ∷ 255 ∷ 255 ∷ 255 ∷ 255 ∷ 255 ∷ []
unfolding said spoken exchanged heard heard_after listened is_token is_of_command commanded obeyed stated replied reading writing has_block
no_blocks = refl

-- a block is written: the caller gets its number once all came, and the card says that it took it
block_written : (after (replicate 514 7) (after (0x58 ∷ 0 ∷ 0 ∷ 0 ∷ 12 ∷ 1 ∷ 255 ∷ 254 ∷ []) powered)).write ≡ Some 12
unfolding said spoken exchanged heard heard_after listened is_token is_of_command commanded packed obeyed stated replied reading writing has_block
block_written = refl

block_taken : says idle (after (replicate 514 7) (after (0x58 ∷ 0 ∷ 0 ∷ 0 ∷ 12 ∷ 1 ∷ 255 ∷ 254 ∷ []) powered)) ≡ 5 ∷ 0 ∷ 255 ∷ 255 ∷ 255 ∷ 255 ∷ 255 ∷ []
unfolding said spoken exchanged heard heard_after listened is_token is_of_command commanded packed obeyed stated replied reading writing has_block
block_taken = refl

-- four bytes of a block in one transfer, the first of them the lowest; a card that is not selected
fast : answer_of 5 0xFFFFFFFF (record powered { sending = 0x11 ∷ 0x22 ∷ 0x33 ∷ 0x44 ∷ [] }) ≡ 0x44332211
unfolding answer_of is_selected is_fast served said_in_four exchanges said spoken exchanged heard heard_after listened is_token is_of_command
fast = refl

unselected : answer_of 4 0xFFFFFFFF (record powered { sending = 0x11 ∷ [] }) ≡ 255
unfolding answer_of is_selected is_fast served said_in_four exchanges
unselected = refl
