-- The state of an SD card, and the fields that hold it (this project's own choice).
use Rattle.std.specs.Prelude.{ℕ, ◌-◌, ◌+◌, Bool, not, ◌==◌, ◌&&◌, nat_le, nat_lt, min, if◌then◌else◌}
use Rattle.std.specs.Prelude.{List, take, drop, Option, Some, None}
use Rattle.oberon_card.specs.declared.card.Card.{Card}

-- a card over an image. `first` is the number of the image's first block, and `blocks` is how many it has. `command` has the
-- bytes of a command that came so far, and `application` says whether command 55 came just before. The card is going to say the
-- bytes of `reply`, then those of `sending`, what is left of a block that is read. `awaited` says that a command to write the
-- block `target` came, and that the token before its bytes did not; `packet` has the bytes of a block and of its checksum that
-- came so far, once the token came. `block` is what the card and its caller exchange: `write` names a block of the image that the
-- caller is to write from it, and `read` one that the caller is to read into it, in this order, before the next transfer
pub record CardState : Type 0 where
  pub first : ℕ
  pub blocks : ℕ
  pub command : List ℕ
  pub application : Bool
  pub reply : List ℕ
  pub sending : List ℕ
  pub awaited : Bool
  pub target : ℕ
  pub packet : Option (List ℕ)
  pub block : List ℕ
  pub write : Option ℕ
  pub read : Option ℕ

-- the image has a block of this number
unfoldable pub has_block : ℕ → CardState → Bool
has_block number s = nat_le s.first number && nat_lt number (s.first + s.blocks)

-- a flag is set by any number but 0
abbrev pub is_set : ℕ → Bool
is_set flag = not (flag == 0)

-- a number that a flag says is there
abbrev pub flagged : ℕ → ℕ → Option ℕ
flagged flag number = if is_set flag then Some number else None

-- the state that the fields hold, whatever their numbers. What is left of a reply, of a block that is read and of a block that is
-- written is at the end of its field, and a number of bytes above the length of the field means all of it; of a command at most
-- five bytes came
abbrev pub card_of : Card → CardState
card_of c = record {
  first = c.first;
  blocks = c.blocks;
  command = take (min c.command_count 5) c.command;
  application = is_set c.application;
  reply = drop (6 - c.reply_left) c.reply;
  sending = drop (512 - c.block_left) c.block;
  awaited = is_set c.awaited;
  target = c.target;
  packet = if is_set c.packet_left then Some (take (514 - c.packet_left) c.packet) else None;
  block = c.block;
  write = flagged c.write_wanted c.write_number;
  read = flagged c.read_wanted c.read_number;
}
