-- What the definitions of a card give in each of their cases.
use Rattle.std.proofs.Common.{◌≡◌, ◌≢◌, ℕ, suc, ◌+◌, ◌-◌, ◌%◌, ◌^◌, ◌<◌, ◌≤◌, true, false, List, [], ◌∷◌, ◌++◌, length, get_or}
use Rattle.std.proofs.Common.{take, drop, set, min, nat_lt, Option, Some, None, ◌∙◌, refl, sym, ap, arith}
use Rattle.std.specs.Prelude.{◌==◌, if◌then◌else◌}
use Rattle.std.proofs.Math.Nat.{min-le_right, min-eq_left}
use Rattle.std.proofs.lemmas.List.{length-take-le, take_all, length-set}
use Rattle.oberon_card.specs.declared.card.Card.{Card}
use Rattle.oberon_card.specs.CardState.{CardState, has_block, card_of, is_set, flagged}
use Rattle.oberon_card.specs.Commands.{replied, stated, reading, writing, obeyed}
use Rattle.oberon_card.specs.Exchange.{said, spoken, argument_of, commanded, packed, is_token}
use Rattle.oberon_card.specs.Exchange.{is_of_command, listened, heard_after, heard}
use Rattle.oberon_card.proofs.ListLemmas.{one_more, beyond}

-- ---- what it says

pub said-reply : (s : CardState) (x : ℕ) (rest : List ℕ) → s.reply ≡ x ∷ rest → said s ≡ x
unfolding said
said-reply s x rest is = ap (λ (l : List ℕ). get_or (l ++ s.sending) 0 255) is

pub spoken-reply : (s : CardState) (x : ℕ) (rest : List ℕ) → s.reply ≡ x ∷ rest → record s { reply = rest } ≡ spoken s
unfolding spoken
spoken-reply s x rest is =
    let long : length s.reply ≡ suc (length rest) = ap length is in
    let some : (length s.reply == 0) ≡ false = grind arith in
    sym (rw some (ap (λ (l : List ℕ). record s { reply = drop 1 l }) is))

pub said-block : (s : CardState) (x : ℕ) (rest : List ℕ) → s.reply ≡ [] → s.sending ≡ x ∷ rest → said s ≡ x
unfolding said
said-block s x rest none is = ap (λ (l : List ℕ). get_or (l ++ s.sending) 0 255) none ∙ ap (λ (l : List ℕ). get_or l 0 255) is

pub spoken-block : (s : CardState) (x : ℕ) (rest : List ℕ) → s.reply ≡ [] → s.sending ≡ x ∷ rest
    → record s { sending = rest } ≡ spoken s
unfolding spoken
spoken-block s x rest none is = sym (rw none (rw is refl))

pub said-idle : (s : CardState) → s.reply ≡ [] → s.sending ≡ [] → said s ≡ 255
unfolding said
said-idle s none no_block = ap (λ (l : List ℕ). get_or (l ++ s.sending) 0 255) none ∙ ap (λ (l : List ℕ). get_or l 0 255) no_block

pub spoken-idle : (s : CardState) → s.reply ≡ [] → s.sending ≡ [] → s ≡ spoken s
unfolding spoken
spoken-idle s none no_block = sym (rw none (rw no_block refl))

-- ---- what it does with a command

pub reading-block : (number : ℕ) (s : CardState) → has_block number s ≡ true
    → record (replied (255 ∷ 0 ∷ 255 ∷ 254 ∷ []) s) { sending = s.block; read = Some number } ≡ reading number s
unfolding reading
reading-block number s has = sym (rw has refl)

pub reading-none : (number : ℕ) (s : CardState) → has_block number s ≡ false → stated 0x40 s ≡ reading number s
unfolding reading
reading-none number s has = sym (rw has refl)

pub writing-block : (number : ℕ) (s : CardState) → has_block number s ≡ true
    → record (stated 0 s) { awaited = true; target = number } ≡ writing number s
unfolding writing
writing-block number s has = sym (rw has refl)

pub writing-none : (number : ℕ) (s : CardState) → has_block number s ≡ false → stated 0x40 s ≡ writing number s
unfolding writing
writing-none number s has = sym (rw has refl)

pub obeyed-unknown : (n argument : ℕ) (s : CardState)
    → n ≢ 0 → n ≢ 8 → n ≢ 16 → n ≢ 17 → n ≢ 24 → n ≢ 41 → n ≢ 55 → n ≢ 58 → stated 4 s ≡ obeyed n argument s
unfolding obeyed
obeyed-unknown n argument s a b c d e f g h =
    let is_0 : (n == 0) ≡ false = grind (arith, a) in
    let is_8 : (n == 8) ≡ false = grind (arith, b) in
    let is_16 : (n == 16) ≡ false = grind (arith, c) in
    let is_17 : (n == 17) ≡ false = grind (arith, d) in
    let is_24 : (n == 24) ≡ false = grind (arith, e) in
    let is_41 : (n == 41) ≡ false = grind (arith, f) in
    let is_55 : (n == 55) ≡ false = grind (arith, g) in
    let is_58 : (n == 58) ≡ false = grind (arith, h) in
    sym (rw is_0 (rw is_8 (rw is_16 (rw is_17 (rw is_24 (rw is_41 (rw is_55 (rw is_58 refl))))))))

-- what came of the command before is dropped
pub obeyed-command : (number argument : ℕ) (bytes : List ℕ) (s : CardState)
    → obeyed number argument (record s { command = bytes }) ≡ obeyed number argument s
unfolding obeyed reading writing stated replied has_block
obeyed-command number argument bytes s = refl

-- ---- what it does with a byte

pub commanded-few : (bytes : List ℕ) (s : CardState) → length bytes < 6 → record s { command = bytes } ≡ commanded bytes s
unfolding commanded
commanded-few bytes s few =
    let not_six : (length bytes == 6) ≡ false = grind arith in
    sym (rw not_six refl)

pub commanded-whole : (bytes : List ℕ) (s : CardState) → length bytes ≡ 6
    → obeyed (get_or bytes 0 0 % 2 ^ 6) (argument_of bytes) s ≡ commanded bytes s
unfolding commanded
commanded-whole bytes s whole =
    let six : (length bytes == 6) ≡ true = grind arith in
    sym (rw six refl)

pub packed-few : (bytes : List ℕ) (s : CardState) → length bytes < 514 → record s { packet = Some bytes } ≡ packed bytes s
unfolding packed
packed-few bytes s few =
    let not_all : (length bytes == 514) ≡ false = grind arith in
    sym (rw not_all refl)

pub packed-whole : (bytes : List ℕ) (s : CardState) → length bytes ≡ 514
    → record s { packet = None; block = take 512 bytes; reply = 5 ∷ 0 ∷ []; sending = []; write = Some s.target } ≡ packed bytes s
unfolding packed
packed-whole bytes s whole =
    let all : (length bytes == 514) ≡ true = grind arith in
    sym (rw all refl)

pub packed-packet : (bytes : List ℕ) (p : Option (List ℕ)) (s : CardState) → packed bytes (record s { packet = p }) ≡ packed bytes s
unfolding packed
packed-packet bytes p s = refl

pub heard-packet : (bytes : List ℕ) (byte : ℕ) (s : CardState) → s.packet ≡ Some bytes
    → packed (bytes ++ byte ∷ []) s ≡ heard byte s
unfolding heard heard_after
heard-packet bytes byte s is = sym (ap (λ p. heard_after p byte s) is)

pub heard-token : (byte : ℕ) (s : CardState) → s.packet ≡ None → is_token byte s ≡ true
    → record s { awaited = false; packet = Some [] } ≡ heard byte s
unfolding heard heard_after listened
heard-token byte s none token = sym (ap (λ p. heard_after p byte s) none ∙ rw token refl)

pub heard-command : (byte : ℕ) (s : CardState) → s.packet ≡ None → is_token byte s ≡ false → is_of_command byte s ≡ true
    → commanded (s.command ++ byte ∷ []) s ≡ heard byte s
unfolding heard heard_after listened
heard-command byte s none token command = sym (ap (λ p. heard_after p byte s) none ∙ rw token (rw command refl))

pub heard-nothing : (byte : ℕ) (s : CardState) → s.packet ≡ None → is_token byte s ≡ false → is_of_command byte s ≡ false
    → s ≡ heard byte s
unfolding heard heard_after listened
heard-nothing byte s none token command = sym (ap (λ p. heard_after p byte s) none ∙ rw token (rw command refl))

-- ---- the fields

pub flagged-set : (flag number : ℕ) → flag ≢ 0 → flagged flag number ≡ Some number
flagged-set flag number is =
    let set : (flag == 0) ≡ false = grind (arith, is) in
    rw set refl

pub flagged-clear : (flag number : ℕ) → flag ≡ 0 → flagged flag number ≡ None
flagged-clear flag number is = rw is refl

pub a_packet : (c : Card) → 0 < c.packet_left → (card_of c).packet ≡ Some (take (514 - c.packet_left) c.packet)
a_packet c some =
    let more : (c.packet_left == 0) ≡ false = grind arith in
    rw more refl

pub no_packet : (c : Card) → c.packet_left ≤ 0 → (card_of c).packet ≡ None
no_packet c none =
    let no_more : (c.packet_left == 0) ≡ true = grind arith in
    rw no_more refl

-- bytes of a command came, or none
some_came : (count : ℕ) → nat_lt 0 (min count 5) ≡ nat_lt 0 count
some_came count = grind arith

pub came : (c : Card) → length c.command ≡ 6 → nat_lt 0 (length (card_of c).command) ≡ nat_lt 0 c.command_count
came c whole =
    let inside : min c.command_count 5 ≤ length c.command = omega (arith, min-le_right c.command_count 5, whole) in
    rw (length-take-le (min c.command_count 5) c.command inside) (some_came c.command_count)

-- a command with a byte more: the bytes that came, and the byte
bytes_so_far : (c : Card) (byte count : ℕ) → length c.command ≡ 6 → count ≡ min c.command_count 5
    → take (count + 1) (set c.command count byte) ≡ take (min c.command_count 5) c.command ++ byte ∷ []
bytes_so_far c byte count whole is =
    let inside : count < length c.command = grind (arith, min-le_right c.command_count 5) in
    sym (ap (λ n. take n c.command ++ byte ∷ []) (sym is) ∙ one_more count c.command byte inside)

pub grown : (c : Card) (byte count : ℕ) → length c.command ≡ 6 → count ≡ min c.command_count 5 → count < 5
    → record (card_of c) { command = take (min (count + 1) 5) (set c.command count byte) }
    ≡ commanded (take (min c.command_count 5) c.command ++ byte ∷ []) (card_of c)
grown c byte count whole is few =
    let same : min (count + 1) 5 ≡ count + 1 = min-eq_left (omega arith) in
    let bytes : take (min (count + 1) 5) (set c.command count byte) ≡ take (min c.command_count 5) c.command ++ byte ∷ [] =
    ap (λ n. take n (set c.command count byte)) same ∙ bytes_so_far c byte count whole is in
    let long : length (take (count + 1) (set c.command count byte)) ≡ count + 1 =
    length-take-le (count + 1) (set c.command count byte) (omega (arith, length-set c.command count byte)) in
    let six : length (take (min c.command_count 5) c.command ++ byte ∷ []) < 6 = rw (← bytes_so_far c byte count whole is) (omega arith) in
    ap (λ (l : List ℕ). record (card_of c) { command = l }) bytes ∙ commanded-few _ (card_of c) six

pub obeyed_whole : (c : Card) (byte count : ℕ) → length c.command ≡ 6 → count ≡ min c.command_count 5 → 5 ≤ count
    → obeyed (get_or (set c.command count byte) 0 0 % 2 ^ 6) (argument_of (set c.command count byte))
    (record (card_of c) { command = take (min c.command_count 5) (set c.command count byte) })
    ≡ commanded (take (min c.command_count 5) c.command ++ byte ∷ []) (card_of c)
obeyed_whole c byte count whole is most =
    let five : count ≡ 5 = grind (arith, min-le_right c.command_count 5) in
    let bytes : List ℕ = set c.command count byte in
    let long : length (set c.command count byte) ≡ 6 = length-set c.command count byte ∙ whole in
    let all : take (count + 1) (set c.command count byte) ≡ set c.command count byte = take_all (count + 1) (set c.command count byte) (omega arith) in
    let are : set c.command count byte ≡ take (min c.command_count 5) c.command ++ byte ∷ [] = sym all ∙ bytes_so_far c byte count whole is in
    obeyed-command (get_or bytes 0 0 % 2 ^ 6) (argument_of bytes) (take (min c.command_count 5) bytes) (card_of c)
    ∙ commanded-whole bytes (card_of c) long
    ∙ ap (λ (l : List ℕ). commanded l (card_of c)) are

-- a block with a byte more
packet_so_far : (c : Card) (byte left : ℕ) → length c.packet ≡ 514 → left ≡ min c.packet_left 514 → 0 < left
    → take (514 - left + 1) (set c.packet (514 - left) byte) ≡ take (514 - c.packet_left) c.packet ++ byte ∷ []
packet_so_far c byte left whole is some =
    let inside : 514 - left < length c.packet = omega arith in
    let at : 514 - left ≡ 514 - c.packet_left = grind (arith, beyond 514 c.packet_left) in
    sym (one_more (514 - left) c.packet byte inside) ∙ ap (λ n. take n c.packet ++ byte ∷ []) at

some_of : (left n : ℕ) → n ≡ min left 514 → 0 < left → 0 < n
some_of left n is some = grind arith

pub packet_grown : (c : Card) (byte left : ℕ) → length c.packet ≡ 514 → left ≡ min c.packet_left 514 → 0 < c.packet_left → left ≢ 1
    → record (card_of c) { packet = if is_set (left - 1) then Some (take (514 - (left - 1)) (set c.packet (514 - left) byte)) else None }
    ≡ packed (take (514 - c.packet_left) c.packet ++ byte ∷ []) (card_of c)
packet_grown c byte left whole is some other =
    let most : left ≤ 514 = grind (arith, min-le_right c.packet_left 514) in
    let positive : 0 < left = some_of c.packet_left left is some in
    let more : (left - 1 == 0) ≡ false = grind (arith, other) in
    let next : 514 - (left - 1) ≡ 514 - left + 1 = omega arith in
    let so_far : take (514 - left + 1) (set c.packet (514 - left) byte) ≡ take (514 - c.packet_left) c.packet ++ byte ∷ [] =
    packet_so_far c byte left whole is positive in
    let long : length (take (514 - left + 1) (set c.packet (514 - left) byte)) ≡ 514 - left + 1 =
    length-take-le (514 - left + 1) (set c.packet (514 - left) byte) (omega (arith, length-set c.packet (514 - left) byte)) in
    let below : 514 - left + 1 < 514 = grind (arith, other) in
    let few : length (take (514 - c.packet_left) c.packet ++ byte ∷ []) < 514 = rw (← so_far) (rw long below) in
    rw more (ap (λ (l : List ℕ). record (card_of c) { packet = Some l }) (ap (λ n. take n (set c.packet (514 - left) byte)) next ∙ so_far) ∙ packed-few _ (card_of c) few)

pub packet_whole : (c : Card) (byte left : ℕ) → length c.packet ≡ 514 → left ≡ min c.packet_left 514 → 0 < c.packet_left → left ≡ 1
    → (p : Option (List ℕ))
    → packed (set c.packet (514 - left) byte) (record (card_of c) { packet = p })
    ≡ packed (take (514 - c.packet_left) c.packet ++ byte ∷ []) (card_of c)
packet_whole c byte left whole is some last p =
    let positive : 0 < left = omega arith in
    let long : length (set c.packet (514 - left) byte) ≡ 514 = length-set c.packet (514 - left) byte ∙ whole in
    let all : take (514 - left + 1) (set c.packet (514 - left) byte) ≡ set c.packet (514 - left) byte = take_all (514 - left + 1) (set c.packet (514 - left) byte) (omega arith) in
    packed-packet (set c.packet (514 - left) byte) p (card_of c)
    ∙ ap (λ (l : List ℕ). packed l (card_of c)) (sym all ∙ packet_so_far c byte left whole is positive)
