-- What a card says to a caller that only listens, and that it says a block that is read.
use Rattle.std.proofs.Common.{◌≡◌, ℕ, suc, ◌/◌, ◌%◌, ◌^◌, ◌<◌, true, false, List, [], ◌∷◌, ◌++◌, ◌||◌, nat_lt}
use Rattle.std.proofs.Common.{length, get_or, drop, replicate, Some, None, ◌∙◌, refl, sym, ap, ap₂, subst, arith}
use Rattle.std.specs.Prelude.{◌==◌}
use Rattle.oberon_card.specs.CardState.{CardState, has_block}
use Rattle.oberon_card.specs.Commands.{replied, reading, obeyed}
use Rattle.oberon_card.specs.Exchange.{said, spoken, argument_of, commanded, is_token, is_of_command, heard, exchanged}
use Rattle.oberon_card.specs.Laws.{after_all, says, IsReady, ReadLaw, read_command, number_of}
use Rattle.oberon_card.proofs.CardLemmas.{spoken-reply, heard-nothing, heard-command, commanded-few, commanded-whole, reading-block}

-- a byte was said: nothing else changed, and the rest is still to be said
record Says (s t : CardState) : Type 0 where
  is : t ≡ record s { reply = t.reply; sending = t.sending }
  rest : t.reply ++ t.sending ≡ drop 1 (s.reply ++ s.sending)

spoken-no_reply : (s : CardState) → s.reply ≡ [] → record s { sending = drop 1 s.sending } ≡ spoken s
unfolding spoken
spoken-no_reply s is =
    let long : length s.reply ≡ 0 = ap length is in
    let none : (length s.reply == 0) ≡ true = grind arith in
    sym (rw none refl)

says_next : (s : CardState) (reply : List ℕ) → s.reply ≡ reply → Says s (spoken s)
says_next s [] is = subst (λ t. Says s t) (spoken-no_reply s is) (record { is = refl; rest = rw is refl })
says_next s (x ∷ r) is = subst (λ t. Says s t) (spoken-reply s x r is) (record { is = refl; rest = rw is refl })

-- ---- a caller that only listens

ready_spoken : (s : CardState) → IsReady s → IsReady (spoken s)
ready_spoken s ready =
    let same : spoken s ≡ record s { reply = (spoken s).reply; sending = (spoken s).sending } = (says_next s s.reply refl).is in
    record {
      command = ap (λ t. t.command) same ∙ ready.command;
      awaited = ap (λ t. t.awaited) same ∙ ready.awaited;
      packet = ap (λ t. t.packet) same ∙ ready.packet;
    }

no_token : (byte : ℕ) (s : CardState) → s.awaited ≡ false → is_token byte s ≡ false
unfolding is_token
no_token byte s is = rw is refl

no_command : (s : CardState) → s.command ≡ [] → is_of_command 255 s ≡ false
unfolding is_of_command
no_command s is = rw is refl

idle_exchange : (s : CardState) → IsReady s → exchanged 255 s ≡ spoken s
unfolding exchanged
idle_exchange s ready =
    let next : IsReady (spoken s) = ready_spoken s ready in
    sym (heard-nothing 255 (spoken s) next.packet (no_token 255 (spoken s) next.awaited) (no_command (spoken s) next.command))

said_first : (s : CardState) (b : ℕ) (bs : List ℕ) → s.reply ++ s.sending ≡ b ∷ bs → said s ≡ b
unfolding said
said_first s b bs is = ap (λ (l : List ℕ). get_or l 0 255) is

says_all : (rest : List ℕ) (s : CardState) → IsReady s → s.reply ++ s.sending ≡ rest → says (replicate (length rest) 255) s ≡ rest
unfolding says
says_all [] s ready is = refl
says_all (b ∷ bs) s ready is =
    let left : (spoken s).reply ++ (spoken s).sending ≡ bs = (says_next s s.reply refl).rest ∙ ap (λ (l : List ℕ). drop 1 l) is in
    let tail : says (replicate (length bs) 255) (spoken s) ≡ bs = says_all bs (spoken s) (ready_spoken s ready) left in
    let next : says (replicate (length bs) 255) (exchanged 255 s) ≡ bs = ap (says (replicate (length bs) 255)) (idle_exchange s ready) ∙ tail in
    ap₂ (λ (x : ℕ) (l : List ℕ). x ∷ l) (said_first s b bs is) next

-- ---- a command comes

-- a card of which a part of a command has come
Stage : CardState → List ℕ → CardState → Type 0
Stage s bytes t = t ≡ record s { command = bytes; reply = t.reply; sending = t.sending }

stage_spoken : (s u : CardState) (bytes : List ℕ) → Stage s bytes u → Stage s bytes (spoken u)
unfolding Stage
stage_spoken s u bytes is =
    (says_next u u.reply refl).is ∙ ap (λ (v : CardState). record v { reply = (spoken u).reply; sending = (spoken u).sending }) is

command_step : (s u : CardState) (bytes : List ℕ) (byte : ℕ) → s.packet ≡ None → s.awaited ≡ false → Stage s bytes u
    → (nat_lt 0 (length bytes) || (byte / 2 ^ 6 == 1)) ≡ true → commanded (bytes ++ byte ∷ []) (spoken u) ≡ exchanged byte u
unfolding Stage is_of_command exchanged
command_step s u bytes byte packet awaited stage of_command =
    let is : spoken u ≡ record s { command = bytes; reply = (spoken u).reply; sending = (spoken u).sending } = stage_spoken s u bytes stage in
    let none : (spoken u).packet ≡ None = ap (λ v. v.packet) is ∙ packet in
    let no : (spoken u).awaited ≡ false = ap (λ v. v.awaited) is ∙ awaited in
    let came : (spoken u).command ≡ bytes = ap (λ v. v.command) is in
    let one : is_of_command byte (spoken u) ≡ true = rw came of_command in
    ap (λ (l : List ℕ). commanded (l ++ byte ∷ []) (spoken u)) (sym came) ∙ heard-command byte (spoken u) none (no_token byte (spoken u) no) one

stage_grown : (s u : CardState) (bytes : List ℕ) (byte : ℕ) → s.packet ≡ None → s.awaited ≡ false → Stage s bytes u
    → (nat_lt 0 (length bytes) || (byte / 2 ^ 6 == 1)) ≡ true → length (bytes ++ byte ∷ []) < 6 → Stage s (bytes ++ byte ∷ []) (exchanged byte u)
unfolding Stage
stage_grown s u bytes byte packet awaited stage of_command few =
    let is : spoken u ≡ record s { command = bytes; reply = (spoken u).reply; sending = (spoken u).sending } = stage_spoken s u bytes stage in
    let grown : record (spoken u) { command = bytes ++ byte ∷ [] } ≡ exchanged byte u =
    commanded-few (bytes ++ byte ∷ []) (spoken u) few ∙ command_step s u bytes byte packet awaited stage of_command in
    subst (λ t. Stage s (bytes ++ byte ∷ []) t) grown (ap (λ (v : CardState). record v { command = bytes ++ byte ∷ []; reply = (spoken u).reply; sending = (spoken u).sending }) is)

-- the card after a command to read a block that the image has
asked : CardState → ℕ → CardState
asked s number = record s {
  command = [];
  application = false;
  reply = 255 ∷ 0 ∷ 255 ∷ 254 ∷ [];
  sending = s.block;
  read = Some number;
}

read_obeyed : (s u : CardState) (a b c d checksum : ℕ) → s.packet ≡ None → s.awaited ≡ false → has_block (number_of a b c d) s ≡ true
    → Stage s (0x51 ∷ a ∷ b ∷ c ∷ d ∷ []) u → asked s (number_of a b c d) ≡ exchanged checksum u
unfolding Stage asked replied obeyed has_block
read_obeyed s u a b c d checksum packet awaited has stage =
    let bytes : List ℕ = 0x51 ∷ a ∷ b ∷ c ∷ d ∷ checksum ∷ [] in
    let number : ℕ = number_of a b c d in
    let v : CardState = spoken u in
    let is : spoken u ≡ record s { command = 0x51 ∷ a ∷ b ∷ c ∷ d ∷ []; reply = (spoken u).reply; sending = (spoken u).sending } =
    stage_spoken s u (0x51 ∷ a ∷ b ∷ c ∷ d ∷ []) stage in
    let has_it : has_block (number_of a b c d) (spoken u) ≡ true = ap (has_block (number_of a b c d)) is ∙ has in
    sym (ap (λ t. record (replied (255 ∷ 0 ∷ 255 ∷ 254 ∷ []) t) { sending = t.block; read = Some (number_of a b c d) }) is)
    ∙ reading-block (number_of a b c d) (spoken u) has_it
    ∙ commanded-whole (0x51 ∷ a ∷ b ∷ c ∷ d ∷ checksum ∷ []) (spoken u) refl
    ∙ command_step s u (0x51 ∷ a ∷ b ∷ c ∷ d ∷ []) checksum packet awaited stage refl

pub read_law-holds : (s : CardState) (a b c d checksum : ℕ) → IsReady s → has_block (number_of a b c d) s ≡ true → ReadLaw s a b c d checksum
unfolding after_all Stage asked
read_law-holds s a b c d checksum ready has =
    let packet : s.packet ≡ None = ready.packet in
    let awaited : s.awaited ≡ false = ready.awaited in
    let none : Stage s [] s = ap (λ (l : List ℕ). record s { command = l }) ready.command in
    let one : Stage s (0x51 ∷ []) (exchanged 0x51 s) = stage_grown s s [] 0x51 packet awaited none refl (omega arith) in
    let two : Stage s (0x51 ∷ a ∷ []) (exchanged a (exchanged 0x51 s)) = stage_grown s _ (0x51 ∷ []) a packet awaited one refl (omega arith) in
    let three : Stage s (0x51 ∷ a ∷ b ∷ []) (exchanged b (exchanged a (exchanged 0x51 s))) = stage_grown s _ (0x51 ∷ a ∷ []) b packet awaited two refl (omega arith) in
    let four : Stage s (0x51 ∷ a ∷ b ∷ c ∷ []) (exchanged c (exchanged b (exchanged a (exchanged 0x51 s)))) = stage_grown s _ (0x51 ∷ a ∷ b ∷ []) c packet awaited three refl (omega arith) in
    let five : Stage s (0x51 ∷ a ∷ b ∷ c ∷ d ∷ []) (exchanged d (exchanged c (exchanged b (exchanged a (exchanged 0x51 s))))) = stage_grown s _ (0x51 ∷ a ∷ b ∷ c ∷ []) d packet awaited four refl (omega arith) in
    let is : asked s (number_of a b c d) ≡ exchanged checksum (exchanged d (exchanged c (exchanged b (exchanged a (exchanged 0x51 s))))) =
    read_obeyed s _ a b c d checksum packet awaited has five in
    let all : says (replicate (length (255 ∷ 0 ∷ 255 ∷ 254 ∷ s.block)) 255) (asked s (number_of a b c d)) ≡ 255 ∷ 0 ∷ 255 ∷ 254 ∷ s.block =
    says_all (255 ∷ 0 ∷ 255 ∷ 254 ∷ s.block) (asked s (number_of a b c d)) (record { command = refl; awaited = awaited; packet = packet }) refl in
    record {
      asks = sym (ap (λ t. t.read) is);
      says_block = subst (λ t. says (replicate (length (255 ∷ 0 ∷ 255 ∷ 254 ∷ s.block)) 255) t ≡ 255 ∷ 0 ∷ 255 ∷ 254 ∷ s.block) is all;
    }
