-- The bytes of a checkpoint, as docs/formats.md defines them.
use Rattle.std.specs.Prelude.{ℕ, zero, suc, List, [], ◌∷◌, ◌++◌, ◌/◌, ◌==◌, if◌then◌else◌, length, replicate, slice_index_or}
use Rattle.recording_texts.specs.Bytes.{length_number, long_bytes, padded, set_numbers, word_bytes, words_bytes}
use Rattle.recording_texts.specs.declared.claim.Claim.{Claim}

-- the page ids of all slots
abbrev pub page_ids : Claim → List ℕ
page_ids claim = set_numbers (replicate 1024 0) claim.table.now

-- the registers, H, the program counter, the flags and the stop
unfoldable pub processor_bytes : Claim → List ℕ
processor_bytes claim =
    words_bytes (set_numbers (replicate 16 0) claim.registers.now)
    ++ words_bytes (claim.h ∷ claim.pc ∷ claim.flags ∷ claim.stop ∷ [])

-- the number of waiting keys, and 16 keys, zeros after the waiting ones
unfoldable pub key_bytes : List ℕ → List ℕ
key_bytes keys = word_bytes (length_number (length keys)) ++ padded keys 16

-- the devices, except the timer's rate and phase
unfoldable pub device_bytes : Claim → List ℕ
device_bytes claim =
    words_bytes (claim.timer ∷ claim.switches ∷ claim.leds ∷ claim.mouse ∷ claim.serial ∷ []) ++ key_bytes claim.keys.now

-- the 132 bytes that begin a checkpoint in each version
unfoldable pub fields_bytes : Claim → List ℕ
fields_bytes claim =
    long_bytes claim.count ++ processor_bytes claim ++ device_bytes claim ++ word_bytes (length_number (length claim.sent.now))

-- a checkpoint of version 1, with its whole table
unfoldable pub first_bytes : Claim → List ℕ
first_bytes claim = fields_bytes claim ++ words_bytes (page_ids claim)

-- a slot with its new page id, if two tables differ there
abbrev pub change_at : List ℕ → List ℕ → ℕ → List ℕ
change_at before after slot =
    if slice_index_or before slot 0 == slice_index_or after slot 0
    then []
    else words_bytes (slot ∷ slice_index_or after slot 0 ∷ [])

-- the changes in the first n slots
unfoldable pub changes_below : List ℕ → List ℕ → ℕ → List ℕ
changes_below before after zero = []
changes_below before after (suc n) = changes_below before after n ++ change_at before after n

-- the disk's answer, in version 3
abbrev pub disk_bytes : ℕ → ℕ → List ℕ
disk_bytes version disk = if version == 3 then word_bytes disk else []

-- a checkpoint of version 2 or 3, after one with this table: the rate, the phase, the changes with their number, and the answer
unfoldable pub later_bytes : ℕ → List ℕ → Claim → List ℕ
later_bytes version before claim =
    let changes : List ℕ = changes_below before (page_ids claim) 1024 in
    fields_bytes claim ++ words_bytes (claim.rate ∷ claim.phase ∷ length changes / 8 ∷ []) ++ changes ++ disk_bytes version claim.disk
