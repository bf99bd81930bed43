-- Worked examples of the definitions: each computes to the value that the format asks for.
use Rattle.oberon_format.proofs.Common.{[], are_keys, Change, change_bytes, change_offset, change_rules, changes_below, checkpoint_fields, checkpoint_rules, checkpoint_len, CheckpointParts, common_bytes, COMMON_LEN, PC_AT, each, end_rules, event_start, false, fault_of_parts_with_disk, Fields, fields_in, first_broken, first_fault_with_disk, header_bytes, is_count, is_event, is_output, is_phase, length, List, long_at, long_bytes, LONGEST_WITH_DISK, MAGIC, map, no_checkpoint, None, page_id_after, page_id_before, page_id_offset, page_id_rules, refl, replicate, slice_index, Some, start, start_in, suc, take, total, true, VERSION_WITH_DISK, word_at, word_bytes, words_bytes, zero, zero_numbers, ℕ, ◌*◌, ◌++◌, ◌+◌, ◌^◌, ◌∷◌, ◌≡◌, EventFields}
use Rattle.oberon_format.specs.Rules.{rules}
use Rattle.risc_devices.specs.Input as input
use Rattle.oberon_format.specs.declared.fault.Fault.TheVariants as fault

-- rows of a table: what a function is asked, and what it answers
abbrev Answers : {A B : Type 0} → (A → B) → List (A × B) → Type 0
Answers f rows = map (λ row. f row.0) rows ≡ map (λ row. row.1) rows

-- the bytes of a header whose magic is right
abbrev header : ℕ → ℕ → ℕ → ℕ → ℕ → List ℕ
header version pages events checkpoints last = words_bytes (MAGIC ∷ version ∷ pages ∷ events ∷ checkpoints ∷ last ∷ [])

-- first faults of headers: nothing, zeros, version 9, 65,537 pages, 1,000,001 events, no checkpoint, another last number, and a
-- header alone
faults-of-headers : Answers first_fault_with_disk (
    ([], Some (fault.Short 0))
    ∷ (replicate 24 0, Some (fault.Magic 0))
    ∷ (header 9 0 0 1 0, Some (fault.Version 4))
    ∷ (header 1 65537 0 1 0, Some (fault.Limit 8))
    ∷ (header 1 0 1000001 1 0, Some (fault.Limit 12))
    ∷ (header 1 0 0 0 0, Some (fault.Limit 16))
    ∷ (header 1 0 0 1 1, Some (fault.Limit 20))
    ∷ (header 1 0 0 1 0, Some (fault.Short 24))
    ∷ (header 2 0 0 1 0, Some (fault.Short 24)) ∷ [])
unfolding rules word_at start each total checkpoint_rules word_bytes
faults-of-headers = refl

-- in version 1 one checkpoint and nothing else take 4,252 bytes: they are cut, or the checkpoint is at count 1
faults-of-version-one : Answers (λ body. first_fault_with_disk (header 1 0 0 1 0 ++ body)) (
    (replicate 4227 0, Some (fault.Short 4251)) ∷ (1 ∷ replicate 4227 0, Some (fault.Checkpoint 24)) ∷ [])
unfolding rules word_at long_at start each total checkpoint_rules word_bytes
faults-of-version-one = refl

-- in version 2 they take 168 if no slot of the table is changed: they are cut, whole, or followed by a byte
faults-of-version-two : Answers (λ n. first_fault_with_disk (header 2 0 0 1 0 ++ replicate n 0)) ((143, Some (fault.Short 167)) ∷ (144, None) ∷ (145, Some (fault.Trailing 168)) ∷ [])
unfolding rules word_at long_at start each total checkpoint_rules is_phase input.is_mouse word_bytes
faults-of-version-two = refl

-- a checkpoint of version 2 with this rate and phase, this number of changes, and the words of these changes, in a file without
-- pages
abbrev with_changes : List ℕ → List ℕ
with_changes words = header 2 0 0 1 0 ++ replicate 132 0 ++ words_bytes words

-- a phase at its rate, and one below it; 1,025 changes, and one that is cut; slot 0 is changed to page id 0, which was there, and
-- to page id 1, which has no page
faults-of-changes : Answers (λ words. first_fault_with_disk (with_changes words)) (
    (10 ∷ 10 ∷ 0 ∷ [], Some (fault.Checkpoint 24))
    ∷ (10 ∷ 1 ∷ 0 ∷ [], None)
    ∷ (0 ∷ 0 ∷ 1025 ∷ [], Some (fault.Checkpoint 24))
    ∷ (0 ∷ 0 ∷ 1 ∷ 0 ∷ [], Some (fault.Short 172))
    ∷ (0 ∷ 0 ∷ 1 ∷ 0 ∷ 0 ∷ [], Some (fault.Page 168))
    ∷ (0 ∷ 0 ∷ 1 ∷ 0 ∷ 1 ∷ [], Some (fault.Page 168)) ∷ [])
unfolding rules word_at long_at start each total checkpoint_rules is_phase input.is_mouse word_bytes
faults-of-changes = refl

-- the fields of a file of version 1 of a checkpoint and no more, of this length
abbrev of_length : ℕ → Fields
of_length n = record (fields_in 1 (record { pool = []; inputs = []; checkpoints = no_checkpoint ∷ [] })) { long = n }

-- whole, and with a byte after the end
ends-of-files : Answers (λ n. first_broken (end_rules (of_length n))) ((4252, None) ∷ (4253, Some (fault.Trailing 4252)) ∷ [])
unfolding total start_in
ends-of-files = refl

-- page ids over a pool of one page: the second slot names page 2
unknown-page : first_broken (each 3 (page_id_rules 1 5276 (slice_index (1 ∷ 2 ∷ 0 ∷ [])))) ≡ Some (fault.Page 5412)
unfolding each
unknown-page = refl

-- the page ids after a checkpoint of version 2 that changes slot 3 to page 7
numbers-after-a-checkpoint : Answers (page_id_before (with_changes (0 ∷ 0 ∷ 1 ∷ 3 ∷ 7 ∷ [])) 1) ((3, 7) ∷ (4, 0) ∷ [])
unfolding page_id_before page_id_after start word_at word_bytes
numbers-after-a-checkpoint = refl

-- the page ids before: slots 3 and 4 have pages 0 and 1
abbrev had : ℕ → ℕ
had = slice_index (0 ∷ 0 ∷ 0 ∷ 0 ∷ 1 ∷ [])

-- a change of the first slot to the first page id, and then one of the second to the second
abbrev two_of : ℕ → ℕ → ℕ → ℕ → ℕ → Change
two_of p m q n zero = record { slot = p; page_id = m }
two_of p m q n (suc i) = record { slot = q; page_id = n }

-- over a pool of one page: lawful ones, slot 3 after slot 4, slot 3 twice, a slot that no table has, a page that is not there, and
-- the page that was there
rules-of-changes : Answers (λ (change : ℕ → Change). first_broken (each 2 (change_rules 1 1048 had change))) (
    (two_of 3 1 4 0, None)
    ∷ (two_of 4 0 3 1, Some (fault.Page 1200))
    ∷ (two_of 3 1 3 1, Some (fault.Page 1200))
    ∷ (two_of 1024 1 0 0, Some (fault.Page 1192))
    ∷ (two_of 3 2 0 0, Some (fault.Page 1192))
    ∷ (two_of 4 1 0 0, Some (fault.Page 1192)) ∷ [])
unfolding each
rules-of-changes = refl

-- the page ids after the lawful ones
numbers-after-changes : Answers (page_id_after (two_of 3 1 4 0) had 2) ((3, 1) ∷ (5, 0) ∷ [])
unfolding page_id_after
numbers-after-changes = refl

-- and the changes between two tables, up to slot 2
changes-between : changes_below 3 (5 ∷ 6 ∷ 7 ∷ 8 ∷ []) (5 ∷ 9 ∷ 0 ∷ 1 ∷ []) ≡ record { slot = 1; page_id = 9 } ∷ record { slot = 2; page_id = 0 } ∷ []
unfolding changes_below
changes-between = refl

-- parts without a checkpoint, and with a first one at count 7
faults-of-parts : Answers (λ checkpoints. fault_of_parts_with_disk (record { pool = []; inputs = []; checkpoints = checkpoints })) (
    ([], Some (fault.Limit 16)) ∷ (record no_checkpoint { count = 7; table = replicate 1024 0 } ∷ [], Some (fault.Checkpoint 24)) ∷ [])
unfolding rules start_in each total checkpoint_rules changes_below zero_numbers is_phase
faults-of-parts = refl

-- counts: the first is 0, they rise, and end at 2^40
counts : Answers (λ (x : ℕ × ℕ × ℕ). is_count x.0 x.1 x.2) (((0, 0, 1), false) ∷ ((1, 10, 10), false) ∷ ((1, 10, 2 ^ 40), true) ∷ ((1, 10, 2 ^ 40 + 1), false) ∷ [])
counts = refl

-- output: checkpoint 0 has none, and 1,048,576 bytes in all is the most
outputs : Answers (λ (x : ℕ × ℕ × ℕ). is_output x.0 x.1 x.2) (((0, 0, 1), false) ∷ ((2, 1048575, 1), true) ∷ ((2, 1048575, 2), false) ∷ [])
outputs = refl

-- events after one at 5: at the same count, at a lower one, with switches that are too high, of a kind that there is not, and of the
-- disk, which version 3 alone has
events : Answers (λ (x : ℕ × EventFields). is_event x.0 5 x.1) (
    ((1, record { count = 5; kind = 1; value = 0xFFFFFFFF }), true)
    ∷ ((1, record { count = 4; kind = 1; value = 0 }), false)
    ∷ ((2, record { count = 5; kind = 2; value = 4096 }), false)
    ∷ ((3, record { count = 5; kind = 7; value = 0 }), false)
    ∷ ((1, record { count = 5; kind = 6; value = 0 }), false)
    ∷ ((2, record { count = 5; kind = 6; value = 0 }), false)
    ∷ ((3, record { count = 5; kind = 6; value = 0xFFFFFFFF }), true) ∷ [])
unfolding input.is_input_with_disk input.is_input
events = refl

sixteen-keys : are_keys (record (checkpoint_fields 1 [] no_checkpoint) { waiting = 16; keys = replicate 16 1 }) ≡ true
sixteen-keys = refl

-- offsets of fields: the second checkpoint of version 1 after one page, its first page id, that of version 2 after three changes,
-- its second change, and the length of the longest file
offsets : Answers (λ (x : ℕ). x) (
    (event_start 1 0 + checkpoint_len 1 0, 5276)
    ∷ (page_id_offset 5276 0, 5408)
    ∷ (event_start 1 0 + checkpoint_len 2 3, 1216)
    ∷ (change_offset 1048 1, 1200)
    ∷ (event_start 1 0 + checkpoint_len 3 3, 1220)
    ∷ (event_start 65536 4000000 + checkpoint_len 3 1024 * 4097 + 1048576, LONGEST_WITH_DISK) ∷ [])
offsets = refl

-- the bytes of a number, of a count, of the header of a file of version 3 with no page, no event and one checkpoint (it begins with
-- the letters ORSR), and of a change that gives slot 0 page id 1
bytes : Answers (λ (x : List ℕ). x) (
    (word_bytes 0x40000005, 5 ∷ 0 ∷ 0 ∷ 0x40 ∷ [])
    ∷ (long_bytes 100, 100 ∷ 0 ∷ 0 ∷ 0 ∷ 0 ∷ 0 ∷ 0 ∷ 0 ∷ [])
    ∷ (header_bytes VERSION_WITH_DISK (record { pool = []; inputs = []; checkpoints = no_checkpoint ∷ [] }), 0x4F ∷ 0x52 ∷ 0x53 ∷ 0x52 ∷ 3 ∷ 0 ∷ 0 ∷ 0 ∷ 0 ∷ 0 ∷ 0 ∷ 0 ∷ 0 ∷ 0 ∷ 0 ∷ 0 ∷ 1 ∷ 0 ∷ 0 ∷ 0 ∷ 0 ∷ 0 ∷ 0 ∷ 0 ∷ [])
    ∷ (change_bytes (record { slot = 0; page_id = 1 }), 0 ∷ 0 ∷ 0 ∷ 0 ∷ 1 ∷ 0 ∷ 0 ∷ 0 ∷ []) ∷ [])
unfolding header_bytes word_bytes long_bytes change_bytes
bytes = refl

word-of-bytes : word_at (5 ∷ 0 ∷ 0 ∷ 0x40 ∷ []) 0 ≡ 0x40000005
unfolding word_at
word-of-bytes = refl

-- a checkpoint at 100 with R0 = 5 and PC = 100: its common fields are 132 bytes, which begin with the count and R0, and PC is at 76
abbrev claim : CheckpointParts
claim = record no_checkpoint {
  count = 100;
  cpu = record no_checkpoint.cpu { r = 5 ∷ replicate 15 0; pc = 100 };
}

bytes-of-fields : (length (common_bytes claim) ≡ COMMON_LEN) × (take 12 (common_bytes claim) ≡ 100 ∷ 0 ∷ 0 ∷ 0 ∷ 0 ∷ 0 ∷ 0 ∷ 0 ∷ 5 ∷ 0 ∷ 0 ∷ 0 ∷ []) × (word_at (common_bytes claim) PC_AT ≡ 100)
unfolding common_bytes word_bytes long_bytes word_at
bytes-of-fields = (refl, refl, refl)
