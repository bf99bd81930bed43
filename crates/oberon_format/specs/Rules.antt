-- The rules of a recording file, in the order in which they are tested, each with the fault of a file that breaks it. In version
-- 1 the header determines the lengths of all parts before the output; later each checkpoint says its own length.
use Rattle.std.specs.Prelude.{ℕ, suc, ◌+◌, ◌-◌, ◌&&◌, ◌==◌, nat_le, not, if◌then◌else◌, List, [], ◌∷◌, ◌++◌}
use Rattle.oberon_format.specs.declared.change.Change.{Change}
use Rattle.oberon_format.specs.declared.fault.Fault.{Fault}
use Rattle.oberon_format.specs.declared.fault.Fault.TheVariants as fault
use Rattle.oberon_format.specs.declared.fields.CheckpointFields.{CheckpointFields}
use Rattle.risc_pages.specs.declared.sizes.TheConstants.{PAGE_SLOTS}
use Rattle.oberon_format.specs.declared.layout.TheConstants.{MAGIC, FIRST_VERSION, HEADER_LEN, MAGIC_AT, VERSION_AT, PAGES_AT}
use Rattle.oberon_format.specs.declared.layout.TheConstants.{EVENTS_AT, CHECKPOINTS_AT, LAST_AT, CHANGES_AT, VERSION_WITH_DISK}
use Rattle.oberon_format.specs.declared.ranges.TheConstants.{MAX_CHECKPOINTS}
use Rattle.recording_limits.specs.declared.limits.TheConstants.{MAX_PAGES}
use Rattle.oberon_format.specs.Fields.{Fields, sent_below}
use Rattle.oberon_format.specs.FirstFault.{Rule, each}
use Rattle.oberon_format.specs.Layout.{event_start, page_id_offset, change_offset}
use Rattle.oberon_format.specs.Ranges.{is_version_with_disk, is_event, is_checkpoint, is_change, max_events}

-- the offset of event i
abbrev pub offset_of_event : Fields → ℕ → ℕ
offset_of_event f i = event_start f.pages i

-- the offset of the output
abbrev pub offset_of_output : Fields → ℕ
offset_of_output f = f.start f.checkpoints

-- the length that the header asks for: in version 1 up to the output, later up to checkpoint 0
abbrev pub named_len : Fields → ℕ
named_len f = if f.version == FIRST_VERSION then offset_of_output f else f.start 0

-- the numbers of pages, events and checkpoints in a header
abbrev pub limit_rules : ℕ → ℕ → ℕ → ℕ → List (Rule Fault)
limit_rules version pages events checkpoints =
    (nat_le pages MAX_PAGES, fault.Limit PAGES_AT)
    ∷ (nat_le events (max_events version), fault.Limit EVENTS_AT)
    ∷ (nat_le 1 checkpoints && nat_le checkpoints MAX_CHECKPOINTS, fault.Limit CHECKPOINTS_AT)
    ∷ []

-- the header: it is complete, its six numbers are in their ranges, and the parts that it counts are there
abbrev pub header_rules : Fields → List (Rule Fault)
header_rules f =
    ((nat_le HEADER_LEN f.long, fault.Short f.long)
    ∷ (f.first == MAGIC, fault.Magic MAGIC_AT)
    ∷ (is_version_with_disk f.version, fault.Version VERSION_AT)
    ∷ [])
    ++ limit_rules f.version f.pages f.events f.checkpoints
    ++ ((f.last == 0, fault.Limit LAST_AT)
    ∷ (nat_le (named_len f) f.long, fault.Short f.long)
    ∷ [])

-- the count of the event before event i
abbrev pub event_floor : Fields → ℕ → ℕ
event_floor f i = if i == 0 then 0 else (f.event (i - 1)).count

-- event i is in its ranges
abbrev pub event_rules : Fields → ℕ → List (Rule Fault)
event_rules f i = (is_event f.version (event_floor f i) (f.event i), fault.Event (offset_of_event f i)) ∷ []

-- the count of the checkpoint before checkpoint k
abbrev pub count_before : Fields → ℕ → ℕ
count_before f k = if k == 0 then 0 else (f.checkpoint (k - 1)).count

-- the fields of checkpoint k, which begins at an offset, are in their ranges
abbrev pub field_rules : ℕ → ℕ → ℕ → ℕ → CheckpointFields → List (Rule Fault)
field_rules offset k before sent c = (is_checkpoint k before sent c, fault.Checkpoint offset) ∷ []

-- entry j of the table of a checkpoint at an offset is at most the number of pages
abbrev pub page_id_rules : ℕ → ℕ → (ℕ → ℕ) → ℕ → List (Rule Fault)
page_id_rules pages offset page_id j = (nat_le (page_id j) pages, fault.Page (page_id_offset offset j)) ∷ []

-- the least slot that change i may have: slots rise
abbrev pub slot_floor : (ℕ → Change) → ℕ → ℕ
slot_floor change i = if i == 0 then 0 else (change (i - 1)).slot + 1

-- change i of a checkpoint at an offset is lawful, given the page ids before the checkpoint
abbrev pub change_rules : ℕ → ℕ → (ℕ → ℕ) → (ℕ → Change) → ℕ → List (Rule Fault)
change_rules pages offset prior change i =
    (is_change pages (slot_floor change i) prior (change i), fault.Page (change_offset offset i)) ∷ []

-- the page id in a slot before checkpoint k: at first 0
abbrev pub prior_page_id : Fields → ℕ → ℕ → ℕ
prior_page_id f k p = if k == 0 then 0 else f.page_id (k - 1) p

-- checkpoint k of version 1: its fields, and then each of its page ids
abbrev pub whole_rules : Fields → ℕ → List (Rule Fault)
whole_rules f k =
    field_rules (f.start k) k (count_before f k) (sent_below f k) (f.checkpoint k)
    ++ each PAGE_SLOTS (page_id_rules f.pages (f.start k) (f.page_id k))

-- checkpoint k of a later version: the bytes before its changes are there, its fields are in range, the rest of its bytes is
-- there, and each change is lawful
abbrev pub changed_rules : Fields → ℕ → List (Rule Fault)
changed_rules f k =
    (nat_le (f.start k + CHANGES_AT) f.long, fault.Short f.long)
    ∷ (field_rules (f.start k) k (count_before f k) (sent_below f k) (f.checkpoint k)
    ++ ((nat_le (f.start (suc k)) f.long, fault.Short f.long)
    ∷ each (f.checkpoint k).changes (change_rules f.pages (f.start k) (prior_page_id f k) (f.change k))))

-- checkpoint k
unfoldable pub checkpoint_rules : Fields → ℕ → List (Rule Fault)
checkpoint_rules f k = if f.version == FIRST_VERSION then whole_rules f k else changed_rules f k

-- the length that the file must have
abbrev pub file_len : Fields → ℕ
file_len f = offset_of_output f + sent_below f f.checkpoints

-- the output is there, and nothing after it
abbrev pub end_rules : Fields → List (Rule Fault)
end_rules f =
    (nat_le (file_len f) f.long, fault.Short f.long)
    ∷ (f.long == file_len f, fault.Trailing (file_len f))
    ∷ []

-- the rules of a file without a disk that come before all others: one with a disk breaks the rule of its version
abbrev pub version_rules : Fields → List (Rule Fault)
version_rules f =
    (nat_le HEADER_LEN f.long, fault.Short f.long)
    ∷ (f.first == MAGIC, fault.Magic MAGIC_AT)
    ∷ (not (f.version == VERSION_WITH_DISK), fault.Version VERSION_AT)
    ∷ []

-- all rules
unfoldable pub rules : Fields → List (Rule Fault)
rules f =
    header_rules f
    ++ each f.events (event_rules f)
    ++ each f.checkpoints (checkpoint_rules f)
    ++ end_rules f
