-- What is known of a file after some of its rules were tested.
use Rattle.std.specs.Prelude.{ℕ, suc, true, ◌≡◌, ◌≤◌, ◌<◌, ◌+◌, List, length, slice_index, slice_index_or, None, Some, Result}
use Rattle.std.specs.Prelude.{MatchResult}
use Rattle.oberon_format.specs.declared.fault.Fault.{Fault}
use Rattle.oberon_format.specs.declared.fields.CheckpointFields.{CheckpointFields}
use Rattle.risc_pages.specs.declared.sizes.TheConstants.{PAGE_SLOTS}
use Rattle.oberon_format.specs.declared.layout.TheConstants.{MAGIC, HEADER_LEN, MAGIC_AT, LAST_AT}
use Rattle.oberon_format.specs.declared.ranges.TheConstants.{MAX_CHECKPOINTS}
use Rattle.recording_limits.specs.declared.limits.TheConstants.{MAX_EVENTS_WITH_DISK, MAX_OUTPUT, MAX_PAGES}
use Rattle.oberon_format.specs.declared.rules.End.{End}
use Rattle.oberon_format.specs.Changes.{changes, no_change, page_id_after}
use Rattle.oberon_format.specs.Fields.{sent_below}
use Rattle.oberon_format.specs.FirstFault.{Rule, first_broken, each}
use Rattle.oberon_format.specs.Layout.{word_at, version, pages, events, checkpoints, start, output_offset}
use Rattle.oberon_format.specs.Ranges.{is_version_with_disk}
use Rattle.oberon_format.specs.PartFields.{fields_in}
use Rattle.oberon_format.specs.Recording.{RecordingParts}
use Rattle.oberon_format.specs.Rules.{change_rules, event_rules, checkpoint_rules, named_len, file_len}
use Rattle.oberon_format.specs.ByteFields.{fields_of, first_fault_with_disk, change_of, checkpoint_of, page_id_before}

-- the header is there, its version is known, its numbers of pages, events and checkpoints are within their limits, and the parts
-- that it counts are there
pub record IsSized (bytes : List ℕ) : Type 0 where
  pub header : HEADER_LEN ≤ length bytes
  pub known : is_version_with_disk (version bytes) ≡ true
  pub pages : pages bytes ≤ MAX_PAGES
  pub events : events bytes ≤ MAX_EVENTS_WITH_DISK
  pub some : 1 ≤ checkpoints bytes
  pub few : checkpoints bytes ≤ MAX_CHECKPOINTS
  pub long : named_len (fields_of bytes) ≤ length bytes

-- the file breaks no rule
pub record Meets (bytes : List ℕ) : Type 0 where
  pub faultless : first_fault_with_disk bytes ≡ None
  pub magic_is : word_at bytes MAGIC_AT ≡ MAGIC
  pub zero_is : word_at bytes LAST_AT ≡ 0
  pub sized : IsSized bytes
  pub events_meet : first_broken (each (events bytes) (event_rules (fields_of bytes))) ≡ None
  pub checkpoints_meet : first_broken (each (checkpoints bytes) (checkpoint_rules (fields_of bytes))) ≡ None
  pub len_is : length bytes ≡ file_len (fields_of bytes)

-- a table has these page ids
abbrev pub HasPageIds : List ℕ → (ℕ → ℕ) → Type 0
HasPageIds table page_id = (p : ℕ) → p < PAGE_SLOTS → slice_index table p ≡ page_id p

-- the first n changes of the checkpoint at an offset lead from one table to another
abbrev pub IsChanged : List ℕ → ℕ → ℕ → List ℕ → List ℕ → Type 0
IsChanged bytes offset n before table = HasPageIds table (page_id_after (change_of bytes offset) (slice_index before) n)

-- the result for checkpoint k of version 1, at an offset: its fields if it meets its rules, and else its first fault
abbrev pub IsWholeTested : List ℕ → ℕ → ℕ → ℕ → Result CheckpointFields Fault → Type 0
IsWholeTested bytes k offset sent outcome = MatchResult outcome
    (λ fields. (fields ≡ checkpoint_of bytes offset)
    × (sent + fields.output ≤ MAX_OUTPUT)
    × (first_broken (checkpoint_rules (fields_of bytes) k) ≡ None))
    (λ f. first_broken (checkpoint_rules (fields_of bytes) k) ≡ Some f)

-- the result for checkpoint k of a later version, at an offset, which changes a table into its own
abbrev pub IsChangedTested : List ℕ → ℕ → ℕ → ℕ → List ℕ → Result CheckpointFields Fault → Type 0
IsChangedTested bytes k offset sent table outcome = MatchResult outcome
    (λ fields. (fields ≡ checkpoint_of bytes offset)
    × (sent + fields.output ≤ MAX_OUTPUT)
    × (start bytes (suc k) ≤ length bytes)
    × (fields.changes ≤ PAGE_SLOTS)
    × HasPageIds table (page_id_before bytes (suc k))
    × (first_broken (checkpoint_rules (fields_of bytes) k) ≡ None))
    (λ f. first_broken (checkpoint_rules (fields_of bytes) k) ≡ Some f)

-- the result for all checkpoints: where they end and how much they sent if they meet their rules, and else their first fault
abbrev pub AreTested : List ℕ → Result End Fault → Type 0
AreTested bytes outcome = MatchResult outcome
    (λ end. (end.output ≡ output_offset bytes)
    × (end.output ≤ length bytes)
    × (end.sent ≡ sent_below (fields_of bytes) (checkpoints bytes))
    × (end.sent ≤ MAX_OUTPUT)
    × (first_broken (each (checkpoints bytes) (checkpoint_rules (fields_of bytes))) ≡ None))
    (λ f. first_broken (each (checkpoints bytes) (checkpoint_rules (fields_of bytes))) ≡ Some f)

-- the result for a file: the offset of its output if it breaks no rule, and else its first fault
abbrev pub IsTested : List ℕ → Result ℕ Fault → Type 0
IsTested bytes outcome = MatchResult outcome
    (λ output. (first_fault_with_disk bytes ≡ None) × (output ≡ output_offset bytes))
    (λ f. first_fault_with_disk bytes ≡ Some f)

-- the rules of the changes from one table to another, encoded in a checkpoint at an offset
abbrev pub encoded_change_rules : ℕ → ℕ → List ℕ → List ℕ → List (Rule Fault)
encoded_change_rules pages offset before table =
    each (length (changes before table))
    (change_rules pages offset (slice_index before) (λ i. slice_index_or (changes before table) i no_change))

-- the rules of the first n checkpoints of parts, as encoded
abbrev pub encoded_checkpoint_rules : ℕ → ℕ → RecordingParts → List (Rule Fault)
encoded_checkpoint_rules version count r = each count (checkpoint_rules (fields_in version r))
