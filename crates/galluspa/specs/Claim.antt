-- What the checkpoints of a recording claim, in the memory of a caller.
use Rattle.std.specs.Prelude.{ℕ, ◌≡◌, ◌+◌, ◌<◌, ◌≤◌, ◌⊎◌, List, All, [], Some, length, slice_index_or}
use Rattle.std.specs.List.{flat_map}
use Rattle.risc_pages.specs.Pages.{zero_page}
use Rattle.oberon_format.specs.declared.fault.Fault.{Fault}
use Rattle.oberon_format.specs.Defined.{claimed}
use Rattle.oberon_format.specs.Recording.{RecordingParts, count_at}
use Rattle.oberon_format.specs.Text.{TextWithDisk}
use Rattle.oberon_format.specs.ByteFields.{first_fault_with_disk}
use Rattle.galluspa.specs.declared.claims.RawCheckpoint.{RawCheckpoint}
use Rattle.galluspa.specs.declared.claims.RawPage.{RawPage}
use Rattle.galluspa.specs.declared.raw.RawState.{RawState}
use Rattle.galluspa.specs.Raw.{IsWritten, state_of}

-- the bytes are a recording with such a checkpoint, and this is the state that it claims, with its count
pub record IsClaim (text : List ℕ) (at : ℕ) (state : RawState) (words : List ℕ) : Type 0 where
  pub recording : RecordingParts
  pub is_text : TextWithDisk text recording
  pub there : at < length recording.checkpoints
  pub count_is : state.count ≡ count_at recording at
  pub state_is : state_of state words ≡ (claimed recording at).state

-- the bytes are a recording that has no such checkpoint
pub record HasNoCheckpoint (text : List ℕ) (at : ℕ) : Type 0 where
  pub recording : RecordingParts
  pub is_text : TextWithDisk text recording
  pub beyond : length recording.checkpoints ≤ at

-- the bytes are not a recording: they break a rule of the format
pub record IsNoRecording (text : List ℕ) : Type 0 where
  pub fault : Fault
  pub is_first : first_fault_with_disk text ≡ Some fault

-- ---- what all checkpoints claim

-- the words of a memory: the pages with these indices, one after another
abbrev pub memory_of : List RawPage → List ℕ → List ℕ
memory_of pages indices = flat_map (λ index. (slice_index_or pages index (record { words = [] })).words) indices

-- a checkpoint as a caller gets it beside so many pages: its count, the state that it claims, with the memory that its pages make, and
-- how many bytes it claims were sent
pub record IsClaimOf (recording : RecordingParts) (at : ℕ) (checkpoint : RawCheckpoint) (pages : List RawPage) (pages_count : ℕ) : Type 0 where
  pub count_is : checkpoint.state.count ≡ count_at recording at
  pub state_is : state_of checkpoint.state (memory_of pages checkpoint.pages) ≡ (claimed recording at).state
  pub sent_is : checkpoint.sent_count ≡ length (claimed recording at).sent
  pub named : All (λ index. index < pages_count) checkpoint.pages
  pub written : IsWritten checkpoint.state (memory_of pages checkpoint.pages)

-- the bytes are a recording, and the first checkpoints are all of its, over the first pages: one that is all zeros, and those of its pool
pub record AreClaims (text : List ℕ) (checkpoints : List RawCheckpoint) (checkpoints_count : ℕ) (pages : List RawPage) (pages_count : ℕ)
    : Type 0 where
  pub recording : RecordingParts
  pub is_text : TextWithDisk text recording
  pub count_is : checkpoints_count ≡ length recording.checkpoints
  pub pages_are : pages_count ≡ length recording.pool + 1
  pub checkpoints_fit : checkpoints_count ≤ length checkpoints
  pub pages_fit : pages_count ≤ length pages
  pub blank : (d : RawPage) → (slice_index_or pages 0 d).words ≡ zero_page
  pub each : (k : ℕ) (d : RawCheckpoint) → k < checkpoints_count → IsClaimOf recording k (slice_index_or checkpoints k d) pages pages_count

-- the bytes are a recording that has so many checkpoints and, with that of zeros, so many pages, and there is too little room for
-- one of both
pub record NeedsClaimRoom (text : List ℕ) (checkpoints_room checkpoints_count pages_room pages_count : ℕ) : Type 0 where
  pub recording : RecordingParts
  pub is_text : TextWithDisk text recording
  pub checkpoints_are : checkpoints_count ≡ length recording.checkpoints
  pub pages_are : pages_count ≡ length recording.pool + 1
  pub short : (checkpoints_room < checkpoints_count) ⊎ (pages_room < pages_count)
