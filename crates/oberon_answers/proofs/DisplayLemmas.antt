-- The number of words in a range of a memory.
use Rattle.std.proofs.Common.{◌≡◌, ◌≤◌, ◌+◌, ℕ, List, arith, length, length-drop}
use Rattle.risc_pages.specs.Tables.{table_words}
use Rattle.risc_devices.specs.Picture.{IsPicture}
use Rattle.oberon_format.specs.CheckpointParts.{CheckpointParts}
use Rattle.oberon_format.specs.Recording.{RecordingParts, checkpoint_at}
use Rattle.oberon_answers.specs.Screen.{display_of}
use Rattle.std.proofs.lemmas.List.{length-take}
use Rattle.std.specs.Prelude.{slice_range}

pub range_length : (words range : List ℕ) (from n : ℕ) → range ≡ slice_range words from (from + n) → from + n ≤ length words → length range ≡ n
range_length words range from n is within = rw is (simp (length-take, length-drop) (omega arith))

-- the picture of the words in the memory of checkpoint k's table is that of the display that checkpoint k claims
pub shows : (r : RecordingParts) (k n : ℕ) (c : CheckpointParts) (pool : List (List ℕ)) (words range picture : List ℕ) → c ≡ checkpoint_at r n → n ≡ k
    → words ≡ table_words pool c.table → pool ≡ r.pool → range ≡ slice_range words 237504 262080 → IsPicture range picture → IsPicture (display_of r k) picture
shows r k n c pool words range picture claimed same words_are pool_is range_is is =
    rw (← same, ← claimed, ← pool_is, ← words_are, ← range_is) is
