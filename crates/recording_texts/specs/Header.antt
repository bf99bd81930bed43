-- The header of a file.
use Rattle.std.specs.Prelude.{ℕ, List, [], ◌∷◌}
use Rattle.recording_texts.specs.Bytes.{words_bytes}

-- the 24 bytes of a header: `ORSR`, then the version, the numbers of pages, events and checkpoints, and 0
abbrev pub header_bytes : ℕ → ℕ → ℕ → ℕ → List ℕ
header_bytes version pages events checkpoints =
    0x4F ∷ 0x52 ∷ 0x53 ∷ 0x52 ∷ words_bytes (version ∷ pages ∷ events ∷ checkpoints ∷ 0 ∷ [])
