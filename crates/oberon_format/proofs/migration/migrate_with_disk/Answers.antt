use Rattle.std.specs.Prelude.{Err, MatchOption, Ok}
use Rattle.oberon_format.proofs.Common.{arith, Fault, List, None, Option, RecordingParts, Some, TextWithDisk, IsEncoding, VERSION_WITH_DISK, ℕ, ◌≡◌}
use Rattle.oberon_format.specs.Migration.{IsMigratedWithDisk}
use Rattle.oberon_format.proofs.migration.migrate_with_disk.Goals as goal

-- the answer for a file whose recording was written again
migrated : {A : Type 0} (o : Option Fault) (bytes written_file : List ℕ) (r : RecordingParts) (answer : A)
    → IsEncoding VERSION_WITH_DISK written_file r → MatchOption o (TextWithDisk bytes r) (λ f. Ok r ≡ Err f) → MatchOption o (IsMigratedWithDisk bytes written_file) (λ f. Ok answer ≡ Err f)
migrated None bytes written_file r answer written read = record { recording = r; read = read; written = written }
migrated (Some f) bytes written_file r answer written read = absurd cc

pub returns-in-Ok : goal.returns-in-Ok
returns-in-Ok c = migrated _ _ _ _ _ c.in-Ok.ensures (search arith)
