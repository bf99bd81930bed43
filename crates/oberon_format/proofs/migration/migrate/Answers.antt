use Rattle.std.specs.Prelude.{Err, MatchOption, Ok}
use Rattle.oberon_format.proofs.Common.{arith, Fault, IsEncoding, IsPlain, List, None, Option, RecordingParts, Some, Text, VERSION, ℕ, ◌≡◌}
use Rattle.oberon_format.proofs.PlainLemmas.{plain, text_lawful}
use Rattle.oberon_format.specs.Migration.{IsMigrated}
use Rattle.oberon_format.proofs.migration.migrate.Goals as goal

-- the answer for a file whose recording was written again
migrated : {A : Type 0} (o : Option Fault) (bytes written_file : List ℕ) (r : RecordingParts) (answer : A)
    → (IsPlain r → IsEncoding VERSION written_file r) → MatchOption o (Text bytes r) (λ f. Ok r ≡ Err f) → MatchOption o (IsMigrated bytes written_file) (λ f. Ok answer ≡ Err f)
migrated None bytes written_file r answer written read = record { recording = r; read = read; written = written (plain r (text_lawful bytes r read)) }
migrated (Some f) bytes written_file r answer written read = absurd cc

pub returns-in-Ok : goal.returns-in-Ok
returns-in-Ok c = migrated _ _ _ _ _ c.in-Ok.ensures.plain (search arith)
