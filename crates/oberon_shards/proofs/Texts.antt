-- Reading lines of shards, one after another.
use Rattle.std.proofs.Common.{◌≡◌, ◌∙◌, ℕ, ◌<◌, List, [], ◌∷◌, ◌++◌, arith, refl, sym, ap, length}
use Rattle.std.specs.Prelude.{All}
use Rattle.std.proofs.lemmas.List.{append_assoc, flat_map_more}
use Rattle.std.proofs.lemmas.List.Elements.{All-head, All-push, All-tail}
use Rattle.oberon_check.specs.declared.versions.Versions.{Versions}
use Rattle.oberon_shards.specs.declared.shard.Shard.{Shard}
use Rattle.oberon_shards.specs.Shard.{IsShardIn, shard_line}
use Rattle.oberon_shards.specs.Lines.{AreLinesIn, HasNoShard, IsPrintable, shard_lines}
use Rattle.oberon_shards.specs.inner.Reading.{IsNext, IsReadTo}
use Rattle.oberon_shards.proofs.Printed.{printable, same_shard}

-- the first of these lines, and the rest of them
first_line : (v : Versions) (file rest : List ℕ) (shard : Shard) (more : List ℕ) → IsNext rest shard more → 0 < length rest → (all : List Shard) → All (IsShardIn v file) all
    → rest ≡ shard_lines all → IsShardIn v file shard × AreLinesIn v file more
first_line v file rest shard more next some [] are is = absurd (omega (arith, some, ap length is))
first_line v file rest shard more next some (s ∷ ss) are is =
    let is_s : IsShardIn v file s = All-head (IsShardIn v file) s ss are in
    let only = next.only s (shard_lines ss) (printable v file s is_s) is in
    (same_shard v file s shard only.0 is_s, record { shards = ss; are = All-tail (IsShardIn v file) s ss are; lines_are = sym only.1 })

pub read_more : (text : List ℕ) (shards : List Shard) (rest : List ℕ) (shard : Shard) (more : List ℕ) → IsReadTo text shards rest → IsNext rest shard more
    → 0 < length rest → IsReadTo text (shards ++ shard ∷ []) more
read_more text shards rest shard more is next some =
    let last : shard_lines shards ++ shard_line shard ≡ shard_lines (shards ++ shard ∷ []) = flat_map_more shard_line [] shards shard in
    record {
      lines_are = is.lines_are ∙ ap (λ (x : List ℕ). shard_lines shards ++ x) next.begins ∙ sym (append_assoc (shard_lines shards) (shard_line shard) more)
          ∙ ap (λ (x : List ℕ). x ++ more) last;
      printable = All-push IsPrintable shards shard is.printable next.printable;
      are = λ v file of.
          let both = is.are v file of in
          let first = first_line v file rest shard more next some both.1.shards both.1.are both.1.lines_are in
          (All-push (IsShardIn v file) shards shard both.0 first.0, first.1);
    }

none_here : (v : Versions) (file rest : List ℕ) → HasNoShard rest → 0 < length rest → (all : List Shard) → All (IsShardIn v file) all → rest ≡ shard_lines all → ⊥
none_here v file rest none some [] are is = absurd (omega (arith, some, ap length is))
none_here v file rest none some (s ∷ ss) are is = none s (shard_lines ss) (printable v file s (All-head (IsShardIn v file) s ss are)) is

-- a text whose rest does not begin with the line of a shard has not the lines of shards of a file
pub no_lines : (text : List ℕ) (shards : List Shard) (rest : List ℕ) → IsReadTo text shards rest → HasNoShard rest → 0 < length rest
    → (v : Versions) (file : List ℕ) → ¬ (AreLinesIn v file text)
no_lines text shards rest is none some v file of =
    let lines = (is.are v file of).1 in
    none_here v file rest none some lines.shards lines.are lines.lines_are

pub no_bytes : (xs : List ℕ) → length xs ≡ 0 → xs ≡ []
no_bytes [] is = refl
no_bytes (x ∷ xs) is = absurd (omega (arith, is))
