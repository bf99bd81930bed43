-- Where the value of a part of a machine comes from, as a caller asks about it and gets it (this project's own choice).
use Rattle.std.specs.Prelude.{ℕ, ◌≡◌, ◌≢◌, ◌≤◌, ◌<◌, ◌==◌, if◌then◌else◌, Option, None, Some, IsSome, MatchOption, map, ⊤}
use Rattle.oberon_past.specs.declared.link.Computation.{Computation}
use Rattle.oberon_past.specs.declared.link.Link.{Link}
use Rattle.oberon_past.specs.declared.link.Why.{Why}
use Rattle.oberon_past.specs.declared.part.Part.{Part}
use Rattle.oberon_past.specs.declared.write.Write.{Write}
use Rattle.oberon_past.specs.declared.write.Writer.TheVariants.{Instruction, Input}
use Rattle.oberon_past.specs.Links.{IsWhy}
use Rattle.oberon_past.specs.Past.{PastParts}
use Rattle.galluspa.specs.declared.link.RawLink.{RawLink}
use Rattle.galluspa.specs.declared.part.RawPart.{RawPart}
use Rattle.galluspa.specs.Writes.{part_of}

-- what is asked about any past is in its range
pub record IsWhyQuestion (raw : RawPart) (budget : ℕ) : Type 0 where
  pub part : IsSome (part_of raw)
  pub some : 0 < budget

-- the last write by a number: none if it is 0, the instruction of the count if it is 1, and else an input
abbrev pub write_by : ℕ → ℕ → ℕ → Option Write
write_by how count input =
    if how == 0 then None
    else Some (record { count = count; by = if how == 1 then Instruction else Input input })

-- a word, if a number says that there is one
abbrev pub word_by : ℕ → ℕ → Option ℕ
word_by has_word word = if has_word == 0 then None else Some word

-- how an instruction wrote the part, as it is written to a caller. Each origin is a part that a caller can ask about
pub record IsComputedAs (raw : RawLink) (c : Computation) : Type 0 where
  pub counter : raw.pc ≡ c.pc
  pub word_is : word_by raw.has_word raw.word ≡ c.word
  pub bits_are : raw.bits ≡ c.bits
  pub count_is : raw.origins_count ≡ c.origins.count
  pub origins_are : map part_of raw.origins ≡ map (λ (part : Part). Some part) c.origins.list

-- a link, as it is written to a caller
pub record IsLinkAs (raw : RawLink) (link : Link) : Type 0 where
  pub value_is : raw.value ≡ link.value
  pub write_is : write_by raw.how raw.count raw.input ≡ link.write
  pub computed : MatchOption link.computation ⊤ (IsComputedAs raw)

-- the numbers of a link are in their ranges; if no instruction wrote the part there is no word, and there are no origins
pub record IsRawLink (raw : RawLink) : Type 0 where
  pub how : raw.how ≤ 2
  pub word : raw.has_word ≤ 1
  pub origins : raw.origins_count ≤ 3
  pub none : raw.how ≢ 1 → (raw.has_word ≡ 0) × (raw.origins_count ≡ 0)

-- the answer to a caller's question about where the value of a part before a count comes from
pub record HasWhy (raw : RawPart) (before : ℕ) (why : Why) (p : PastParts) : Type 0 where
  pub part : Part
  pub is_part : part_of raw ≡ Some part
  pub is_why : IsWhy p.run p.end part before why

-- the same with the link as it is written to the caller
pub record HasLink (raw : RawPart) (before : ℕ) (written : RawLink) (p : PastParts) : Type 0 where
  pub link : Link
  pub has_why : HasWhy raw before (Why.Done link) p
  pub is_written : IsLinkAs written link
