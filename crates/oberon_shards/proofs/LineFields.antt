-- The fields of the line of a recording.
use Rattle.std.proofs.Common.{◌≡◌, ◌≢◌, ◌∙◌, ℕ, ◌<◌, ◌≤◌, ◌^◌, List, [], ◌∷◌, ◌++◌, arith, refl, sym, ap, subst}
use Rattle.std.proofs.lemmas.List.{append_assoc}
use Rattle.std.specs.Prelude.{codes}
use Rattle.std.specs.Fmt.{decimal}
use Rattle.std.specs.Str.Iter.{LacksByte}
use Rattle.oberon_format.specs.Line.{IsNamedFault, fault_line, refused_line}
use Rattle.oberon_format.specs.declared.fault.Fault.{Fault}
use Rattle.oberon_format.specs.declared.fault.Fault.TheVariants as fault
use Rattle.oberon_check.specs.declared.part.Part.{Part}
use Rattle.oberon_check.specs.declared.verdict.Verdict.TheVariants.{Accepted, FalseAt}
use Rattle.oberon_check.specs.Line.{line_of, part_name}
use Rattle.recording_limits.specs.declared.limits.TheConstants.{LAST_CHECKPOINT}
use Rattle.oberon_shards.specs.declared.shard.Shard.{Shard}
use Rattle.oberon_shards.specs.declared.shard.Finding.{Finding}
use Rattle.oberon_shards.specs.declared.shard.Finding.TheVariants.{Holds, Fails, Refused}
use Rattle.oberon_shards.specs.Lines.{HasLine, IsInRanges, IsSame}
use Rattle.oberon_shards.specs.Shard.{byte_of}
use Rattle.oberon_shards.specs.inner.Reading.{fault_number}
use Rattle.oberon_shards.proofs.Fields.{joined, lacks, lacks_text}

pub accepted_fields : (last count : ℕ) (more : List ℕ) → line_of (Accepted last count) ++ more
    ≡ codes "accepted" ++ 32 ∷ (decimal last ++ 32 ∷ (codes "checkpoints" ++ 32 ∷ (decimal count ++ 32 ∷ (codes "steps\n" ++ more))))
accepted_fields last count more =
    ap (λ (x : List ℕ). codes "accepted " ++ x) (joined (decimal last) _ _ more
    (ap (λ (x : List ℕ). codes "checkpoints " ++ x) (joined (decimal count) (codes "steps\n") _ more refl)))

pub false_fields : (to count : ℕ) (p : Part) (more : List ℕ) → line_of (FalseAt to count p) ++ more
    ≡ codes "false" ++ 32 ∷ (codes "checkpoint" ++ 32 ∷ (decimal to ++ 32 ∷ (codes "at" ++ 32 ∷ (decimal count ++ 32 ∷ (codes "part" ++ 32 ∷ (part_name p ++ 10 ∷ more))))))
false_fields to count p more =
    ap (λ (x : List ℕ). codes "false checkpoint " ++ x) (joined (decimal to) _ _ more
    (ap (λ (x : List ℕ). codes "at " ++ x) (joined (decimal count) _ _ more
    (ap (λ (x : List ℕ). codes "part " ++ x) (append_assoc (part_name p) (10 ∷ []) more)))))

pub refused_fields : (number : ℕ) (name : List ℕ) (byte : ℕ) (more : List ℕ) → refused_line number name byte ++ more
    ≡ codes "refused" ++ 32 ∷ (decimal number ++ 32 ∷ (name ++ 32 ∷ (codes "at" ++ 32 ∷ (codes "byte" ++ 32 ∷ (decimal byte ++ 10 ∷ more)))))
refused_fields number name byte more =
    ap (λ (x : List ℕ). codes "refused " ++ x) (joined (decimal number) _ _ more (joined name _ _ more
    (ap (λ (x : List ℕ). codes "at byte " ++ x) (append_assoc (decimal byte) (10 ∷ []) more))))

-- the name of a fault
abbrev pub fault_name : Fault → List ℕ
fault_name (fault.Short byte) = codes "short"
fault_name (fault.Magic byte) = codes "magic"
fault_name (fault.Version byte) = codes "version"
fault_name (fault.Limit byte) = codes "limit"
fault_name (fault.Event byte) = codes "event"
fault_name (fault.Checkpoint byte) = codes "checkpoint"
fault_name (fault.Page byte) = codes "page"
fault_name (fault.Trailing byte) = codes "trailing"
fault_name fault.Memory = []

pub fault_line_is : (f : Fault) → IsNamedFault f → fault_line f ≡ refused_line (fault_number f) (fault_name f) (byte_of f)
fault_line_is (fault.Short byte) named = refl
fault_line_is (fault.Magic byte) named = refl
fault_line_is (fault.Version byte) named = refl
fault_line_is (fault.Limit byte) named = refl
fault_line_is (fault.Event byte) named = refl
fault_line_is (fault.Checkpoint byte) named = refl
fault_line_is (fault.Page byte) named = refl
fault_line_is (fault.Trailing byte) named = refl
fault_line_is fault.Memory named = absurd named

pub name_lacks : (f : Fault) → LacksByte 32 (fault_name f)
unfolding lacks
name_lacks (fault.Short byte) = lacks_text 32 (codes "short") refl
name_lacks (fault.Magic byte) = lacks_text 32 (codes "magic") refl
name_lacks (fault.Version byte) = lacks_text 32 (codes "version") refl
name_lacks (fault.Limit byte) = lacks_text 32 (codes "limit") refl
name_lacks (fault.Event byte) = lacks_text 32 (codes "event") refl
name_lacks (fault.Checkpoint byte) = lacks_text 32 (codes "checkpoint") refl
name_lacks (fault.Page byte) = lacks_text 32 (codes "page") refl
name_lacks (fault.Trailing byte) = lacks_text 32 (codes "trailing") refl
name_lacks fault.Memory = lacks_text 32 [] refl

pub number_fits : (f : Fault) → fault_number f < 2 ^ 64
number_fits (fault.Short byte) = omega arith
number_fits (fault.Magic byte) = omega arith
number_fits (fault.Version byte) = omega arith
number_fits (fault.Limit byte) = omega arith
number_fits (fault.Event byte) = omega arith
number_fits (fault.Checkpoint byte) = omega arith
number_fits (fault.Page byte) = omega arith
number_fits (fault.Trailing byte) = omega arith
number_fits fault.Memory = omega arith

pub not_memory : (f : Fault) → IsNamedFault f → f ≢ Fault.Memory
not_memory f named is = subst IsNamedFault is named

-- the numbers of segments fit in 32 bits
pub fit : (s : Shard) (f : Finding) → IsInRanges f s → s.last ≤ LAST_CHECKPOINT → (s.from < 2 ^ 32) × (s.to < 2 ^ 32) × (s.last < 2 ^ 32)
fit s Holds is few = (omega (arith, is.0, is.1, few), omega (arith, is.1, few), omega (arith, few))
fit s Fails is few = (omega (arith, is.0, is.1, few), omega (arith, is.1, few), omega (arith, few))
fit s Refused is few = (omega (arith, is.0), omega (arith, is.1), omega (arith, is.2))

-- what is true of the parts of a line is true of the same parts
pub moved : (f g : Finding) (to end last most c d : ℕ) (xs ys : List ℕ) → f ≡ g → to ≡ end → last ≡ most → c ≡ d → xs ≡ ys → HasLine f to last c xs → HasLine g end most d ys
moved f g to end last most c d xs ys ef et el ec ex is =
    subst (λ (x : List ℕ). HasLine g end most d x) ex (subst (λ (n : ℕ). HasLine g end most n xs) ec (subst (λ (n : ℕ). HasLine g end n c xs) el
    (subst (λ (n : ℕ). HasLine g n last c xs) et (subst (λ (h : Finding). HasLine h to last c xs) ef is))))

pub ranges_moved : (f g : Finding) (s t : Shard) → IsSame s t → f ≡ g → IsInRanges f s → IsInRanges g t
ranges_moved f g s t same is in_ranges = go g (subst (λ (h : Finding). IsInRanges h s) is in_ranges)
  where
    go : (h : Finding) → IsInRanges h s → IsInRanges h t
    go Holds q = (omega (arith, q, same.from_is, same.to_is), omega (arith, q, same.to_is, same.last_is), omega (arith, q, same.last_is, same.count_is), omega (arith, q, same.count_is), λ none. (let first = q.4 (omega (arith, none, same.last_is)) in omega (arith, first, same.count_is)))
    go Fails q = (omega (arith, q, same.from_is, same.to_is), omega (arith, q, same.to_is, same.last_is), omega (arith, q, same.to_is, same.count_is), omega (arith, q, same.last_is, same.to_is, same.count_is))
    go Refused q = (omega (arith, q, same.from_is), omega (arith, q, same.to_is), omega (arith, q, same.last_is))
