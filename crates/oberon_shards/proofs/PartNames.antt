-- The names of parts, and which parts a difference names.
use Rattle.std.proofs.Common.{◌≡◌, ◌<◌, ◌++◌, ◌∷◌, [], ℕ, zero, suc, List, Some, true, false, ap, arith, drop, refl, slice_index, subst, sym}
use Rattle.std.specs.Fmt.{decimal}
use Rattle.std.specs.Cmp.Lexicographic.{pointwise}
use Rattle.std.specs.Prelude.{codes, nat_eq}
use Rattle.std.specs.Str.Iter.{LacksByte}
use Rattle.oberon_format.specs.Defined.{Outcome}
use Rattle.oberon_format.specs.FirstFault.{Rule, each, first_broken}
use Rattle.oberon_check.specs.declared.part.Part.{Part}
use Rattle.oberon_check.specs.declared.part.Part.TheVariants as part
use Rattle.oberon_check.specs.Difference.{control_parts, cpu_parts, device_parts, first_difference, page_parts, parts, register_parts}
use Rattle.oberon_check.specs.Line.{part_name}
use Rattle.oberon_shards.specs.Lines.{IsPart}
use Rattle.oberon_shards.specs.inner.Reading.{part_from}
use Rattle.oberon_shards.proofs.Fields.{decimal_lacks, lacks, lacks_append, lacks_text}

pub part_lacks : (p : Part) → LacksByte 10 (part_name p)
unfolding lacks
part_lacks (part.R n) = lacks_append 10 (codes "R") (decimal n) (lacks_text 10 (codes "R") refl) (decimal_lacks 10 n (omega arith))
part_lacks part.H = lacks_text 10 (codes "H") refl
part_lacks part.Pc = lacks_text 10 (codes "PC") refl
part_lacks part.Flags = lacks_text 10 (codes "flags") refl
part_lacks part.Stop = lacks_text 10 (codes "stop") refl
part_lacks part.Timer = lacks_text 10 (codes "timer") refl
part_lacks part.Rate = lacks_text 10 (codes "rate") refl
part_lacks part.Phase = lacks_text 10 (codes "phase") refl
part_lacks part.Switches = lacks_text 10 (codes "switches") refl
part_lacks part.Leds = lacks_text 10 (codes "LEDs") refl
part_lacks part.Mouse = lacks_text 10 (codes "mouse") refl
part_lacks part.Serial = lacks_text 10 (codes "serial") refl
part_lacks part.Keys = lacks_text 10 (codes "keys") refl
part_lacks part.Disk = lacks_text 10 (codes "disk") refl
part_lacks part.Sent = lacks_text 10 (codes "out") refl
part_lacks (part.Page n) = lacks_append 10 (codes "page ") (decimal n) (lacks_text 10 (codes "page ") refl) (decimal_lacks 10 n (omega arith))

-- a part is that of its name
abbrev IsNumber : ℕ → ℕ → List ℕ → ℕ → Type 0
IsNumber start end name found = (n : ℕ) → n < end → drop start name ≡ decimal n → found ≡ n

part_at : (p : Part) (register page : ℕ) → IsPart p → IsNumber 1 16 (part_name p) register → IsNumber 5 1024 (part_name p) page
    → part_from (slice_index (part_name p) 0) (slice_index (part_name p) 1) register page ≡ p
part_at (part.R n) register page inside r g = ap part.R (r n inside refl)
part_at part.H register page inside r g = refl
part_at part.Pc register page inside r g = refl
part_at part.Flags register page inside r g = refl
part_at part.Stop register page inside r g = refl
part_at part.Timer register page inside r g = refl
part_at part.Rate register page inside r g = refl
part_at part.Phase register page inside r g = refl
part_at part.Switches register page inside r g = refl
part_at part.Leds register page inside r g = refl
part_at part.Mouse register page inside r g = refl
part_at part.Serial register page inside r g = refl
part_at part.Keys register page inside r g = refl
part_at part.Disk register page inside r g = refl
part_at part.Sent register page inside r g = refl
part_at (part.Page n) register page inside r g = ap part.Page (g n inside refl)

pub part_of_name : (name : List ℕ) (p : Part) (register page : ℕ) → IsPart p → name ≡ part_name p → IsNumber 1 16 name register → IsNumber 5 1024 name page
    → part_from (slice_index name 0) (slice_index name 1) register page ≡ p
part_of_name name p register page inside is =
    subst (λ (x : List ℕ). IsNumber 1 16 x register → IsNumber 5 1024 x page → part_from (slice_index x 0) (slice_index x 1) register page ≡ p) (sym is)
    (part_at p register page inside)

-- the parts that a difference may name
unfoldable AreParts : List (Rule Part) → Type 0
AreParts [] = Unit {0}
AreParts (rule ∷ rules) = IsPart rule.1 × AreParts rules

parts_append : (xs ys : List (Rule Part)) → AreParts xs → AreParts ys → AreParts (xs ++ ys)
unfolding AreParts
parts_append [] ys first second = second
parts_append (x ∷ xs) ys first second = (first.0, parts_append xs ys first.1 second)

parts_each : (n : ℕ) (of : ℕ → List (Rule Part)) → ((k : ℕ) → k < n → AreParts (of k)) → AreParts (each n of)
unfolding each AreParts
parts_each zero of are = tt
parts_each (suc n) of are = parts_append (each n of) (of n) (parts_each n of (λ k less. are k (omega (arith, less)))) (are n (omega arith))

first_part : (rules : List (Rule Part)) (p : Part) → AreParts rules → first_broken rules ≡ Some p → IsPart p
unfolding AreParts
first_part [] p are is = absurd cc
first_part ((true, q) ∷ rules) p are is = first_part rules p are.1 is
first_part ((false, q) ∷ rules) p are is = let same : q ≡ p = cc in subst IsPart same are.0

pub part_inside : (x y : Outcome) (p : Part) → first_difference x y ≡ Some p → IsPart p
unfolding first_difference AreParts
part_inside x y p is =
    let a = x.state in let b = y.state in
    let registers : AreParts (register_parts a.cpu.r b.cpu.r) = parts_each 16 _ (λ k less. (less, tt)) in
    let cpu : AreParts (cpu_parts a.cpu b.cpu) = parts_append (register_parts a.cpu.r b.cpu.r) (control_parts a.cpu b.cpu) registers (tt, (tt, (tt, (tt, tt)))) in
    let devices : AreParts (device_parts a.devices b.devices) = (tt, (tt, (tt, (tt, (tt, (tt, (tt, (tt, (tt, tt))))))))) in
    let pages : AreParts (page_parts a.words b.words) = parts_each 1024 _ (λ k less. (less, tt)) in
    let last : List (Rule Part) = (pointwise nat_eq x.sent y.sent, part.Sent) ∷ page_parts a.words b.words in
    let rest : AreParts last = (tt, pages) in
    let others = parts_append (device_parts a.devices b.devices) last devices rest in
    first_part (parts x y) p (parts_append (cpu_parts a.cpu b.cpu) (device_parts a.devices b.devices ++ last) cpu others) is
