-- The parts in which two outcomes are the same, and the first in which they differ.
use Rattle.std.proofs.Common.{◌≡◌, ◌≢◌, ◌<◌, ℕ, Bool, true, false, ◌&&◌, List, [], ◌∷◌, ◌++◌, length, get_or, drop, slice_index, get_or-take, get_or-drop, ◌+◌, ◌*◌, ◌/◌, ◌%◌, None, Some, refl, ap, sym, ◌∙◌, subst, arith, eq-eqb, eqb-true}
use Rattle.std.specs.Prelude.{nat_eq, ◌==◌, All}
use Rattle.std.specs.Bool.{beq}
use Rattle.std.specs.Cmp.{booleans_Decides}
use Rattle.std.specs.Cmp.Lexicographic.{pointwise, bytes_decides}
use Rattle.std.proofs.lemmas.Bool.{and_parts}
use Rattle.std.proofs.lemmas.List.{ext_get_or}
use Rattle.risc_pages.specs.Pages.{page_at}
use Rattle.risc_pages.specs.Delta.{IsFirstDifferentPage}
use Rattle.risc_devices.specs.DeviceState.{DeviceState}
use Rattle.risc_model.specs.MachineState.{CpuState, Flags as FlagsState}
use Rattle.oberon_format.specs.Defined.{Outcome}
use Rattle.oberon_format.specs.FirstFault.{Rule, first_broken}
use Rattle.oberon_check.specs.declared.part.Part.{Part}
use Rattle.oberon_check.specs.declared.part.Part.TheVariants.{R, H, Timer, Sent, Page}
use Rattle.oberon_check.specs.Difference.{same_flags, register_parts, control_parts, cpu_parts, device_parts, page_parts, parts, first_difference, IsFirstDifference}
use Rattle.oberon_check.proofs.Sizes.{IsSized}
use Rattle.oberon_check.proofs.Rules.{met_append, broken_append, met_left, met_right, met, unmet, hold, each_met, each_holds, each_unmet, broken_at, broken_from}

fails : (b : Bool) → (b ≡ true → ⊥) → b ≡ false
fails true never = absurd (never refl)
fails false never = refl

-- ---- two outcomes that differ

module _ (x y : Outcome) where
  abbrev rest : List (Rule Part)
  rest = (pointwise nat_eq x.sent y.sent, Sent) ∷ page_parts x.state.words y.state.words

  abbrev cpu : List (Rule Part)
  cpu = cpu_parts x.state.cpu y.state.cpu

  abbrev devices : List (Rule Part)
  devices = device_parts x.state.devices y.state.devices

  pub in_cpu : (p : Part) → first_broken cpu ≡ Some p → first_difference x y ≡ Some p
  unfolding first_difference
  in_cpu p h = broken_append cpu (devices ++ rest) p h

  pub in_devices : (p : Part) → first_broken cpu ≡ None → first_broken devices ≡ Some p → first_difference x y ≡ Some p
  unfolding first_difference
  in_devices p c h = met_append cpu (devices ++ rest) c ∙ broken_append devices rest p h

  pub in_sent : first_broken cpu ≡ None → first_broken devices ≡ None → x.sent ≢ y.sent → first_difference x y ≡ Some Sent
  unfolding first_difference
  in_sent c d other =
      let differs : pointwise nat_eq x.sent y.sent ≡ false = fails _ (λ e. other ((bytes_decides x.sent y.sent).0 e)) in
      met_append cpu (devices ++ rest) c ∙ met_append devices rest d ∙ unmet (pointwise nat_eq x.sent y.sent) Sent (page_parts x.state.words y.state.words) differs

  after_sent : first_broken cpu ≡ None → first_broken devices ≡ None → x.sent ≡ y.sent → first_difference x y ≡ first_broken (page_parts x.state.words y.state.words)
  unfolding first_difference
  after_sent c d same =
      let held : pointwise nat_eq x.sent y.sent ≡ true = (bytes_decides x.sent y.sent).1 same in
      met_append cpu (devices ++ rest) c ∙ met_append devices rest d ∙ rw held refl

  -- the first page in which the second outcome's memory differs from the first one's
  pub in_page : (p : ℕ) → first_broken cpu ≡ None → first_broken devices ≡ None → x.sent ≡ y.sent → IsFirstDifferentPage y.state.words x.state.words p
      → first_difference x y ≡ Some (Page p)
  in_page p c d same first =
      after_sent c d same
      ∙ each_unmet (λ k. pointwise nat_eq (page_at x.state.words k) (page_at y.state.words k)) Page 1024 p first.inside
      (λ k below. (bytes_decides _ _).1 (sym (first.before k below)))
      (fails _ (λ e. first.differs (sym ((bytes_decides _ _).0 e))))

-- ---- two outcomes that differ in no part

from_flags : (f g : FlagsState) → same_flags f g ≡ true → f ≡ g
from_flags f g h = λ i. record { n = n i; z = z i; c = c i; v = v i }
  where
    three : ((beq f.n g.n && beq f.z g.z && beq f.c g.c) ≡ true) × (beq f.v g.v ≡ true)
    three = and_parts (beq f.n g.n && beq f.z g.z && beq f.c g.c) (beq f.v g.v) h

    two : ((beq f.n g.n && beq f.z g.z) ≡ true) × (beq f.c g.c ≡ true)
    two = and_parts (beq f.n g.n && beq f.z g.z) (beq f.c g.c) three.0

    one : (beq f.n g.n ≡ true) × (beq f.z g.z ≡ true)
    one = and_parts (beq f.n g.n) (beq f.z g.z) two.0

    n : f.n ≡ g.n
    n = (booleans_Decides f.n g.n).0 one.0

    z : f.z ≡ g.z
    z = (booleans_Decides f.z g.z).0 one.1

    c : f.c ≡ g.c
    c = (booleans_Decides f.c g.c).0 two.1

    v : f.v ≡ g.v
    v = (booleans_Decides f.v g.v).0 three.1

pub same_registers : (a b : List ℕ) → length a ≡ 16 → length b ≡ 16 → first_broken (register_parts a b) ≡ None → a ≡ b
same_registers a b m n h = ext_get_or 0 a b (m ∙ sym n) (λ k lt. register k (omega arith))
  where
    register : (k : ℕ) → k < 16 → slice_index a k ≡ slice_index b k
    register k lt = eqb-true _ _ (each_holds (λ i. slice_index a i == slice_index b i) R 16 h k lt)

pub same_cpu : (a b : CpuState) → a.r ≡ b.r → first_broken (control_parts a b) ≡ None → a ≡ b
same_cpu a b r h = λ i. record {
  r = r i;
  h = eqb-true _ _ (all 0 d (omega arith)) i;
  pc = eqb-true _ _ (all 1 d (omega arith)) i;
  flags = from_flags a.flags b.flags (all 2 d (omega arith)) i;
  stop = eqb-true _ _ (all 3 d (omega arith)) i;
}
  where
    d : Rule Part
    d = (true, H)

    all : All (λ rule. rule.0 ≡ true) (control_parts a b)
    all = hold (control_parts a b) h

pub same_devices : (a b : DeviceState) → first_broken (device_parts a b) ≡ None → a ≡ b
same_devices a b h = λ i. record {
  timer = eqb-true _ _ (all 0 d (omega arith)) i;
  rate = eqb-true _ _ (all 1 d (omega arith)) i;
  phase = eqb-true _ _ (all 2 d (omega arith)) i;
  switches = eqb-true _ _ (all 3 d (omega arith)) i;
  leds = eqb-true _ _ (all 4 d (omega arith)) i;
  mouse = eqb-true _ _ (all 5 d (omega arith)) i;
  serial = eqb-true _ _ serial.0 i;
  received = (booleans_Decides a.received b.received).0 serial.1 i;
  keys = (bytes_decides a.keys b.keys).0 (all 7 d (omega arith)) i;
  disk = eqb-true _ _ (all 8 d (omega arith)) i;
}
  where
    d : Rule Part
    d = (true, Timer)

    all : All (λ rule. rule.0 ≡ true) (device_parts a b)
    all = hold (device_parts a b) h

    serial : ((a.serial == b.serial) ≡ true) × (beq a.received b.received ≡ true)
    serial = and_parts (a.serial == b.serial) (beq a.received b.received) (all 6 d (omega arith))

-- word w of a memory is word w % 256 of page w / 256
word_in_page : (xs : List ℕ) (w : ℕ) → get_or xs w 0 ≡ get_or (page_at xs (w / 256)) (w % 256) 0
unfolding page_at
word_in_page xs w =
    let small : w % 256 < 256 = omega arith in
    let e : w ≡ 256 * (w / 256) + w % 256 = omega arith in
    ap (λ (n : ℕ). get_or xs n 0) e ∙ sym (get_or-take 256 (drop (256 * (w / 256)) xs) (w % 256) 0 small ∙ get_or-drop (256 * (w / 256)) xs (w % 256) 0)

same_words : (xs ys : List ℕ) → length xs ≡ 262144 → length ys ≡ 262144 → first_broken (page_parts xs ys) ≡ None → xs ≡ ys
same_words xs ys a b h =
    ext_get_or 0 xs ys (a ∙ sym b)
    (λ w lt. word_in_page xs w ∙ ap (λ (page : List ℕ). get_or page (w % 256) 0) (page (w / 256) (omega arith)) ∙ sym (word_in_page ys w))
  where
    page : (p : ℕ) → p < 1024 → page_at xs p ≡ page_at ys p
    page p lt = (bytes_decides _ _).0 (each_holds (λ k. pointwise nat_eq (page_at xs k) (page_at ys k)) Page 1024 h p lt)

-- outcomes whose parts are the same are the same
pub same_outcome : (x y : Outcome) → x.state.cpu ≡ y.state.cpu → x.state.devices ≡ y.state.devices → x.state.words ≡ y.state.words → x.sent ≡ y.sent → x ≡ y
same_outcome x y cpu devices words sent = λ i. record { state = record { cpu = cpu i; devices = devices i; words = words i }; sent = sent i }

-- outcomes of these sizes in which no part differs are the same
pub same_in_all : (x y : Outcome) → IsSized x.state → IsSized y.state → first_difference x y ≡ None → x ≡ y
unfolding first_difference
same_in_all x y a b h =
    let of_cpu = met_left (cpu x y) (devices x y ++ rest x y) h in
    let registers : List (Rule Part) = register_parts x.state.cpu.r y.state.cpu.r in
    let control : List (Rule Part) = control_parts x.state.cpu y.state.cpu in
    let after = met_right (cpu x y) (devices x y ++ rest x y) h in
    let last = met_right (devices x y) (rest x y) after in
    let sent : pointwise nat_eq x.sent y.sent ≡ true = hold (rest x y) last 0 (true, Sent) (omega arith) in
    same_outcome x y
    (same_cpu x.state.cpu y.state.cpu (same_registers x.state.cpu.r y.state.cpu.r a.registers b.registers (met_left registers control of_cpu)) (met_right registers control of_cpu))
    (same_devices x.state.devices y.state.devices (met_left (devices x y) (rest x y) after))
    (same_words x.state.words y.state.words a.words b.words (met_right ((pointwise nat_eq x.sent y.sent, Sent) ∷ []) (page_parts x.state.words y.state.words) last))
    ((bytes_decides _ _).0 sent)

-- ---- an outcome and itself

number : (n : ℕ) → (n == n) ≡ true
number n = eq-eqb n n refl

bytes : (xs : List ℕ) → pointwise nat_eq xs xs ≡ true
bytes xs = (bytes_decides xs xs).1 refl

flag : (b : Bool) → beq b b ≡ true
flag b = (booleans_Decides b b).1 refl

no_register : (r : List ℕ) → first_broken (register_parts r r) ≡ None
no_register r = each_met (λ i. slice_index r i == slice_index r i) R 16 (λ i lt. number (slice_index r i))

no_control : (c : CpuState) → first_broken (control_parts c c) ≡ None
no_control c = rw (number c.h, number c.pc, flag c.flags.n, flag c.flags.z, flag c.flags.c, flag c.flags.v, number c.stop) refl

no_device : (d : DeviceState) → first_broken (device_parts d d) ≡ None
no_device d =
    rw (number d.timer, number d.rate, number d.phase, number d.switches, number d.leds, number d.mouse, number d.serial, flag d.received, bytes d.keys, number d.disk) refl

no_page : (words : List ℕ) → first_broken (page_parts words words) ≡ None
no_page words = each_met (λ p. pointwise nat_eq (page_at words p) (page_at words p)) Page 1024 (λ p lt. bytes (page_at words p))

pub none_differs : (x : Outcome) → first_difference x x ≡ None
unfolding first_difference
none_differs x =
    met_append (cpu x x) (devices x x ++ rest x x) (met_append (register_parts x.state.cpu.r x.state.cpu.r) (control_parts x.state.cpu x.state.cpu) (no_register x.state.cpu.r) ∙ no_control x.state.cpu)
    ∙ met_append (devices x x) (rest x x) (no_device x.state.devices)
    ∙ met (pointwise nat_eq x.sent x.sent) Sent (page_parts x.state.words x.state.words) (bytes x.sent) (no_page x.state.words)

-- an outcome differs from itself in no part
pub not_first : (x y : Outcome) (p : Part) → x ≡ y → first_difference x y ≡ Some p → ⊥
not_first x y p e h =
    let none : first_difference x y ≡ None = subst (λ (o : Outcome). first_difference x o ≡ None) e (none_differs x) in
    absurd cc

-- there is only one first part in which two outcomes differ
pub one_first : (x y : Outcome) (p q : Part) → first_difference x y ≡ Some p → first_difference x y ≡ Some q → p ≡ q
one_first x y p q a b = cc

-- ---- the two sides of the law of the first difference

pub first_to : (x y : Outcome) (p : Part) → first_difference x y ≡ Some p → IsFirstDifference x y p
unfolding first_difference
first_to x y p h =
    let at = broken_at (parts x y) p h in record { before = at.before; after = at.after; split = at.split; same = at.held }

pub first_from : (x y : Outcome) (p : Part) → IsFirstDifference x y p → first_difference x y ≡ Some p
unfolding first_difference
first_from x y p first = broken_from (parts x y) p (record { before = first.before; after = first.after; split = first.split; held = first.same })
