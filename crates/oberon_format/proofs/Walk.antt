-- The changes between two tables, found slot by slot, and a table while changes are made in place.
use Rattle.oberon_format.proofs.Common.{[], add-one, ap, append-nil, append_assoc, arith, Bool, cases_eq, cases_lt, Change, change_offset, change_rules, changes, changes_below, eq-eqb, false, first_broken, get_or, get_or-set_other, get_or-set_same, get_or_append_left, get_or_push, HasPageIds, if◌then◌else◌, is_change, le-leb, leb-true, length, length-append, List, lt-ltb, ltb-true, nat_le, nat_lt, ne_eqb, no_change, not, page_id_after, slot_floor, PAGE_SLOTS, refl, set, slice_index, slice_set, suc, sym, true, zero, ℕ, ⊎_elim, ◌&&◌, ◌++◌, ◌+◌, ◌<◌, ◌==◌, ◌∙◌, ◌∷◌, ◌≡◌, ◌≢◌, ◌≤◌}
use Rattle.oberon_format.proofs.ChangeLemmas.{after_here, after_next, after_other, member_of, change_in, change_to, are_below, below_same, below_more, changes-lawful}
use Rattle.oberon_format.proofs.RuleLemmas.{and_left, and_right}
use Rattle.oberon_format.specs.declared.fault.Fault.TheVariants as fault

-- a change that is made in a table
pub change_made : (change : ℕ → Change) (prior : ℕ → ℕ) (n : ℕ) (table : List ℕ) → length table ≡ PAGE_SLOTS → (change n).slot < PAGE_SLOTS → HasPageIds table (page_id_after change prior n)
    → HasPageIds (slice_set table (change n).slot (change n).page_id) (page_id_after change prior (n + 1))
change_made change prior n table len inside was p lt =
    ⊎_elim (λ (here : (change n).slot ≡ p).
    ap (λ (q : ℕ). get_or (set table (change n).slot (change n).page_id) q 0) (sym here)
    ∙ get_or-set_same table (change n).slot (change n).page_id 0 (omega arith)
    ∙ sym (after_next change prior n p ∙ after_here change prior n p here))
    (λ (other : (change n).slot ≢ p).
    get_or-set_other table (change n).slot p (change n).page_id 0 (λ e. other (sym e)) ∙ was p lt
    ∙ sym (after_next change prior n p ∙ after_other change prior n p other))
    (cases_eq (change n).slot p)

-- whether a change is lawful depends on the page id in its slot, if that is a slot that it may have
by_slot : (a b x y : Bool) → (a ≡ true → x ≡ y) → (a && b && x) ≡ (a && b && y)
by_slot true b x y same = ap (λ (z : Bool). b && z) (same refl)
by_slot false b x y same = refl

pub change_same : (pages floor : ℕ) (s t : ℕ → ℕ) (change : Change) → ((p : ℕ) → floor ≤ p → p < PAGE_SLOTS → s p ≡ t p) → is_change pages floor s change ≡ is_change pages floor t change
change_same pages floor s t change same =
    by_slot (nat_le floor change.slot && nat_lt change.slot PAGE_SLOTS) (nat_le change.page_id pages) (not (change.page_id == s change.slot)) (not (change.page_id == t change.slot))
    (λ here. ap (λ (n : ℕ). not (change.page_id == n)) (same change.slot (leb-true _ _ (and_left _ _ here)) (ltb-true _ _ (and_right _ _ here))))

-- it is tested in a table in which the changes before it are made
pub change_tested : (pages floor i : ℕ) (prior now : ℕ → ℕ) (change : ℕ → Change) (read : Change) → read ≡ change i → floor ≡ slot_floor change i
    → ((p : ℕ) → floor ≤ p → p < PAGE_SLOTS → now p ≡ prior p) → is_change pages floor now read ≡ is_change pages (slot_floor change i) prior (change i)
change_tested pages floor i prior now change read same at rest =
    ap (λ (c : Change). is_change pages floor now c) same ∙ change_same pages floor now prior (change i) rest
    ∙ ap (λ (n : ℕ). is_change pages n prior (change i)) at

-- the slot of a lawful change rises, and is one of the table's
pub change_rises : (pages floor : ℕ) (prior : ℕ → ℕ) (change : Change) → is_change pages floor prior change ≡ true → floor ≤ change.slot
change_rises pages floor prior change is = leb-true _ _ (and_left _ _ (and_left _ _ (and_left _ _ is)))

pub change_inside : (pages floor : ℕ) (prior : ℕ → ℕ) (change : Change) → is_change pages floor prior change ≡ true → change.slot < PAGE_SLOTS
change_inside pages floor prior change is = ltb-true _ _ (and_right _ _ (and_left _ _ (and_left _ _ is)))

-- its page id is that of a page, and another one was there
pub change_named : (pages floor : ℕ) (prior : ℕ → ℕ) (change : Change) → is_change pages floor prior change ≡ true → change.page_id ≤ pages
change_named pages floor prior change is = leb-true _ _ (and_right _ _ (and_left _ _ is))

pub change_differs : (pages floor : ℕ) (prior : ℕ → ℕ) (change : Change) → is_change pages floor prior change ≡ true → change.page_id ≢ prior change.slot
change_differs pages floor prior change is e =
    let same = eq-eqb change.page_id (prior change.slot) e in
    let other = and_right (nat_le floor change.slot && nat_lt change.slot PAGE_SLOTS && nat_le change.page_id pages) _ is in
    absurd cc

-- the changes of slots below a number of the code
pub below_none : (before table : List ℕ) → changes_below 0 before table ≡ []
unfolding changes_below
below_none before table = refl

pub below_stays : (p : ℕ) (before table : List ℕ) → slice_index before p ≡ slice_index table p
    → changes_below (p + 1) before table ≡ changes_below p before table
below_stays p before table e = ap (λ (n : ℕ). changes_below n before table) (add-one p) ∙ below_same p before table e

pub below_grows : (p : ℕ) (before table : List ℕ) → slice_index before p ≢ slice_index table p
    → changes_below (p + 1) before table ≡ changes_below p before table ++ change_to table p ∷ []
below_grows p before table ne = ap (λ (n : ℕ). changes_below n before table) (add-one p) ∙ below_more p before table ne

pub below_few : (p : ℕ) (before table : List ℕ) → length (changes_below p before table) ≤ p
below_few p before table = (are_below before table p).few

-- the changes of more slots begin with those of fewer
below_first : (p n : ℕ) (before table : List ℕ) → p ≤ n → (more : List Change) × (changes_below n before table ≡ changes_below p before table ++ more)
unfolding changes_below
below_first p zero before table le = let e : 0 ≡ p = omega arith in ([], ap (λ (q : ℕ). changes_below q before table) e ∙ sym (append-nil _))
below_first p (suc n) before table le =
    ⊎_elim (λ (less : p < suc n).
    let first = below_first p n before table (omega arith) in
    let own = if slice_index before n == slice_index table n then [] else change_to table n ∷ [] in
    (first.0 ++ own, ap (λ (cs : List Change). cs ++ own) first.1 ∙ append_assoc (changes_below p before table) first.0 own))
    (λ (more : suc n ≤ p). let e : suc n ≡ p = omega arith in ([], ap (λ (q : ℕ). changes_below q before table) e ∙ sym (append-nil _)))
    (cases_lt p (suc n))

-- the change of a slot in which the tables differ is after those of the slots before
pub record IsNext (p : ℕ) (before table : List ℕ) : Type 0 where
  pub inside : length (changes_below p before table) < length (changes before table)
  pub is : change_in before table (length (changes_below p before table)) ≡ change_to table p

next_change : (p : ℕ) (before table : List ℕ) → p < PAGE_SLOTS → slice_index before p ≢ slice_index table p → IsNext p before table
next_change p before table lt ne =
    let cs = changes_below p before table in let c = change_to table p in
    let first = below_first (suc p) PAGE_SLOTS before table (omega arith) in
    let all : changes before table ≡ (cs ++ c ∷ []) ++ first.0 = first.1 ∙ ap (λ (ds : List Change). ds ++ first.0) (below_more p before table ne) in
    let long = ap (λ (ds : List Change). length ds) all in
    let own = length-append cs (c ∷ []) in
    record {
      inside = omega (arith, length-append (cs ++ c ∷ []) first.0);
      is = ap (λ (ds : List Change). member_of ds (length cs)) all ∙ get_or_append_left (cs ++ c ∷ []) first.0 no_change (length cs) (omega arith) ∙ get_or_push cs c no_change (length cs) refl;
    }

-- of the rule of a change only the page id remains, since the changes between two tables are lawful
third_left : (a b c d : Bool) → a ≡ true → b ≡ true → d ≡ true → (a && b && c && d) ≡ c
third_left a b true d ha hb hd = rw (ha, hb, hd) refl
third_left a b false d ha hb hd = rw (ha, hb) refl

pub number_tested : (pages i : ℕ) (before table : List ℕ) → i < length (changes before table)
    → is_change pages (slot_floor (change_in before table) i) (slice_index before) (change_in before table i) ≡ nat_le (change_in before table i).page_id pages
number_tested pages i before table lt =
    let c = change_in before table i in let are = changes-lawful before table in
    let differs : (c.page_id == slice_index before c.slot) ≡ false = ne_eqb _ _ (are.differs i lt) in
    third_left _ _ (nat_le c.page_id pages) _ (le-leb _ _ (are.rises i lt)) (lt-ltb _ _ (are.inside i lt)) (ap not differs)

-- the rule of the change of a slot in which the tables differ
pub next_rule : (pages offset p : ℕ) (before table : List ℕ) → p < PAGE_SLOTS → slice_index before p ≢ slice_index table p
    → (length (changes_below p before table) < length (changes before table))
    × (first_broken (change_rules pages offset (slice_index before) (change_in before table) (length (changes_below p before table)))
    ≡ first_broken ((nat_le (slice_index table p) pages, fault.Page (change_offset offset (length (changes_below p before table)))) ∷ []))
next_rule pages offset p before table lt ne =
    let m = length (changes_below p before table) in let next = next_change p before table lt ne in
    let test = number_tested pages m before table next.inside ∙ ap (λ (c : Change). nat_le c.page_id pages) next.is in
    (next.inside, ap (λ (holds : Bool). first_broken ((holds, fault.Page (change_offset offset m)) ∷ [])) test)
