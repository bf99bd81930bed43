-- The changes between two tables: they are lawful, they make the second table from the first, and no other lawful changes do.
use Rattle.oberon_format.proofs.Common.{[], add-one, ap, append-nil, arith, cases_eq, cases_lt, Change, changes, changes_below, cond-false, cond-true, eq-eqb, get_or_append_left, get_or_default, get_or_push, if◌then◌else◌, length, length-append, List, nat_tests, ne_eqb, no_change, page_id_after, slot_floor, PAGE_SLOTS, refl, slice_index, slice_index_or, subst, suc, sym, zero, ℕ, ⊎_elim, ◌++◌, ◌+◌, ◌<◌, ◌==◌, ◌∙◌, ◌∷◌, ◌≡◌, ◌≢◌, ◌≤◌}
use Rattle.oberon_format.proofs.Bytes.{each_push}

-- each rises, is in the table, and differs from what was there
pub record AreLawful (change : ℕ → Change) (prior : ℕ → ℕ) (n : ℕ) : Type 0 where
  pub rises : (i : ℕ) → i < n → slot_floor change i ≤ (change i).slot
  pub inside : (i : ℕ) → i < n → (change i).slot < PAGE_SLOTS
  pub differs : (i : ℕ) → i < n → (change i).page_id ≢ prior (change i).slot

-- the members of a list of changes, by their indices
abbrev pub member_of : List Change → ℕ → Change
member_of cs i = slice_index_or cs i no_change

-- the changes between two tables, as a function of their numbers
abbrev pub change_in : List ℕ → List ℕ → ℕ → Change
change_in before table = member_of (changes before table)

-- the page id of a table after one change, in the change's slot and elsewhere
pub after_here : (change : ℕ → Change) (prior : ℕ → ℕ) (n p : ℕ) → (change n).slot ≡ p → page_id_after change prior (suc n) p ≡ (change n).page_id
unfolding page_id_after
after_here change prior n p e = cond-true ((change n).slot == p) _ _ (eq-eqb _ _ e)

pub after_other : (change : ℕ → Change) (prior : ℕ → ℕ) (n p : ℕ) → (change n).slot ≢ p → page_id_after change prior (suc n) p ≡ page_id_after change prior n p
unfolding page_id_after
after_other change prior n p ne = cond-false ((change n).slot == p) _ _ (ne_eqb _ _ ne)

-- one more, as code counts it
pub after_next : (change : ℕ → Change) (prior : ℕ → ℕ) (n p : ℕ) → page_id_after change prior (n + 1) p ≡ page_id_after change prior (suc n) p
after_next change prior n p = ap (λ (m : ℕ). page_id_after change prior m p) (add-one n)

pub after_none : (change : ℕ → Change) (prior : ℕ → ℕ) (p : ℕ) → page_id_after change prior 0 p ≡ prior p
unfolding page_id_after
after_none change prior p = refl

-- a page id after changes is one that was there or one of theirs
pub after-bounded : (change : ℕ → Change) (prior : ℕ → ℕ) (n p most : ℕ) → ((i : ℕ) → i < n → (change i).page_id ≤ most) → prior p ≤ most
    → page_id_after change prior n p ≤ most
unfolding page_id_after
after-bounded change prior zero p most new old = old
after-bounded change prior (suc n) p most new old =
    let here = new n (omega arith) in
    let so_far = after-bounded change prior n p most (λ i lt. new i (omega arith)) old in
    grind arith

-- changes that agree lead to the same page ids
pub after-same : (a b : ℕ → Change) (s t : ℕ → ℕ) (n p : ℕ) → ((i : ℕ) → i < n → a i ≡ b i) → s p ≡ t p → page_id_after a s n p ≡ page_id_after b t n p
unfolding page_id_after
after-same a b s t zero p same old = old
after-same a b s t (suc n) p same old =
    ap (λ (c : Change). if c.slot == p then c.page_id else page_id_after a s n p) (same n (omega arith))
    ∙ ap (λ (x : ℕ). if (b n).slot == p then (b n).page_id else x) (after-same a b s t n p (λ i lt. same i (omega arith)) old)

-- the floor of each change but the first is after the change before it
pub floor_next : (change : ℕ → Change) (i : ℕ) → slot_floor change (suc i) ≡ (change i).slot + 1
floor_next change i = grind (arith, nat_tests)

-- it depends on the changes before it alone
pub floor_same : (a b : ℕ → Change) (i : ℕ) → ((j : ℕ) → j < i → a j ≡ b j) → slot_floor a i ≡ slot_floor b i
floor_same a b zero same = refl
floor_same a b (suc i) same = floor_next a i ∙ ap (λ (c : Change). c.slot + 1) (same i (omega arith)) ∙ sym (floor_next b i)

-- a slot after rising changes has the page id that was there
after_floor : (change : ℕ → Change) (prior : ℕ → ℕ) (n p : ℕ) → ((i : ℕ) → i < n → slot_floor change i ≤ (change i).slot) → slot_floor change n ≤ p
    → page_id_after change prior n p ≡ prior p
after_floor change prior zero p rises le = after_none change prior p
after_floor change prior (suc n) p rises le =
    let floor = floor_next change n in
    let rise = rises n (omega arith) in
    after_other change prior n p (λ e. omega arith) ∙ after_floor change prior n p (λ i lt. rises i (omega arith)) (omega arith)

-- changes of slots below n of a table, which has their page ids: they make it from another below n
pub record AreBelow (before table : List ℕ) (n : ℕ) (cs : List Change) : Type 0 where
  pub few : length cs ≤ n
  pub floor : slot_floor (member_of cs) (length cs) ≤ n
  pub below : (i : ℕ) → i < length cs → (member_of cs i).slot < n
  pub rises : (i : ℕ) → i < length cs → slot_floor (member_of cs) i ≤ (member_of cs i).slot
  pub differs : (i : ℕ) → i < length cs → slice_index table (member_of cs i).slot ≢ slice_index before (member_of cs i).slot
  pub new : (i : ℕ) → i < length cs → (member_of cs i).page_id ≡ slice_index table (member_of cs i).slot
  pub makes : (p : ℕ) → p < n → page_id_after (member_of cs) (slice_index before) (length cs) p ≡ slice_index table p

-- the change of a slot
abbrev pub change_to : List ℕ → ℕ → Change
change_to table p = record { slot = p; page_id = slice_index table p }

-- the changes of one slot more, if the tables agree in it and if they differ
pub below_same : (p : ℕ) (before table : List ℕ) → slice_index before p ≡ slice_index table p
    → changes_below (suc p) before table ≡ changes_below p before table
unfolding changes_below
below_same p before table e =
    ap (λ (cs : List Change). changes_below p before table ++ cs) (cond-true (slice_index before p == slice_index table p) [] (change_to table p ∷ []) (eq-eqb _ _ e))
    ∙ append-nil (changes_below p before table)

pub below_more : (p : ℕ) (before table : List ℕ) → slice_index before p ≢ slice_index table p
    → changes_below (suc p) before table ≡ changes_below p before table ++ change_to table p ∷ []
unfolding changes_below
below_more p before table ne =
    ap (λ (cs : List Change). changes_below p before table ++ cs) (cond-false (slice_index before p == slice_index table p) [] (change_to table p ∷ []) (ne_eqb _ _ ne))

-- a fact of each member of a list and of one more
push_each : (P : ℕ → Change → Type 0) (cs : List Change) (c : Change) → ((i : ℕ) → i < length cs → P i (member_of cs i)) → P (length cs) c
    → (i : ℕ) → i < length (cs ++ c ∷ []) → P i (member_of (cs ++ c ∷ []) i)
push_each P cs c each last i lt =
    each_push P cs (length cs) c refl (λ j d less. subst (P j) (get_or_default cs j no_change d less) (each j less)) last i no_change lt

are_next : (before table : List ℕ) (n : ℕ) (cs : List Change) → slice_index before n ≡ slice_index table n → AreBelow before table n cs → AreBelow before table (suc n) cs
are_next before table n cs same are = record {
  few = omega (arith, are.few);
  floor = omega (arith, are.floor);
  below = λ i lt. omega (arith, are.below i lt);
  rises = are.rises;
  differs = are.differs;
  new = are.new;
  makes = λ p lt. ⊎_elim (are.makes p) (λ (more : n ≤ p).
      let e : p ≡ n = omega arith in
      after_floor (member_of cs) (slice_index before) (length cs) p are.rises (omega (arith, are.floor)) ∙ ap (slice_index before) e ∙ same ∙ ap (slice_index table) (sym e))
      (cases_lt p n);
}

are_more : (before table : List ℕ) (n : ℕ) (cs : List Change) → slice_index before n ≢ slice_index table n → AreBelow before table n cs
    → AreBelow before table (suc n) (cs ++ change_to table n ∷ [])
are_more before table n cs ne are =
    let c = change_to table n in
    let change = member_of (cs ++ c ∷ []) in
    let long : length (cs ++ c ∷ []) ≡ suc (length cs) = omega (arith, length-append cs (c ∷ [])) in
    let old : (i : ℕ) → i < length cs → member_of cs i ≡ change i = λ i lt. sym (get_or_append_left cs (c ∷ []) no_change i lt) in
    let last : change (length cs) ≡ c = get_or_push cs c no_change (length cs) refl in
    let at : (change (length cs)).slot ≡ n = ap (λ (x : Change). x.slot) last in
    record {
      few = omega (arith, are.few);
      floor = let next = ap (slot_floor change) long ∙ floor_next change (length cs) in omega arith;
      below = push_each (λ (i : ℕ) (x : Change). x.slot < suc n) cs c (λ i lt. omega (arith, are.below i lt)) (omega arith);
      rises = λ i lt.
          subst (λ (m : ℕ). m ≤ (change i).slot) (floor_same (member_of cs) change i (λ j less. old j (omega arith)))
          (push_each (λ (j : ℕ) (x : Change). slot_floor (member_of cs) j ≤ x.slot) cs c are.rises are.floor i lt);
      differs = push_each (λ (i : ℕ) (x : Change). slice_index table x.slot ≢ slice_index before x.slot) cs c are.differs (λ e. ne (sym e));
      new = push_each (λ (i : ℕ) (x : Change). x.page_id ≡ slice_index table x.slot) cs c are.new refl;
      makes = λ p lt. ap (λ (m : ℕ). page_id_after change (slice_index before) m p) long ∙ ⊎_elim (λ (less : p < n).
          after_other change (slice_index before) (length cs) p (λ e. omega arith)
          ∙ after-same change (member_of cs) (slice_index before) (slice_index before) (length cs) p (λ i under. sym (old i under)) refl ∙ are.makes p less)
          (λ (more : n ≤ p).
          let e : n ≡ p = omega arith in
          after_here change (slice_index before) (length cs) p (at ∙ e) ∙ ap (λ (x : Change). x.page_id) last ∙ ap (slice_index table) e)
          (cases_lt p n);
    }

pub are_below : (before table : List ℕ) (n : ℕ) → AreBelow before table n (changes_below n before table)
unfolding changes_below
are_below before table zero = omega arith
are_below before table (suc n) =
    let are = are_below before table n in
    ⊎_elim (λ (e : slice_index before n ≡ slice_index table n). subst (AreBelow before table (suc n)) (sym (below_same n before table e)) (are_next before table n _ e are))
    (λ (ne : slice_index before n ≢ slice_index table n). subst (AreBelow before table (suc n)) (sym (below_more n before table ne)) (are_more before table n _ ne are))
    (cases_eq (slice_index before n) (slice_index table n))

pub changes_few : (before table : List ℕ) → length (changes before table) ≤ PAGE_SLOTS
changes_few before table = (are_below before table PAGE_SLOTS).few

pub changes-new : (before table : List ℕ) (i : ℕ) → i < length (changes before table)
    → (change_in before table i).page_id ≡ slice_index table (change_in before table i).slot
changes-new before table i lt = (are_below before table PAGE_SLOTS).new i lt

-- the changes between two tables are lawful
pub changes-lawful : (before table : List ℕ) → AreLawful (change_in before table) (slice_index before) (length (changes before table))
changes-lawful before table =
    let are = are_below before table PAGE_SLOTS in
    record { rises = are.rises; inside = are.below; differs = λ i lt e. are.differs i lt (sym (are.new i lt) ∙ e) }

-- applying the changes gives the table
pub changes-make : (before table : List ℕ) (p : ℕ) → p < PAGE_SLOTS
    → page_id_after (change_in before table) (slice_index before) (length (changes before table)) p ≡ slice_index table p
changes-make before table = (are_below before table PAGE_SLOTS).makes

-- these are the first n changes
abbrev AreThese : List Change → (ℕ → Change) → ℕ → Type 0
AreThese cs change n = (length cs ≡ n) × ((i : ℕ) → i < n → member_of cs i ≡ change i)

module _ (before table : List ℕ) (change : ℕ → Change) where
  -- n lawful changes of slots below p make the table from the one before, below p
  record Make (n p : ℕ) : Type 0 where
    lawful : AreLawful change (slice_index before) n
    floor : slot_floor change n ≤ p
    makes : (q : ℕ) → q < p → slice_index table q ≡ page_id_after change (slice_index before) n q

  -- they are the changes to it: none is of the last slot, or the last one is
  none_more : (n p : ℕ) → Make n (suc p) → slot_floor change n ≤ p → AreThese (changes_below p before table) change n → AreThese (changes_below (suc p) before table) change n
  none_more n p make floor are =
      let same = sym (make.makes p (omega arith) ∙ after_floor change (slice_index before) n p make.lawful.rises floor) in
      subst (λ (cs : List Change). AreThese cs change n) (sym (below_same p before table same)) are

  one_more : (n p : ℕ) → Make (suc n) (suc p) → (change n).slot ≡ p → AreThese (changes_below p before table) change n → AreThese (changes_below (suc p) before table) change (suc n)
  one_more n p make at are =
      let cs = changes_below p before table in let c = change_to table p in let count = are.0 in
      let number : slice_index table p ≡ (change n).page_id = make.makes p (omega arith) ∙ after_here change (slice_index before) n p at in
      let differ : slice_index before p ≢ slice_index table p = λ e. make.lawful.differs n (omega arith) (sym number ∙ sym e ∙ ap (slice_index before) (sym at)) in
      let place = sym at in
      let last : c ≡ change n = λ i. record { slot = place i; page_id = number i } in
      let long = length-append cs (c ∷ []) in
      subst (λ (ds : List Change). AreThese ds change (suc n)) (sym (below_more p before table differ))
      (omega arith, λ i lt. push_each (λ (j : ℕ) (x : Change). x ≡ change j) cs c (λ j less. are.1 j (omega arith)) (last ∙ ap change (sym count)) i (omega arith))

  made_are : (p n : ℕ) → Make n p → AreThese (changes_below p before table) change n
  unfolding changes_below
  made_are zero zero make = (refl, λ i lt. absurd (omega arith))
  made_are zero (suc n) make = absurd (omega (arith, floor_next change n, make.floor))
  made_are (suc p) zero make =
      none_more zero p make (omega arith) (made_are p zero (record { lawful = make.lawful; floor = omega arith; makes = λ q lt. make.makes q (omega arith) }))
  made_are (suc p) (suc n) make =
      let floor = floor_next change n in let low = make.floor in
      let rise = make.lawful.rises n (omega arith) in
      ⊎_elim (λ (at : (change n).slot ≡ p). one_more n p make at (made_are p n (record {
        lawful = record {
          rises = λ i lt. make.lawful.rises i (omega arith);
          inside = λ i lt. make.lawful.inside i (omega arith);
          differs = λ i lt. make.lawful.differs i (omega arith);
        };
        floor = omega arith;
        makes = λ q lt. make.makes q (omega arith) ∙ after_other change (slice_index before) n q (λ e. omega arith);
      })))
      (λ (other : (change n).slot ≢ p). let under : slot_floor change (suc n) ≤ p = omega arith in
      none_more (suc n) p make under (made_are p (suc n) (record { lawful = make.lawful; floor = under; makes = λ q lt. make.makes q (omega arith) })))
      (cases_eq (change n).slot p)

-- lawful changes are the changes to the table that they make
pub lawful-are : (change : ℕ → Change) (n : ℕ) (before table : List ℕ) → AreLawful change (slice_index before) n
    → ((p : ℕ) → p < PAGE_SLOTS → slice_index table p ≡ page_id_after change (slice_index before) n p)
    → (length (changes before table) ≡ n) × ((i : ℕ) → i < n → change_in before table i ≡ change i)
lawful-are change n before table lawful makes = made_are before table change PAGE_SLOTS n (record { lawful = lawful; floor = low n lawful.inside; makes = makes })
  where
    low : (n : ℕ) → ((i : ℕ) → i < n → (change i).slot < PAGE_SLOTS) → slot_floor change n ≤ PAGE_SLOTS
    low zero inside = omega arith
    low (suc n) inside = omega (arith, floor_next change n, inside n (omega arith))
