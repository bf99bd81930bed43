-- The grammar of `json`, a step at a time, as the values of `serde_json`.
use Rattle.std.proofs.Common.{◌≡◌, ◌∙◌, ◌++◌, ◌+◌, ◌-◌, ◌<◌, ◌≤◌, ℕ, zero, suc, inl, inr, Bor, List, [], ◌∷◌, Bool, Option, Some, None, option_map, option_and_then, length, ap, ap₂, arith, refl, sym}
use Rattle.json.specs.Token.{Token}
use Rattle.json.specs.Json as json
use Rattle.json.specs.Json.{Parse, after_end_array, items, items_step, members, members_step, parse_map, read_key, value}
use Rattle.json.proofs.Grammar.{Takes as TakesTokens, items_end, items_more, members_end, members_more, members_no_key, after_end_array-shorter, left, read_key-shorter, skip_value-shorter, value-begin_array, value-begin_object, value_is}
use Rattle.serde_json.specs.Data.{Data, Items, Members, array, boolean, item, no_items, no_members, null, number, object, put, string}
use Rattle.serde_json.specs.Find.{as_object}
use Rattle.serde_json.specs.Read.{converted, number_of, of_items, of_json, of_members}
use Rattle.std.specs.Prelude.{Result, Ok, Err}
use Rattle.oberon_session.specs.Shape.{items_of, list_of, number_of as number_in, text_of}
use Rattle.oberon_session.specs.declared.fault.SessionFault.{SessionFault}
use Rattle.oberon_session.specs.declared.head.Head.{Head}
use Rattle.oberon_session.specs.declared.head.Head.TheVariants as head
use Rattle.oberon_session.specs.inner.Taken.{HasHead, Takes, all_items, all_members, one_value}

-- ---- scalars

pub one-string : (depth : ℕ) (s : List ℕ) (ts : List Token) → one_value depth (Token.string s ∷ ts) ≡ Some (string s, ts)
one-string depth s ts = ap (converted of_json) (value_is depth _)

pub one-number : (depth : ℕ) (s : List ℕ) (ts : List Token) → one_value depth (Token.number s ∷ ts) ≡ option_map (λ d. (d, ts)) (option_map number (number_of s))
one-number depth s ts = ap (converted of_json) (value_is depth _)

pub one-boolean : (depth : ℕ) (b : Bool) (ts : List Token) → one_value depth (Token.boolean b ∷ ts) ≡ Some (boolean b, ts)
one-boolean depth b ts = ap (converted of_json) (value_is depth _)

pub one-null : (depth : ℕ) (ts : List Token) → one_value depth (Token.null ∷ ts) ≡ Some (null, ts)
one-null depth ts = ap (converted of_json) (value_is depth _)

-- ---- tokens that begin no value

pub none-nil : (depth : ℕ) → one_value depth [] ≡ None
none-nil depth = ap (converted of_json) (value_is depth _)

pub none-end_object : (depth : ℕ) (ts : List Token) → one_value depth (Token.end_object ∷ ts) ≡ None
none-end_object depth ts = ap (converted of_json) (value_is depth _)

pub none-end_array : (depth : ℕ) (ts : List Token) → one_value depth (Token.end_array ∷ ts) ≡ None
none-end_array depth ts = ap (converted of_json) (value_is depth _)

pub none-key : (depth : ℕ) (s : List ℕ) (ts : List Token) → one_value depth (Token.key s ∷ ts) ≡ None
none-key depth s ts = ap (converted of_json) (value_is depth _)

pub none-bad : (depth : ℕ) (ts : List Token) → one_value depth (Token.bad ∷ ts) ≡ None
none-bad depth ts = ap (converted of_json) (value_is depth _)

pub none-array : (ts : List Token) → one_value 0 (Token.begin_array ∷ ts) ≡ None
none-array ts = ap (converted of_json) (value_is 0 _)

pub none-object : (ts : List Token) → one_value 0 (Token.begin_object ∷ ts) ≡ None
none-object ts = ap (converted of_json) (value_is 0 _)

-- ---- what is converted

abbrev pick : {A : Type 0} → A → Option A → A
pick d None = d
pick d (Some a) = a

found : {A B : Type 0} (a : A) (r s : List Token) (x : Option B) (b : B) → option_map {U = B × List Token} (λ y. (y, r)) x ≡ Some (b, s) → (r ≡ s) × (x ≡ Some b)
found a r s None b e = absurd cc
found a r s (Some y) b e =
    let same = ap (pick (y, r)) e in
    (ap (λ p. p.1) same, ap (λ p. Some p.0) same)

converted-some : {A B : Type 0} (f : A → Option B) (o : Option (A × List Token)) (b : B) (r : List Token) → converted f o ≡ Some (b, r)
    → (a : A) × (o ≡ Some (a, r)) × (f a ≡ Some b)
converted-some f None b r e = absurd cc
converted-some f (Some p) b r e =
    let both = found p.0 p.1 r (f p.0) b e in
    (p.0, ap (λ s. Some (p.0, s)) both.0, both.1)

refused : {B : Type 0} (r : List Token) (x : Option B) → option_map {U = B × List Token} (λ y. (y, r)) x ≡ None → x ≡ None
refused r None e = refl
refused r (Some y) e = absurd cc

-- ---- arrays and objects

twice : {A B : Type 0} (g : A → B) (r : List Token) (x : Option A) → option_map (λ b. (b, r)) (option_map g x) ≡ parse_map g (option_map (λ a. (a, r)) x)
twice g r None = refl
twice g r (Some a) = refl

converted-array : (o : Option (json.Items × List Token)) → converted of_json (parse_map json.array o) ≡ parse_map array (converted of_items o)
converted-array None = refl
converted-array (Some p) = twice array p.1 (of_items p.0)

converted-object : (o : Option (json.Members × List Token)) → converted of_json (parse_map json.object o) ≡ parse_map object (converted (λ ms. of_members ms no_members) o)
converted-object None = refl
converted-object (Some p) = twice object p.1 (of_members p.0 no_members)

pub one-array : (inside : ℕ) (ts : List Token) → one_value (inside + 1) (Token.begin_array ∷ ts) ≡ parse_map array (all_items inside ts)
one-array inside ts =
    let same : inside + 1 - 1 ≡ inside = omega arith in
    let opened = value-begin_array (inside + 1) ts (omega arith) in
    ap (converted of_json) (opened ∙ ap (λ d. parse_map json.array (items (value d) (length ts) ts)) same) ∙ converted-array (items (value inside) (length ts) ts)

pub one-object : (inside : ℕ) (ts : List Token) → one_value (inside + 1) (Token.begin_object ∷ ts) ≡ parse_map object (all_members inside no_members ts)
one-object inside ts =
    let same : inside + 1 - 1 ≡ inside = omega arith in
    let opened = value-begin_object (inside + 1) ts (omega arith) in
    ap (converted of_json) (opened ∙ ap (λ d. parse_map json.object (members (value d) (length ts) ts)) same) ∙ converted-object (members (value inside) (length ts) ts)

pub one-shorter : (depth : ℕ) (ts r : List Token) (d : Data) → one_value depth ts ≡ Some (d, r) → length r < length ts
one-shorter depth ts r d e =
    let j = converted-some of_json (value depth ts) d r e in
    skip_value-shorter depth ts r (ap left j.1)

-- ---- the count that bounds the turns of a loop is no part of the answer

module _ (p : Parse json.Json) (shorter : TakesTokens p) where
  items-turn : (n m : ℕ) (ts : List Token) (closed : Option (List Token)) (first : Option (json.Json × List Token)) → p ts ≡ first
      → ((r : List Token) → length r < length ts → items p n r ≡ items p m r) → items_step p (items p n) ts closed ≡ items_step p (items p m) ts closed
  items-turn n m ts (Some r) first is more = refl
  items-turn n m ts None None is more = rw is refl
  items-turn n m ts None (Some q) is more = rw is (ap (parse_map (json.item q.0)) (more q.1 (shorter ts q.1 (ap left is))))

  items-nil : (m : ℕ) (ts : List Token) (closed : Option (List Token)) (first : Option (json.Json × List Token)) → length ts ≤ 0 → after_end_array ts ≡ closed → p ts ≡ first
      → None ≡ items_step p (items p m) ts closed
  items-nil m ts (Some r) first empty at is = absurd (omega (arith, after_end_array-shorter ts r at))
  items-nil m ts None None empty at is = rw is refl
  items-nil m ts None (Some q) empty at is = absurd (omega (arith, shorter ts q.1 (ap left is)))

  items-fuel : (n m : ℕ) (ts : List Token) → length ts ≤ n → length ts ≤ m → items p n ts ≡ items p m ts
  unfolding items
  items-fuel zero zero ts a b = refl
  items-fuel zero (suc m) ts a b = items-nil m ts (after_end_array ts) (p ts) a refl refl
  items-fuel (suc n) zero ts a b = sym (items-nil n ts (after_end_array ts) (p ts) b refl refl)
  items-fuel (suc n) (suc m) ts a b = items-turn n m ts (after_end_array ts) (p ts) refl (λ r less. items-fuel n m r (omega arith) (omega arith))

  members-turn : (n m : ℕ) (ts s : List Token) (key : Option (List ℕ)) (first : Option (json.Json × List Token)) → p s ≡ first → length s < length ts
      → ((r : List Token) → length r < length ts → members p n r ≡ members p m r) → members_step p (members p n) key s ≡ members_step p (members p m) key s
  members-turn n m ts s None first is less more = refl
  members-turn n m ts s (Some k) None is less more = rw is refl
  members-turn n m ts s (Some k) (Some q) is less more = rw is (ap (parse_map (json.member k q.0)) (more q.1 (omega (arith, shorter s q.1 (ap left is)))))

  members-read : (n m : ℕ) (ts : List Token) (key : Option (Option (List ℕ) × List Token)) → read_key ts ≡ key → ((r : List Token) → length r < length ts → members p n r ≡ members p m r)
      → option_and_then (λ q. members_step p (members p n) q.0 q.1) key ≡ option_and_then (λ q. members_step p (members p m) q.0 q.1) key
  members-read n m ts None at more = refl
  members-read n m ts (Some q) at more = members-turn n m ts q.1 q.0 (p q.1) refl (read_key-shorter ts q.0 q.1 at) more

  members-nil : (m : ℕ) (ts : List Token) (key : Option (Option (List ℕ) × List Token)) → length ts ≤ 0 → read_key ts ≡ key → None ≡ option_and_then (λ q. members_step p (members p m) q.0 q.1) key
  members-nil m ts None empty at = refl
  members-nil m ts (Some q) empty at = absurd (omega (arith, read_key-shorter ts q.0 q.1 at))

  members-fuel : (n m : ℕ) (ts : List Token) → length ts ≤ n → length ts ≤ m → members p n ts ≡ members p m ts
  unfolding members
  members-fuel zero zero ts a b = refl
  members-fuel zero (suc m) ts a b = members-nil m ts (read_key ts) a refl
  members-fuel (suc n) zero ts a b = sym (members-nil n ts (read_key ts) b refl)
  members-fuel (suc n) (suc m) ts a b = members-read n m ts (read_key ts) refl (λ r less. members-fuel n m r (omega arith) (omega arith))

-- ---- a turn of the loop over items

with-item : (j : json.Json) (d : Data) → of_json j ≡ Some d → (o : Option (json.Items × List Token)) → converted of_items (parse_map (json.item j) o) ≡ parse_map (item d) (converted of_items o)
with-item j d e None = refl
with-item j d e (Some p) = rw e (twice (item d) p.1 (of_items p.0))

without-item : (j : json.Json) → of_json j ≡ None → (o : Option (json.Items × List Token)) → converted of_items (parse_map (json.item j) o) ≡ None
without-item j e None = refl
without-item j e (Some p) = rw e refl

pub items-over : (depth : ℕ) (ts r : List Token) → after_end_array ts ≡ Some r → all_items depth ts ≡ Some (no_items, r)
items-over depth ts r closed = ap (converted of_items) (items_end (value depth) (length ts) ts r (omega arith) closed)

pub items-more : (depth : ℕ) (ts r : List Token) (d : Data) → after_end_array ts ≡ None → one_value depth ts ≡ Some (d, r) → all_items depth ts ≡ parse_map (item d) (all_items depth r)
items-more depth ts r d going e =
    let p = value depth in
    let j = converted-some of_json (p ts) d r e in
    let less = one-shorter depth ts r d e in
    let one = items_more p (length ts) ts r j.0 (omega (arith, less)) going j.1 in
    let same = items-fuel p (skip_value-shorter depth) (length ts - 1) (length r) r (omega (arith, less)) (omega arith) in
    ap (converted of_items) (one ∙ ap (parse_map (json.item j.0)) same) ∙ with-item j.0 d j.2 (items p (length r) r)

no-item : (more : Parse json.Items) (o : Option (json.Json × List Token)) → converted of_json o ≡ None → converted of_items (option_and_then (λ q. parse_map (json.item q.0) (more q.1)) o) ≡ None
no-item more None e = refl
no-item more (Some q) e = without-item q.0 (refused q.1 (of_json q.0) e) (more q.1)

items-none-by : (depth n : ℕ) (ts : List Token) → after_end_array ts ≡ None → one_value depth ts ≡ None → converted of_items (items (value depth) n ts) ≡ None
unfolding items
items-none-by depth zero ts going e = refl
items-none-by depth (suc n) ts going e = ap (λ o. converted of_items (items_step (value depth) (items (value depth) n) ts o)) going ∙ no-item (items (value depth) n) (value depth ts) e

pub items-none : (depth : ℕ) (ts : List Token) → after_end_array ts ≡ None → one_value depth ts ≡ None → all_items depth ts ≡ None
items-none depth ts going e = items-none-by depth (length ts) ts going e

first-of : (d : Data) (o : Option (Items × List Token)) (ms : Items) (left : List Token) → parse_map (item d) o ≡ Some (ms, left) → (rest : Items) × (ms ≡ item d rest)
first-of d None ms left e = absurd cc
first-of d (Some p) ms left e = (p.0, sym (ap (λ q. q.0) (ap (pick (item d p.0, p.1)) e)))

none-taken : (taken : Items × List Token) → None ≡ Some taken → ⊥
none-taken taken e = absurd cc

-- items that do not end at once have a first
pub items-some : (depth : ℕ) (ts left : List Token) (ms : Items) → after_end_array ts ≡ None → all_items depth ts ≡ Some (ms, left) → (d : Data) × (rest : Items) × (ms ≡ item d rest)
items-some depth ts left ms going is = go (one_value depth ts) refl
  where
    go : (first : Option (Data × List Token)) → one_value depth ts ≡ first → (d : Data) × (rest : Items) × (ms ≡ item d rest)
    go None one = absurd (none-taken (ms, left) (sym (items-none depth ts going one) ∙ is))
    go (Some p) one =
        let first = first-of p.0 (all_items depth p.1) ms left (sym (items-more depth ts p.1 p.0 going one) ∙ is) in
        (p.0, first.0, first.1)

-- ---- a turn of the loop over members

module _ (before : Members) where
  with-member : (k : List ℕ) (j : json.Json) (d : Data) → of_json j ≡ Some d → (o : Option (json.Members × List Token))
      → converted (λ ms. of_members ms before) (parse_map (json.member k j) o) ≡ converted (λ ms. of_members ms (put k d before)) o
  with-member k j d e None = refl
  with-member k j d e (Some p) = rw e refl

  without-member : (k : List ℕ) (j : json.Json) → of_json j ≡ None → (o : Option (json.Members × List Token)) → converted (λ ms. of_members ms before) (parse_map (json.member k j) o) ≡ None
  without-member k j e None = refl
  without-member k j e (Some p) = rw e refl

  pub members-over : (depth : ℕ) (ts r : List Token) → read_key ts ≡ Some (None, r) → all_members depth before ts ≡ Some (before, r)
  members-over depth ts r closed = ap (converted (λ ms. of_members ms before)) (members_end (value depth) (length ts) ts r (omega arith) closed)

  pub members-more : (depth : ℕ) (k : List ℕ) (ts s r : List Token) (d : Data) → read_key ts ≡ Some (Some k, s) → one_value depth s ≡ Some (d, r)
      → all_members depth before ts ≡ all_members depth (put k d before) r
  members-more depth k ts s r d key e =
      let p = value depth in
      let j = converted-some of_json (p s) d r e in
      let less = one-shorter depth s r d e in
      let named = read_key-shorter ts (Some k) s key in
      let one = members_more p (length ts) k ts s r j.0 (omega (arith, named)) key j.1 in
      let same = members-fuel p (skip_value-shorter depth) (length ts - 1) (length r) r (omega (arith, less, named)) (omega arith) in
      ap (converted (λ ms. of_members ms before)) (one ∙ ap (parse_map (json.member k j.0)) same) ∙ with-member k j.0 d j.2 (members p (length r) r)

  no-member : (k : List ℕ) (more : Parse json.Members) (o : Option (json.Json × List Token)) → converted of_json o ≡ None
      → converted (λ ms. of_members ms before) (option_and_then (λ q. parse_map (json.member k q.0) (more q.1)) o) ≡ None
  no-member k more None e = refl
  no-member k more (Some q) e = without-member k q.0 (refused q.1 (of_json q.0) e) (more q.1)

  members-none-by : (depth n : ℕ) (k : List ℕ) (ts s : List Token) → read_key ts ≡ Some (Some k, s) → one_value depth s ≡ None → converted (λ ms. of_members ms before) (members (value depth) n ts) ≡ None
  unfolding members
  members-none-by depth zero k ts s key e = refl
  members-none-by depth (suc n) k ts s key e = rw key (no-member k (members (value depth) n) (value depth s) e)

  pub members-none : (depth : ℕ) (k : List ℕ) (ts s : List Token) → read_key ts ≡ Some (Some k, s) → one_value depth s ≡ None → all_members depth before ts ≡ None
  members-none depth k ts s key e = members-none-by depth (length ts) k ts s key e

  pub members-no_key : (depth : ℕ) (ts : List Token) → read_key ts ≡ None → all_members depth before ts ≡ None
  members-no_key depth ts e = ap (converted (λ ms. of_members ms before)) (members_no_key (value depth) (length ts) ts e)

-- ---- the loop over items, as far as it has come

abbrev pub items_before : List Data → Items → Items
items_before [] rest = rest
items_before (d ∷ ds) rest = item d (items_before ds rest)

items_push : (ds : List Data) (d : Data) (rest : Items) → items_before ds (item d rest) ≡ items_before (ds ++ d ∷ []) rest
items_push [] d rest = refl
items_push (e ∷ ds) d rest = ap (item e) (items_push ds d rest)

one-more : (ds : List Data) (d : Data) (o : Option (Items × List Token)) → parse_map (items_before ds) (parse_map (item d) o) ≡ parse_map (items_before (ds ++ d ∷ [])) o
one-more ds d None = refl
one-more ds d (Some p) = ap (λ found. Some (found, p.1)) (items_push ds d p.0)

none-before : (o : Option (Items × List Token)) → o ≡ parse_map (items_before []) o
none-before None = refl
none-before (Some p) = refl

pub list-before : (ds : List Data) → list_of (items_before ds no_items) ≡ ds
list-before [] = refl
list-before (d ∷ ds) = ap (λ rest. d ∷ rest) (list-before ds)

-- of the items from `start` on, these were taken, and the others are ahead
abbrev pub HasTaken : ℕ → List Token → List Data → List Token → Type 0
HasTaken depth start taken ahead = (all_items depth start ≡ parse_map (items_before taken) (all_items depth ahead)) × (length ahead ≤ length start)

pub taken-none : (depth : ℕ) (start : List Token) → HasTaken depth start [] start
taken-none depth start = (none-before (all_items depth start), omega arith)

module _ (depth : ℕ) (start : List Token) (taken : List Data) (ahead : List Token) (has : HasTaken depth start taken ahead) where
  pub taken-more : (rest : List Token) (d : Data) → after_end_array ahead ≡ None → one_value depth ahead ≡ Some (d, rest) → HasTaken depth start (taken ++ d ∷ []) rest
  taken-more rest d going one =
      let less = one-shorter depth ahead rest d one in
      (has.0 ∙ ap (parse_map (items_before taken)) (items-more depth ahead rest d going one) ∙ one-more taken d (all_items depth rest), omega (arith, less, has.1))

  pub taken-all : (rest : List Token) → after_end_array ahead ≡ Some rest → all_items depth start ≡ Some (items_before taken no_items, rest)
  taken-all rest closed = has.0 ∙ ap (parse_map (items_before taken)) (items-over depth ahead rest closed)

  pub taken-refused : after_end_array ahead ≡ None → one_value depth ahead ≡ None → all_items depth start ≡ None
  taken-refused going none = has.0 ∙ ap (parse_map (items_before taken)) (items-none depth ahead going none)

-- the members from `start` on are these, and those ahead
abbrev pub HasFound : ℕ → List Token → Members → List Token → Type 0
HasFound depth start found ahead = (all_members depth no_members start ≡ all_members depth found ahead) × (length ahead ≤ length start)

module _ (depth : ℕ) (start : List Token) (found : Members) (ahead : List Token) (has : HasFound depth start found ahead) where
  pub found-more : (k : List ℕ) (s rest : List Token) (d : Data) → read_key ahead ≡ Some (Some k, s) → one_value depth s ≡ Some (d, rest) → HasFound depth start (put k d found) rest
  found-more k s rest d key one =
      let less = one-shorter depth s rest d one in
      let named = read_key-shorter ahead (Some k) s key in
      (has.0 ∙ members-more found depth k ahead s rest d key one, omega (arith, less, named, has.1))

  pub found-all : (rest : List Token) → read_key ahead ≡ Some (None, rest) → all_members depth no_members start ≡ Some (found, rest)
  found-all rest closed = has.0 ∙ members-over found depth ahead rest closed

  pub found-refused : (k : List ℕ) (s : List Token) → read_key ahead ≡ Some (Some k, s) → one_value depth s ≡ None → all_members depth no_members start ≡ None
  found-refused k s key none = has.0 ∙ members-none found depth k ahead s key none

  pub found-no_key : read_key ahead ≡ None → all_members depth no_members start ≡ None
  found-no_key none = has.0 ∙ members-no_key found depth ahead none

-- ---- a whole array or object

module _ {T : Type 0} (old new : List Token) (result : Result T SessionFault) (depth inside : ℕ) (ts : List Token) (deep : depth ≡ inside + 1) where
  pub takes-array : (P : Items → T → Type 0) → ts ≡ Token.begin_array ∷ old → Takes (all_items inside old) new P result
      → Takes (one_value depth ts) new (λ json found. (items : Items) × (json ≡ array items) × P items found) result
  takes-array P first takes = go result takes (ap₂ one_value deep first ∙ one-array inside old)
    where
      go : (result : Result T SessionFault) → Takes (all_items inside old) new P result → one_value depth ts ≡ parse_map array (all_items inside old)
          → Takes (one_value depth ts) new (λ json found. (items : Items) × (json ≡ array items) × P items found) result
      go (Ok found) takes is = (array takes.0, is ∙ ap (parse_map array) takes.1, (takes.0, refl, takes.2))
      go (Err fault) takes is = λ no. ((takes no).0, is ∙ ap (parse_map array) (takes no).1)

  pub takes-object : (P : Members → T → Type 0) → ts ≡ Token.begin_object ∷ old → Takes (all_members inside no_members old) new P result
      → Takes (one_value depth ts) new (λ json found. (members : Members) × (json ≡ object members) × P members found) result
  takes-object P first takes = go result takes (ap₂ one_value deep first ∙ one-object inside old)
    where
      go : (result : Result T SessionFault) → Takes (all_members inside no_members old) new P result → one_value depth ts ≡ parse_map object (all_members inside no_members old)
          → Takes (one_value depth ts) new (λ json found. (members : Members) × (json ≡ object members) × P members found) result
      go (Ok found) takes is = (object takes.0, is ∙ ap (parse_map object) takes.1, (takes.0, refl, takes.2))
      go (Err fault) takes is = λ no. ((takes no).0, is ∙ ap (parse_map object) (takes no).1)

pub takes-weaker : {A T : Type 0} (taken : Option (A × List Token)) (new : List Token) (P Q : A → T → Type 0) (result : Result T SessionFault) → ((json : A) (found : T) → P json found → Q json found)
    → Takes taken new P result → Takes taken new Q result
takes-weaker taken new P Q (Ok found) weaker takes = (takes.0, takes.1, weaker takes.0 found takes.2)
takes-weaker taken new P Q (Err fault) weaker takes = takes

-- ---- a value with another head

module _ (json : Data) where
  pub not-number : (at : Head) → HasHead json at → ((n : Option ℕ) → at ≡ head.Number n → ⊥) → None ≡ number_in json
  not-number (head.Object inside) h other = rw h.1 refl
  not-number (head.Array inside) h other = rw h.1 refl
  not-number (head.Text text) h other = rw h refl
  not-number (head.Number n) h other = absurd (other n refl)
  not-number head.Other (inl h) other = rw h refl
  not-number head.Other (inr h) other = rw h.1 refl

  pub not-text : (at : Head) → HasHead json at → ((text : Bor (List ℕ)) → at ≡ head.Text text → ⊥) → None ≡ text_of json
  not-text (head.Object inside) h other = rw h.1 refl
  not-text (head.Array inside) h other = rw h.1 refl
  not-text (head.Text text) h other = absurd (other text refl)
  not-text (head.Number n) h other = rw h.1 refl
  not-text head.Other (inl h) other = rw h refl
  not-text head.Other (inr h) other = rw h.1 refl

  pub not-array : (at : Head) → HasHead json at → ((inside : ℕ) → at ≡ head.Array inside → ⊥) → None ≡ items_of json
  not-array (head.Object inside) h other = rw h.1 refl
  not-array (head.Array inside) h other = absurd (other inside refl)
  not-array (head.Text text) h other = rw h refl
  not-array (head.Number n) h other = rw h.1 refl
  not-array head.Other (inl h) other = rw h refl
  not-array head.Other (inr h) other = rw h.1 refl

  pub not-object : (at : Head) → HasHead json at → ((inside : ℕ) → at ≡ head.Object inside → ⊥) → None ≡ as_object json
  not-object (head.Object inside) h other = absurd (other inside refl)
  not-object (head.Array inside) h other = rw h.1 refl
  not-object (head.Text text) h other = rw h refl
  not-object (head.Number n) h other = rw h.1 refl
  not-object head.Other (inl h) other = rw h refl
  not-object head.Other (inr h) other = rw h.1 refl

-- ---- arrays and objects, by their heads

pub array-read : (depth inside : ℕ) (ts old new : List Token) (items : Items) → depth ≡ inside + 1 → ts ≡ Token.begin_array ∷ old → all_items inside old ≡ Some (items, new)
    → one_value depth ts ≡ Some (array items, new)
array-read depth inside ts old new items deep first is = ap₂ one_value deep first ∙ one-array inside old ∙ ap (parse_map array) is

pub object-read : (depth inside : ℕ) (ts old new : List Token) (members : Members) → depth ≡ inside + 1 → ts ≡ Token.begin_object ∷ old → all_members inside no_members old ≡ Some (members, new)
    → one_value depth ts ≡ Some (object members, new)
object-read depth inside ts old new members deep first is = ap₂ one_value deep first ∙ one-object inside old ∙ ap (parse_map object) is

pub object-refused : (depth inside : ℕ) (ts old : List Token) → depth ≡ inside + 1 → ts ≡ Token.begin_object ∷ old → all_members inside no_members old ≡ None → one_value depth ts ≡ None
object-refused depth inside ts old deep first is = ap₂ one_value deep first ∙ one-object inside old ∙ ap (parse_map object) is

-- ---- an item at a time

module _ (depth : ℕ) (start : List Token) (taken : List Data) (ahead after : List Token) (has : HasTaken depth start taken ahead) (going : (after_end_array ahead ≡ None) × (after ≡ ahead)) where
  pub next-taken : (rest : List Token) (d : Data) → one_value depth after ≡ Some (d, rest) → HasTaken depth start (taken ++ d ∷ []) rest
  next-taken rest d one = taken-more depth start taken ahead has rest d going.0 (ap (one_value depth) (sym going.1) ∙ one)

  pub next-refused : one_value depth after ≡ None → all_items depth start ≡ None
  next-refused none = taken-refused depth start taken ahead has going.0 (ap (one_value depth) (sym going.1) ∙ none)
