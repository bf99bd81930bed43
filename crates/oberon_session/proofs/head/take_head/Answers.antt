use Rattle.std.proofs.Common.{◌≡◌, ◌∙◌, ◌⊎◌, inl, inr, Option, option_map, Some, None, List, [], ◌∷◌, Bool, Bor, ℕ, ap, arith, refl, sym}
use Rattle.json.specs.Token.{Token}
use Rattle.json.specs.declared.token.Token.{Token as RustToken}
use Rattle.json.specs.declared.token.Token.TheVariants as token
use Rattle.json.specs.Reads.{token_of}
use Rattle.serde_json.specs.Data.{Data, Num, boolean, null, number, string}
use Rattle.serde_json.specs.Find.{as_u64}
use Rattle.serde_json.specs.Read.{number_of}
use Rattle.oberon_session.proofs.Taking.{none-array, none-bad, none-end_array, none-end_object, none-key, none-nil, none-object, one-boolean, one-null, one-number, one-string}
use Rattle.oberon_session.specs.inner.Taken.{one_value}
use Rattle.oberon_session.proofs.head.take_head.Goals as goal

begins-no-value : (depth : ℕ) (t : RustToken) (ts : List Token) → (t ≡ token.EndObject) ⊎ ((t ≡ token.EndArray) ⊎ (((s : Bor (List ℕ)) × (t ≡ token.Key s)) ⊎ (t ≡ token.Bad)))
    → one_value depth (token_of t ∷ ts) ≡ None
begins-no-value depth t ts (inl e) = rw e (none-end_object depth ts)
begins-no-value depth t ts (inr (inl e)) = rw e (none-end_array depth ts)
begins-no-value depth t ts (inr (inr (inl e))) = rw e.1 (none-key depth e.0.now ts)
begins-no-value depth t ts (inr (inr (inr e))) = rw e (none-bad depth ts)

other : (depth : ℕ) (t : RustToken) (ts : List Token) → ((b : Bool) × (t ≡ token.Bool b)) ⊎ (t ≡ token.Null)
    → (x : Data) × (one_value depth (token_of t ∷ ts) ≡ Some (x, ts)) × ((x ≡ null) ⊎ ((b : Bool) × (x ≡ boolean b)))
other depth t ts (inl e) = (boolean e.0, rw e.1 (one-boolean depth e.0 ts), inr (e.0, refl))
other depth t ts (inr e) = (null, rw e (one-null depth ts), inl refl)

pub returns-in_default-clause-err : goal.returns-in_default-clause-err
returns-in_default-clause-err c =
    let empty : c.args.reader.now ≡ [] = grind arith in
    (refl, rw empty (none-nil _))

pub returns-in-None-clause-err : goal.returns-in-None-clause-err
returns-in-None-clause-err c =
    let none : c.args.depth ≡ 0 = grind arith in
    let first : c.args.reader.now ≡ Token.begin_object ∷ c.next.new.self = grind arith in
    (refl, rw (none, first) (none-object _))

pub returns-in-None-checked_sub-clause-err : goal.returns-in-None-checked_sub-clause-err
returns-in-None-checked_sub-clause-err c =
    let none : c.args.depth ≡ 0 = grind arith in
    let first : c.args.reader.now ≡ Token.begin_array ∷ c.next.new.self = grind arith in
    (refl, rw (none, first) (none-array _))

pub returns-in-String-clause-ok : goal.returns-in-String-clause-ok
returns-in-String-clause-ok c =
    let first : c.args.reader.now ≡ Token.string c.in-String.text.now ∷ c.next.new.self = grind arith in
    (string c.in-String.text.now, rw first (one-string _ _ _), refl)

number-read : (depth : ℕ) (s : List ℕ) (ts rest : List Token) (n : Option ℕ) → ts ≡ Token.number s ∷ rest → Some n ≡ option_map as_u64 (number_of s)
    → (x : Data) × (one_value depth ts ≡ Some (x, rest)) × ((m : Num) × (x ≡ number m) × (n ≡ as_u64 m))
number-read depth s ts rest n first is = go (number_of s) is (ap (one_value depth) first ∙ one-number depth s rest)
  where
    go : (o : Option Num) → Some n ≡ option_map as_u64 o → one_value depth ts ≡ option_map (λ d. (d, rest)) (option_map number o)
        → (x : Data) × (one_value depth ts ≡ Some (x, rest)) × ((m : Num) × (x ≡ number m) × (n ≡ as_u64 m))
    go None is read = absurd cc
    go (Some m) is read =
        let same : n ≡ as_u64 m = cc in
        (number m, read, (m, refl, same))

number-refused : (depth : ℕ) (s : List ℕ) (ts rest : List Token) → ts ≡ Token.number s ∷ rest → None ≡ option_map as_u64 (number_of s) → one_value depth ts ≡ None
number-refused depth s ts rest first is = go (number_of s) is (ap (one_value depth) first ∙ one-number depth s rest)
  where
    go : (o : Option Num) → None ≡ option_map as_u64 o → one_value depth ts ≡ option_map (λ d. (d, rest)) (option_map number o) → one_value depth ts ≡ None
    go None is read = read
    go (Some m) is read = absurd cc

pub returns-in-Some-whole_number-clause-ok : goal.returns-in-Some-whole_number-clause-ok
returns-in-Some-whole_number-clause-ok c =
    let first : c.args.reader.now ≡ Token.number c.in-Number.digits.now ∷ c.next.new.self = grind arith in
    number-read _ c.in-Number.digits.now _ _ c.in-Some-whole_number.n first (sym c.in-Some-whole_number.is ∙ c.whole_number.ensures)

pub returns-in-None-whole_number-clause-err : goal.returns-in-None-whole_number-clause-err
returns-in-None-whole_number-clause-err c =
    let first : c.args.reader.now ≡ Token.number c.in-Number.digits.now ∷ c.next.new.self = grind arith in
    (refl, number-refused _ c.in-Number.digits.now _ c.next.new.self first (sym c.in-None-whole_number.is ∙ c.whole_number.ensures))

pub returns-in-Bool-clause-ok : goal.returns-in-Bool-clause-ok
returns-in-Bool-clause-ok c =
    let first : c.args.reader.now ≡ token_of c.in-Some.token ∷ c.next.new.self = grind arith in
    rw first (other _ _ _ c.in-Bool.is)

pub returns-in-EndObject-clause-err : goal.returns-in-EndObject-clause-err
returns-in-EndObject-clause-err c =
    let first : c.args.reader.now ≡ token_of c.in-Some.token ∷ c.next.new.self = grind arith in
    (refl, rw first (begins-no-value _ _ _ c.in-EndObject.is))
