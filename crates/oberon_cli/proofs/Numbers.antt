-- What the typed getter of `clap` reads is the number of the definition.
use Rattle.std.proofs.Common.{◌≡◌, ◌^◌, ◌<◌, ◌≤◌, ℕ, Bool, List, Option, Some, None, Result, Ok, Err, true, false, arith, refl, cond, option_and_then}
use Rattle.std.specs.Str.Parse.{ParsesUnsigned, digits_value, without_leading_plus}
use Rattle.clap.specs.Matches.{ReadsOne}
use Rattle.clap.specs.ValueTests.{is_unsigned_in}
use Rattle.clap.specs.declared.builder.value_parser.ValueParser.TheVariants as vp
use Rattle.clap.proofs.ValueTestLemmas.{Accepts-accepts, accepts-Accepts}
use Rattle.oberon_cli.specs.Asked.{whole_number}

module _ {E : Type 0} (G : List ℕ → Result ℕ E → Type 0) (parses : (t : List ℕ) (r : Result ℕ E) → G t r → ParsesUnsigned 32 10 t r)
    (low high : ℕ) (fits : high < 2 ^ 32) where
  pub no_number : (t : List ℕ) → ReadsOne G t None → whole_number low high t ≡ None
  no_number t h = go (is_unsigned_in low high t) refl
    where
      go : (b : Bool) → is_unsigned_in low high t ≡ b → cond b (Some (digits_value 10 (without_leading_plus t))) None ≡ None
      go false e = refl
      go true e =
          let is = accepts-Accepts false (vp.Unsigned low high) t e in
          let small : digits_value 10 (without_leading_plus t) < 2 ^ 32 = omega arith in
          absurd (parses t (Err h.0) h.1 (is.0, small))

  pub no_text : (o : Option (List ℕ)) → ((t : List ℕ) → o ≡ Some t → ReadsOne G t None) → option_and_then (whole_number low high) o ≡ None
  no_text None read = refl
  no_text (Some t) read = no_number t (read t refl)

  pub in_range : (t : List ℕ) (n : ℕ) → ReadsOne G t (Some n) → low ≤ n → n ≤ high → whole_number low high t ≡ Some n
  in_range t n h above below =
      let read = parses t (Ok n) h in
      let is : n ≡ digits_value 10 (without_leading_plus t) = read.1 in
      let passed : is_unsigned_in low high t ≡ true =
      Accepts-accepts false (vp.Unsigned low high) t (read.0.0, omega arith, omega arith, omega arith) in
      rw (passed, ← is) refl

  pub out_of_range : (t : List ℕ) (n : ℕ) → ReadsOne G t (Some n) → (low ≤ n → n ≤ high → ⊥) → whole_number low high t ≡ None
  out_of_range t n h out = go (is_unsigned_in low high t) refl
    where
      go : (b : Bool) → is_unsigned_in low high t ≡ b → cond b (Some (digits_value 10 (without_leading_plus t))) None ≡ None
      go false e = refl
      go true e =
          let is = accepts-Accepts false (vp.Unsigned low high) t e in
          let read = parses t (Ok n) h in
          let same : n ≡ digits_value 10 (without_leading_plus t) = read.1 in
          absurd (out (omega arith) (omega arith))

  pub text_in_range : (o : Option (List ℕ)) (n : ℕ) → (o ≡ None → Some n ≡ None) → ((t : List ℕ) → o ≡ Some t → ReadsOne G t (Some n)) → low ≤ n → n ≤ high
      → option_and_then (whole_number low high) o ≡ Some n
  text_in_range None n none read above below =
      let bad : Some n ≡ None = none refl in
      cc
  text_in_range (Some t) n none read above below = in_range t n (read t refl) above below

  pub text_out_of_range : (o : Option (List ℕ)) (n : ℕ) → ((t : List ℕ) → o ≡ Some t → ReadsOne G t (Some n)) → (low ≤ n → n ≤ high → ⊥)
      → option_and_then (whole_number low high) o ≡ None
  text_out_of_range None n read out = refl
  text_out_of_range (Some t) n read out = out_of_range t n (read t refl) out
