-- What `clap` reads of an option with a number.
use Rattle.std.proofs.Common.{◌≡◌, ◌^◌, ℕ, Bool, true, false, List, [], ◌∷◌, length, Option}
use Rattle.std.proofs.Common.{Some, None, Result, Ok, Err, refl, lt-ltb, ltb-true}
use Rattle.std.specs.Prelude.{nat_lt, option_and_then}
use Rattle.std.specs.List.{list_all}
use Rattle.std.specs.Char.{digit_value}
use Rattle.std.specs.Str.Parse.{ParsesUnsigned, ExplainsUnsignedError, HasUnsignedDigitsIfOk}
use Rattle.std.specs.Str.Parse.{AllDigits, digits_value, without_leading_plus}
use Rattle.std.specs.declared.num.ParseIntError.{ParseIntError}
use Rattle.std.proofs.lemmas.Bool.{and_parts}
use Rattle.clap.specs.Words.{Text, ReadsOne}
use Rattle.mq_args.specs.Numbers.{is_word, number_in}

digits_pass : (ds : List ℕ) → AllDigits 10 ds → list_all (λ d. nat_lt (digit_value d) 10) ds ≡ true
digits_pass [] h = refl
digits_pass (d ∷ ds) h = rw (lt-ltb (digit_value d) 10 h.0) (digits_pass ds h.1)

digits_from : (ds : List ℕ) → list_all (λ d. nat_lt (digit_value d) 10) ds ≡ true → AllDigits 10 ds
digits_from [] e = tt
digits_from (d ∷ ds) e =
    let parts = and_parts _ _ e in
    (ltb-true _ _ parts.0, digits_from ds parts.1)

-- a number that is read is the one in the text
pub read-number : (E : Type 0) (text : Text) (n : ℕ) → ParsesUnsigned {E = E} 32 10 text (Ok n)
    → Some n ≡ number_in text
unfolding number_in
read-number E text n h =
    let ds = without_leading_plus text in
    rw (
      lt-ltb 0 (length ds) h.0.0.0,
      digits_pass ds h.0.0.1,
      lt-ltb (digits_value 10 ds) (2 ^ 32) h.0.1,
      h.1,
    ) refl

-- and where none is read there is none
pub read-none : {E : Type 0} (text : Text) (e : E) → ParsesUnsigned 32 10 text (Err e)
    → None ≡ number_in text
unfolding number_in
read-none text e h = go (is_word (without_leading_plus text)) refl
  where
    go : (b : Bool) → is_word (without_leading_plus text) ≡ b → None ≡ number_in text
    go false t = rw t refl
    go true t =
        let outer = and_parts _ _ t in
        let inner = and_parts _ _ outer.0 in
        absurd (h (
          (ltb-true _ _ inner.0, digits_from (without_leading_plus text) inner.1),
          ltb-true _ _ outer.1,
        ))

-- what `u32` reads of a text
abbrev IsRead : Text → Result ℕ ParseIntError → Type 0
IsRead t r = ParsesUnsigned 32 10 t r × ExplainsUnsignedError 10 t r × HasUnsignedDigitsIfOk t r

-- what `get_one` gives is the number of the text that it reads, if there is one
pub number-given : (read : Option Text) (o : Option ℕ) → (read ≡ None → o ≡ None)
    → ((t : Text) → read ≡ Some t → ReadsOne IsRead t o)
    → o ≡ option_and_then number_in read
number-given None o absent there = absent refl
number-given (Some t) (Some n) absent there = read-number ParseIntError t n (there t refl).0
number-given (Some t) None absent there =
    let failed = there t refl in
    read-none t failed.0 failed.1.0
