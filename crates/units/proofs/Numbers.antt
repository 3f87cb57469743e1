-- Numbers and their digits.
use Rattle.std.proofs.Common.{◌≡◌, ◌≢◌, ℕ, zero, suc, ◌^◌, ◌<◌, ◌≤◌, List, [], ◌∷◌, length, get_or, true, arith, subst, sym, ap, ◌∙◌, lit<, Result, Ok, Err, IfSome, IfNone}
use Rattle.std.specs.Fmt.{decimal}
use Rattle.std.specs.Str.{all_ascii_digits}
use Rattle.std.specs.Char.{is_ascii_digit}
use Rattle.std.specs.Str.Parse.{ParsesUnsigned, digits_value}
use Rattle.std.specs.Result.{OkIff, result_ok}
use Rattle.std.proofs.lemmas.Str.Parse.{IsNumeralModel, numerals_by_value, tells_all_ascii_digits, digits_value_short, parse_plain}
use Rattle.std.proofs.lemmas.Fmt.{decimal-digits_value, digits_decimal, length-decimal-le, decimal_nonempty, first_decimal, decimal_digit, parse-decimal}
use Rattle.std.proofs.lemmas.Bool.{and_parts}
use Rattle.units.specs.Text.{IsNumberText, IsFreeOf}

pub own : IsNumeralModel (λ ds. all_ascii_digits ds ≡ true) (digits_value 10)
own = numerals_by_value _ tells_all_ascii_digits

-- the properties of the digits of a number
pub record IsNumeral (text : List ℕ) : Type 0 where
  pub some : 0 < length text
  pub short : length text ≤ 18
  pub lead : get_or text 0 0 ≡ 48 → length text ≡ 1
  pub digits : all_ascii_digits text ≡ true

lead_of : (n : ℕ) → n < 2 ^ 64 → get_or (decimal n) 0 0 ≡ 48 → length (decimal n) ≡ 1
lead_of zero h e = ap length (decimal_digit 0 (lit< tt))
lead_of (suc m) h e = let first : 48 < get_or (decimal (suc m)) 0 0 = first_decimal (suc m) (omega arith) h in absurd (omega arith)

decimal_numeral : (n : ℕ) → n < 10 ^ 18 → IsNumeral (decimal n)
decimal_numeral n h =
    let wide : n < 2 ^ 64 = omega arith in
    record {
      some = decimal_nonempty n wide;
      short = length-decimal-le 18 n (lit< tt) h wide;
      lead = lead_of n wide;
      digits = digits_decimal own n wide;
    }

pub number_shape : (text : List ℕ) (n : ℕ) → IsNumberText text n → IsNumeral text
number_shape text n h = subst IsNumeral (sym h.0) (decimal_numeral n h.1)

-- a byte that is no digit isn't in a number
free_digits : (byte : ℕ) (ds : List ℕ) → (is_ascii_digit byte ≡ true → ⊥) → all_ascii_digits ds ≡ true → IsFreeOf byte ds
free_digits byte [] never all = tt
free_digits byte (d ∷ ds) never all =
    let parts = and_parts (is_ascii_digit d) (all_ascii_digits ds) all in
    (λ e. never (ap is_ascii_digit (sym e) ∙ parts.0), free_digits byte ds never parts.1)

pub decimal_free : (byte n : ℕ) → (is_ascii_digit byte ≡ true → ⊥) → n < 10 ^ 18 → IsFreeOf byte (decimal n)
decimal_free byte n never h = free_digits byte (decimal n) never (decimal_numeral n h).digits

-- the contract of `parse`, for a text that begins with no sign
reads : {E : Type 0} (text : List ℕ) (r : Result ℕ E) → ParsesUnsigned 64 10 text r → length text ≤ 18 → get_or text 0 0 ≢ 43 → (get_or text 0 0 ≡ 48 → length text ≤ 1)
    → OkIff r ((all_ascii_digits text ≡ true) × (0 < length text) × (digits_value 10 text < 2 ^ 64)) (digits_value 10 text)
reads text r h short plain lead = parse_plain own 64 text r h plain

pub number_read : {E : Type 0} (text : List ℕ) (r : Result ℕ E) → ParsesUnsigned 64 10 text r → length text ≤ 18 → get_or text 0 0 ≢ 43 → (get_or text 0 0 ≡ 48 → length text ≤ 1)
    → IfSome (result_ok r) (λ n. IsNumberText text n)
number_read {E = E} text (Err e) h short plain lead = tt
number_read {E = E} text (Ok n) h short plain lead =
    let told = reads {E = E} text (Ok n) h short plain lead in
    let digits : all_ascii_digits text ≡ true = told.0.0 in
    let some : 0 < length text = told.0.1 in
    let one : get_or text 0 0 ≡ 48 → length text ≡ 1 = λ e. let l = lead e in omega arith in
    let small : digits_value 10 text < 10 ^ 18 = digits_value_short own text 18 digits short in
    rw told.1 (sym (decimal-digits_value own text digits some one (omega arith)), small)

pub number_refused : {E : Type 0} (text : List ℕ) (r : Result ℕ E) → ParsesUnsigned 64 10 text r → IfNone (result_ok r) ((n : ℕ) → IsNumberText text n → ⊥)
number_refused text (Ok n) h = tt
number_refused text (Err e) h = λ n is. let bad = parse-decimal 64 n text (Err e) (omega arith) (omega arith) is.0 h in cc

pub long_no_number : (text : List ℕ) → 18 < length text → (n : ℕ) → IsNumberText text n → ⊥
long_no_number text e n is = let short = (number_shape text n is).short in omega arith

pub plus_no_number : (text : List ℕ) → get_or text 0 0 ≡ 43 → (n : ℕ) → IsNumberText text n → ⊥
plus_no_number text plus n is = first_digit text (number_shape text n is) plus
  where
    first_digit : (ds : List ℕ) → IsNumeral ds → get_or ds 0 0 ≡ 43 → ⊥
    first_digit [] numeral plus = let some = numeral.some in absurd (omega arith)
    first_digit (d ∷ ds) numeral plus =
        let digit : is_ascii_digit d ≡ true = (and_parts (is_ascii_digit d) (all_ascii_digits ds) numeral.digits).0 in
        let none : is_ascii_digit 43 ≡ true = ap is_ascii_digit (sym plus) ∙ digit in
        cc

pub lead_no_number : (text : List ℕ) → 1 < length text → get_or text 0 0 ≡ 48 → (n : ℕ) → IsNumberText text n → ⊥
lead_no_number text more nought n is = let lead = (number_shape text n is).lead nought in omega arith
