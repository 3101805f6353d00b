-- What from_str_radix reads of a text of digits.
use Rattle.std.proofs.Common.{◌≡◌, ◌≢◌, ℕ, ◌<◌, ◌≤◌, ◌^◌, true, List, [], ◌∷◌, length, Err, arith, refl, subst, sym}
use Rattle.std.specs.Char.{is_digit, digit_value}
use Rattle.std.specs.List.{list_all}
use Rattle.std.specs.Str.Parse.{AllDigits, IsNumeral, ParsesUnsigned, digits_value, without_leading_plus}
use Rattle.std.proofs.lemmas.Bool.{and_parts}
use Rattle.std.proofs.lemmas.Int.Digits.{digits_value-lt}
use Rattle.std.proofs.lemmas.Str.Parse.{without_leading_plus_none}
use Rattle.std.proofs.Math.Nat.{pow-le-pow_right}
use borrow.Author.Tests.{ltb-true}

small_digit : (c radix : ℕ) → is_digit c radix ≡ true → digit_value c < radix
small_digit c radix h = ltb-true (digit_value c) radix h

-- digits by the test are digits by the word
pub all_digits : (radix : ℕ) (text : List ℕ) → list_all (λ c. is_digit c radix) text ≡ true → AllDigits radix text
all_digits radix [] h = tt
all_digits radix (c ∷ cs) h =
    let both = and_parts (is_digit c radix) (list_all (λ b. is_digit b radix) cs) h in
    (small_digit c radix both.0, all_digits radix cs both.1)

not_plus : (radix c : ℕ) → radix ≤ 36 → digit_value c < radix → c ≢ 43
not_plus radix c few digit is_plus =
    let value : 36 < radix = subst (λ b. digit_value b < radix) is_plus digit in
    omega arith

-- a plus is no digit
pub no_plus : (radix : ℕ) (text : List ℕ) → radix ≤ 36 → AllDigits radix text → without_leading_plus text ≡ text
no_plus radix [] few digits = refl
no_plus radix (c ∷ cs) few digits = without_leading_plus_none (c ∷ cs) (not_plus radix c few digits.0)

-- so many digits write a number below that power of the radix
pub digits_fit : (radix most : ℕ) (text : List ℕ) → 2 ≤ radix → AllDigits radix text → length text ≤ most → digits_value radix text < radix ^ most
digits_fit radix most text binary digits short =
    let positive : 0 < radix = omega arith in
    let within = digits_value-lt radix text digits in
    let wider : radix ^ length text ≤ radix ^ most = pow-le-pow_right positive short in
    omega arith

-- what is read of a text of digits that fits
pub reads_numeral : (radix most : ℕ) (text : List ℕ) (number : ℕ) → 2 ≤ radix → radix ≤ 36 → radix ^ most ≤ 2 ^ 32 → 0 < length text → length text ≤ most
    → list_all (λ c. is_digit c radix) text ≡ true → number ≡ digits_value radix (without_leading_plus text) → (number ≡ digits_value radix text) × (number < radix ^ most)
reads_numeral radix most text number binary letters fits some short tested read =
    let digits = all_digits radix text tested in
    let value : number ≡ digits_value radix text = subst (λ bytes. number ≡ digits_value radix bytes) (no_plus radix text letters digits) read in
    let below = digits_fit radix most text binary digits short in
    (value, omega arith)

pub never_refused : {E : Type 0} (radix most : ℕ) (text : List ℕ) (error : E) → 2 ≤ radix → radix ≤ 36 → radix ^ most ≤ 2 ^ 32 → 0 < length text → length text ≤ most
    → list_all (λ c. is_digit c radix) text ≡ true → ParsesUnsigned 32 radix text (Err error) → ⊥
never_refused radix most text error binary letters fits some short tested refused =
    let digits = all_digits radix text tested in
    let plain = no_plus radix text letters digits in
    let below = digits_fit radix most text binary digits short in
    let fit : digits_value radix text < 2 ^ 32 = omega arith in
    let P : List ℕ → Type 0 = λ bytes. IsNumeral radix bytes × (digits_value radix bytes < 2 ^ 32) in
    refused (subst P (sym plain) ((some, digits), fit))
