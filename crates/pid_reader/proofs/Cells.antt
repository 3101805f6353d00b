-- What the digits that are written say as bytes of a line.
use Rattle.std.proofs.Common.{◌≡◌, ℕ, ◌/◌, ◌%◌, ◌<◌, true, false, eqb, arith, inl, inr}
use Rattle.std.specs.Char.{digit_char, to_ascii_lowercase}
use Rattle.std.proofs.lemmas.Bool.{cases_lt}
use Rattle.std.proofs.lemmas.Bool.Decides.{nat_tests}
use Rattle.pid_file.specs.Bytes.{is_blank}
use Rattle.pid_file.specs.Columns.{is_hex}
use Rattle.pid_file.specs.Marks.{is_capital}

-- a byte that is a lower-case hex digit
pub record IsDigit (c : ℕ) : Type 0 where
  pub no_tab : eqb c 9 ≡ false
  pub no_blank : is_blank c ≡ false
  pub no_comment : eqb c 35 ≡ false
  pub no_lf : eqb c 10 ≡ false
  pub no_cr : eqb c 13 ≡ false
  pub no_capital : is_capital c ≡ false
  pub hex : is_hex c ≡ true
  pub lower : to_ascii_lowercase c ≡ c
  pub ascii : c < 128

pub digit_is : (x : ℕ) → x < 16 → IsDigit (digit_char x)
digit_is x h = elim (cases_lt x 10) [
  | inl low ↦ record { no_tab = grind (arith, nat_tests); no_blank = grind (arith, nat_tests); no_comment = grind (arith, nat_tests); no_lf = grind (arith, nat_tests); no_cr = grind (arith, nat_tests); no_capital = grind (arith, nat_tests); hex = grind (arith, nat_tests); lower = grind (arith, nat_tests); ascii = grind (arith, nat_tests) }
  | inr high ↦ record { no_tab = grind (arith, nat_tests); no_blank = grind (arith, nat_tests); no_comment = grind (arith, nat_tests); no_lf = grind (arith, nat_tests); no_cr = grind (arith, nat_tests); no_capital = grind (arith, nat_tests); hex = grind (arith, nat_tests); lower = grind (arith, nat_tests); ascii = grind (arith, nat_tests) }
]

-- four digits
pub record AreDigits (a b c d : ℕ) : Type 0 where
  pub a_is : IsDigit a
  pub b_is : IsDigit b
  pub c_is : IsDigit c
  pub d_is : IsDigit d

pub hex4_is : (n : ℕ) → AreDigits (digit_char (n / 4096 % 16)) (digit_char (n / 256 % 16)) (digit_char (n / 16 % 16)) (digit_char (n % 16))
hex4_is n = record { a_is = digit_is _ (omega arith); b_is = digit_is _ (omega arith); c_is = digit_is _ (omega arith); d_is = digit_is _ (omega arith) }

-- two digits
pub record AreTwo (a b : ℕ) : Type 0 where
  pub a_is : IsDigit a
  pub b_is : IsDigit b

pub hex2_is : (n : ℕ) → AreTwo (digit_char (n / 16 % 16)) (digit_char (n % 16))
hex2_is n = record { a_is = digit_is _ (omega arith); b_is = digit_is _ (omega arith) }
