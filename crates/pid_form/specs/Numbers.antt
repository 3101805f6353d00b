-- The numbers that texts write: choices of this project.
use Rattle.std.specs.Prelude.{ℕ, Bool, not, ◌&&◌, ◌==◌, nat_le, if◌then◌else◌}
use Rattle.std.specs.Prelude.{List, length, slice_index, Option, Some, None}
use Rattle.std.specs.Char.{is_ascii_digit, is_digit}
use Rattle.std.specs.List.{list_all}
use Rattle.std.specs.Str.Parse.{digits_value}

-- 1 to so many decimal digits without a leading zero
abbrev pub is_plain_number : (most_digits : ℕ) (text : List ℕ) → Bool
is_plain_number most_digits text = nat_le 1 (length text) && nat_le (length text) most_digits
    && list_all is_ascii_digit text && not (slice_index text 0 == 48)

-- the number that they write, if it is at most `most`
abbrev pub number_up_to : (most most_digits : ℕ) (text : List ℕ) → Option ℕ
number_up_to most most_digits text =
    if is_plain_number most_digits text && nat_le (digits_value 10 text) most
    then Some (digits_value 10 text) else None

-- the number that a text of `least` to `most` digits writes; letters may be in either case
abbrev pub numeral : (radix least most : ℕ) (text : List ℕ) → Option ℕ
numeral radix least most text =
    if (nat_le least (length text) && nat_le (length text) most)
    && list_all (λ c. is_digit c radix) text
    then Some (digits_value radix text) else None
