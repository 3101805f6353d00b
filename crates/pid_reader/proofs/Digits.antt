-- Hex digits in either case are those of a number.
use Rattle.std.proofs.Common.{◌≡◌, ℕ, ◌+◌, ◌*◌, ◌/◌, ◌%◌, ◌<◌, ◌^◌, true, false, List, [], ◌∷◌, take, map, arith, inl, inr}
use mathlib.Core.Bool.{false≢true}
use Rattle.std.specs.Char.{digit_value, digit_char, to_ascii_lowercase}
use Rattle.std.proofs.lemmas.Bool.{cases_lt}
use Rattle.std.proofs.lemmas.Bool.Decides.{nat_tests}
use Rattle.pid_file.specs.Columns.{is_hex, begins_with_id, is_id}
use Rattle.pid_file.specs.Identifiers.{hex4, hex2}
use Rattle.pid_reader.proofs.Written.{both_true}

lower_digit : (b : ℕ) → is_hex b ≡ true → to_ascii_lowercase b ≡ digit_char (digit_value b)
lower_digit b h = elim (cases_lt b 58) [
  | inl _ ↦ grind (arith, nat_tests)
  | inr _ ↦ elim (cases_lt b 97) [ inl _ ↦ grind (arith, nat_tests) | inr _ ↦ grind (arith, nat_tests) ]
]

small : (b : ℕ) → is_hex b ≡ true → digit_value b < 16
small b h = grind (arith, nat_tests)

pub record Number4 (digits : List ℕ) : Type 0 where
  pub n : ℕ
  pub in_range : n < 2 ^ 16
  pub same : digits ≡ hex4 n

pub record Number2 (digits : List ℕ) : Type 0 where
  pub n : ℕ
  pub in_range : n < 2 ^ 8
  pub same : digits ≡ hex2 n

four : (x y z w : ℕ) → x < 16 → y < 16 → z < 16 → w < 16 → Number4 (digit_char x ∷ digit_char y ∷ digit_char z ∷ digit_char w ∷ [])
four x y z w p q r s =
    let n : ℕ = x * 4096 + y * 256 + z * 16 + w in
    let a : x ≡ n / 4096 % 16 = omega arith in
    let b : y ≡ n / 256 % 16 = omega arith in
    let c : z ≡ n / 16 % 16 = omega arith in
    let d : w ≡ n % 16 = omega arith in
    record { n = n; in_range = omega arith; same = λ i. digit_char (a i) ∷ digit_char (b i) ∷ digit_char (c i) ∷ digit_char (d i) ∷ [] }

pub number4 : (a b c d : ℕ) → is_hex a ≡ true → is_hex b ≡ true → is_hex c ≡ true → is_hex d ≡ true → Number4 (to_ascii_lowercase a ∷ to_ascii_lowercase b ∷ to_ascii_lowercase c ∷ to_ascii_lowercase d ∷ [])
number4 a b c d p q r s = rw (lower_digit a p, lower_digit b q, lower_digit c r, lower_digit d s) (four _ _ _ _ (small a p) (small b q) (small c r) (small d s))

two : (x y : ℕ) → x < 16 → y < 16 → Number2 (digit_char x ∷ digit_char y ∷ [])
two x y p q =
    let n : ℕ = x * 16 + y in
    let a : x ≡ n / 16 % 16 = omega arith in
    let b : y ≡ n % 16 = omega arith in
    record { n = n; in_range = omega arith; same = λ i. digit_char (a i) ∷ digit_char (b i) ∷ [] }

pub id4 : (bytes : List ℕ) → begins_with_id 4 bytes ≡ true → Number4 (map to_ascii_lowercase (take 4 bytes))
id4 [] h = absurd (false≢true h)
id4 (a ∷ []) h = absurd (false≢true (both_true (is_hex a) false h).1)
id4 (a ∷ b ∷ []) h = absurd (false≢true (both_true (is_hex b) false (both_true (is_hex a) (begins_with_id 3 (b ∷ [])) h).1).1)
id4 (a ∷ b ∷ c ∷ []) h = absurd (false≢true (both_true (is_hex c) false (both_true (is_hex b) (begins_with_id 2 (c ∷ [])) (both_true (is_hex a) (begins_with_id 3 (b ∷ c ∷ [])) h).1).1).1)
id4 (a ∷ b ∷ c ∷ d ∷ rest) h =
    let p = both_true (is_hex a) (begins_with_id 3 (b ∷ c ∷ d ∷ rest)) h in
    let q = both_true (is_hex b) (begins_with_id 2 (c ∷ d ∷ rest)) p.1 in
    let r = both_true (is_hex c) (begins_with_id 1 (d ∷ rest)) q.1 in
    let s = both_true (is_hex d) (begins_with_id 0 rest) r.1 in
    number4 a b c d p.0 q.0 r.0 s.0

pub whole4 : (bytes : List ℕ) → is_id 4 bytes ≡ true → Number4 (map to_ascii_lowercase (take 4 bytes))
whole4 [] h = absurd (false≢true h)
whole4 (a ∷ []) h = absurd (false≢true (both_true (is_hex a) false h).1)
whole4 (a ∷ b ∷ []) h = absurd (false≢true (both_true (is_hex b) false (both_true (is_hex a) (is_id 3 (b ∷ [])) h).1).1)
whole4 (a ∷ b ∷ c ∷ []) h = absurd (false≢true (both_true (is_hex c) false (both_true (is_hex b) (is_id 2 (c ∷ [])) (both_true (is_hex a) (is_id 3 (b ∷ c ∷ [])) h).1).1).1)
whole4 (a ∷ b ∷ c ∷ d ∷ rest) h =
    let p = both_true (is_hex a) (is_id 3 (b ∷ c ∷ d ∷ rest)) h in
    let q = both_true (is_hex b) (is_id 2 (c ∷ d ∷ rest)) p.1 in
    let r = both_true (is_hex c) (is_id 1 (d ∷ rest)) q.1 in
    let s = both_true (is_hex d) (is_id 0 rest) r.1 in
    number4 a b c d p.0 q.0 r.0 s.0

pub id2 : (bytes : List ℕ) → begins_with_id 2 bytes ≡ true → Number2 (map to_ascii_lowercase (take 2 bytes))
id2 [] h = absurd (false≢true h)
id2 (a ∷ []) h = absurd (false≢true (both_true (is_hex a) false h).1)
id2 (a ∷ b ∷ rest) h =
    let p = both_true (is_hex a) (begins_with_id 1 (b ∷ rest)) h in
    let q = both_true (is_hex b) (begins_with_id 0 rest) p.1 in
    rw (lower_digit a p.0, lower_digit b q.0) (two _ _ (small a p.0) (small b q.0))
