-- Walking over the fields of a head.
use Rattle.std.proofs.Common.{◌≡◌, ℕ, ◌+◌, ◌<◌, ◌≤◌, ◌*◌, ◌-◌, Bool, true, false, nat_le, List, [], ◌∷◌, length, map, take, drop, get_or, refl, ap, ◌∙◌, arith, add-one, drop-cons, Some, None}
use Rattle.std.specs.Prelude.{nat_lt, ◌&&◌, if◌then◌else◌, ◌↔◌, IsTrue, codes}
use Rattle.std.specs.Bool.{one_answer}
use Rattle.std.specs.Cmp.Lexicographic.{bytes_decides}
use Rattle.std.specs.Str.{str_eq_ignore_ascii_case}
use Rattle.std.specs.List.{list_all}
use Rattle.std.specs.Char.{is_ascii_digit, to_ascii_lowercase}
use Rattle.std.specs.Str.Parse.{digits_value}
use Rattle.std.proofs.lemmas.Int.Digits.{digits_value_more}
use Rattle.std.proofs.lemmas.List.Folds.{list_all_more}
use Rattle.std.proofs.lemmas.Bool.{leb-true}
use Rattle.std.proofs.lemmas.Str.{digit_value_digit}
use Rattle.std.specs.Int.{IsInRange}
use Rattle.httparse.specs.declared.spans.HeaderSpan.{HeaderSpan}
use Rattle.pid_http_stream.specs.BodyLengths.{length_said, length_of_values, body_length}
use Rattle.pid_http_stream.specs.FieldValues.{NamedValue, is_named, values_of, first_value}
use Rattle.pid_http_stream.specs.declared.body_length.BodyLength.TheVariants.{Encoded, Bad, TooLong, Bytes}

-- the next field is another
pub passed : (name : List ℕ) (f : HeaderSpan → NamedValue) (xs : List HeaderSpan) (i : ℕ) (d : HeaderSpan) → i < length xs → is_named name (f (get_or xs i d)) ≡ false
    → values_of name (map f (drop i xs)) ≡ values_of name (map f (drop (i + 1) xs))
passed name f xs i d h e = rw (drop-cons xs i d h, e, add-one) refl

-- the next field has the name
pub found : (name : List ℕ) (f : HeaderSpan → NamedValue) (xs : List HeaderSpan) (i : ℕ) (d : HeaderSpan) → i < length xs → is_named name (f (get_or xs i d)) ≡ true
    → values_of name (map f (drop i xs)) ≡ (f (get_or xs i d)).1 ∷ values_of name (map f (drop (i + 1) xs))
found name f xs i d h e = rw (drop-cons xs i d h, e, add-one) refl

-- what no, one and more values say
pub none_said : (codings values : List (List ℕ)) → length codings ≡ 0 → first_value values ≡ None → length_of_values codings values ≡ Bytes 0
none_said [] [] z e = refl
none_said [] (v ∷ vs) z e = cc
none_said (x ∷ xs) values z e = absurd (omega arith)

pub encoded_said : (codings values : List (List ℕ)) → 0 < length codings → length_of_values codings values ≡ Encoded
encoded_said [] values h = absurd (omega arith)
encoded_said (x ∷ xs) values h = refl

pub two_said : (codings values : List (List ℕ)) → length codings ≡ 0 → 1 < length values → length_of_values codings values ≡ Bad
two_said [] [] z h = absurd (omega arith)
two_said [] (v ∷ []) z h = absurd (omega arith)
two_said [] (v ∷ w ∷ vs) z h = refl
two_said (x ∷ xs) values z h = absurd (omega arith)

pub one_said : (codings values : List (List ℕ)) (value : List ℕ) → length codings ≡ 0 → length values ≤ 1 → first_value values ≡ Some value → length_of_values codings values ≡ length_said value
one_said [] [] value z h e = cc
one_said [] (v ∷ []) value z h e = let same : v ≡ value = cc in ap length_said same
one_said [] (v ∷ w ∷ vs) value z h e = absurd (omega arith)
one_said (x ∷ xs) values value z h e = absurd (omega arith)

-- the code's test of a name is the definition's
pub named_test : (b : Bool) (name : List ℕ) (field : NamedValue) (x : List ℕ) → x ≡ field.0 → IsTrue b ↔ (map to_ascii_lowercase x ≡ map to_ascii_lowercase name) → b ≡ is_named name field
named_test b name field x e h = one_answer b _ h (bytes_decides _ _) ∙ ap (λ (y : List ℕ). str_eq_ignore_ascii_case y name) e

-- the digits so far, and the number that they write while it is not too large
pub record HasDigits (value : List ℕ) (i n : ℕ) : Type 0 where
  pub digits : list_all is_ascii_digit (take i value) ≡ true
  pub exact : n ≤ 4194304 → n ≡ digits_value 10 (take i value)
  pub over : 4194304 < n → 4194304 < digits_value 10 (take i value)
  pub fits : n ≤ 41943049

digits_next : (value : List ℕ) (i : ℕ) → i < length value → list_all is_ascii_digit (take i value) ≡ true → is_ascii_digit (get_or value i 0) ≡ true → list_all is_ascii_digit (take (i + 1) value) ≡ true
digits_next value i h all one = rw (list_all_more is_ascii_digit value i 0 h, all, one) refl

-- one digit more
pub digit_more : (value : List ℕ) (i n : ℕ) → i < length value → is_ascii_digit (get_or value i 0) ≡ true → IsInRange 48 57 (get_or value i 0) → HasDigits value i n → n ≤ 4194304 → HasDigits value (i + 1) (n * 10 + (get_or value i 0 - 48))
digit_more value i n h e d s below =
    let more = digits_value_more 10 value i h in
    let one = digit_value_digit (get_or value i 0) d in
    let same = s.exact below in
    record { digits = digits_next value i h s.digits e; exact = λ k. omega arith; over = λ k. omega arith; fits = omega arith }

pub digit_over : (value : List ℕ) (i n : ℕ) → i < length value → is_ascii_digit (get_or value i 0) ≡ true → HasDigits value i n → 4194304 < n → HasDigits value (i + 1) n
digit_over value i n h e s above =
    let more = digits_value_more 10 value i h in
    let over = s.over above in
    record { digits = digits_next value i h s.digits e; exact = λ k. absurd (omega arith); over = λ k. omega arith; fits = s.fits }

-- ---- a length that is said is one that a body may have

bad_no_bytes : (n : ℕ) → Bad ≡ Bytes n → ⊥
bad_no_bytes n h = cc

long_no_bytes : (n : ℕ) → TooLong ≡ Bytes n → ⊥
long_no_bytes n h = cc

encoded_no_bytes : (n : ℕ) → Encoded ≡ Bytes n → ⊥
encoded_no_bytes n h = cc

same_bytes : (m n : ℕ) → Bytes m ≡ Bytes n → m ≡ n
same_bytes m n h = cc

said_fits : (t u : Bool) (v n : ℕ) → nat_le v 4194304 ≡ u → (if t then (if u then Bytes v else TooLong) else Bad) ≡ Bytes n → n ≤ 4194304
said_fits true true v n e h = let same = same_bytes v n h in let small = leb-true v 4194304 e in omega arith
said_fits true false v n e h = absurd (long_no_bytes n h)
said_fits false u v n e h = absurd (bad_no_bytes n h)

values_fit : (codings values : List (List ℕ)) (n : ℕ) → length_of_values codings values ≡ Bytes n → n ≤ 4194304
values_fit [] [] n h = let same = same_bytes 0 n h in omega arith
values_fit [] (v ∷ []) n h = said_fits (nat_lt 0 (length v) && list_all is_ascii_digit v) (nat_le (digits_value 10 v) 4194304) (digits_value 10 v) n refl h
values_fit [] (v ∷ w ∷ vs) n h = absurd (bad_no_bytes n h)
values_fit (x ∷ xs) values n h = absurd (encoded_no_bytes n h)

pub length_fits : (fields : List NamedValue) (n : ℕ) → body_length fields ≡ Bytes n → n ≤ 4194304
unfolding body_length
length_fits fields n h = values_fit (values_of (codes "transfer-encoding") fields) (values_of (codes "content-length") fields) n h
