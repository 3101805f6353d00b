-- The bytes of a line.
use Rattle.std.proofs.Common.{◌≡◌, ◌≢◌, ℕ, zero, suc, ◌+◌, ◌*◌, ◌/◌, ◌%◌, ◌-◌, ◌≤◌, ◌<◌, Bool, true, false, ◌&&◌, eqb, List, [], ◌∷◌, ◌++◌, length, get_or, take, drop, map, Some, refl, sym, ap, subst, ◌∙◌, arith}
use mathlib.Core.Bool.{true≢false}
use Rattle.std.specs.Str.{is_utf8, IsUtf8}
use Rattle.pid_file.specs.Bytes.{is_empty}
use Rattle.pid_file.specs.declared.fault_kind.LineKind.TheVariants.{BadName}
use Rattle.pid_file.specs.Steps.EntryLines.{name_fault, widths_of, bound_of, digits_of, AreIds}
use Rattle.std.proofs.lemmas.Str.{IsUtf8-from_is_utf8}
use Rattle.std.proofs.lemmas.Bool.Decides.{nat_tests}
use Rattle.std.proofs.lemmas.List.{take_all}
use Rattle.std.specs.Char.{to_ascii_lowercase, digit_char}
use Rattle.pid_file.specs.Identifiers.{hex4, hex2}
use Rattle.pid_file.specs.Columns.{is_hex, begins_with_id, begins_with_ids, is_id, digits_in, name_in}
use Rattle.pid_file.specs.Steps.Columns.{are_digits, SaysNumber, IsId}
use Rattle.pid_file.specs.declared.entry_line.EntryKind.{EntryKind}
use Rattle.pid_file.specs.declared.entry_line.EntryKind.TheVariants.{Subsystem}
use Rattle.pid_file.specs.Lines.{drop_cr}
use Rattle.pid_file.specs.Marks.{trim_blanks}

and_false : (b : Bool) → (b && false) ≡ false
and_false true = refl
and_false false = refl

-- too few bytes for digits and a blank
pub short_id : (n : ℕ) (l : List ℕ) → length l ≤ n → begins_with_id n l ≡ false
short_id n [] h = refl
short_id zero (b ∷ l) h = absurd (omega arith)
short_id (suc n) (b ∷ l) h = ap (λ t. is_hex b && t) (short_id n l (omega arith)) ∙ and_false (is_hex b)

-- too few bytes for digits
pub short_digits : (n : ℕ) (l : List ℕ) → length l < n → are_digits n l ≡ false
short_digits zero l h = absurd (omega arith)
short_digits (suc n) [] h = refl
short_digits (suc n) (b ∷ l) h = ap (λ t. is_hex b && t) (short_digits n l (omega arith)) ∙ and_false (is_hex b)

and_assoc : (a b c : Bool) → (a && (b && c)) ≡ ((a && b) && c)
and_assoc true b c = refl
and_assoc false b c = refl

-- digits, and then a blank
pub id_of_digits : (n : ℕ) (l : List ℕ) → begins_with_id n l ≡ (are_digits n l && begins_with_id 0 (drop n l))
id_of_digits zero l = refl
id_of_digits (suc n) [] = refl
id_of_digits (suc n) (b ∷ l) = ap (λ t. is_hex b && t) (id_of_digits n l) ∙ and_assoc (is_hex b) (are_digits n l) (begins_with_id 0 (drop n l))

-- digits, and then blanks alone
pub block_of_digits : (n : ℕ) (l : List ℕ) → is_id n l ≡ (are_digits n l && is_empty (trim_blanks (drop n l)))
block_of_digits zero l = refl
block_of_digits (suc n) [] = refl
block_of_digits (suc n) (b ∷ l) = ap (λ t. is_hex b && t) (block_of_digits n l) ∙ and_assoc (is_hex b) (are_digits n l) (is_empty (trim_blanks (drop n l)))

-- the value of a hex digit
abbrev pub HexOf : ℕ → ℕ → Type 0
HexOf digit v = (v < 16) × (to_ascii_lowercase digit ≡ digit_char v) × (is_hex digit ≡ true)

high_is : (h l : ℕ) → h < 16 → l < 16 → h ≡ (h * 16 + l) / 16 % 16
high_is h l a b = omega arith

low_is : (h l : ℕ) → l < 16 → l ≡ (h * 16 + l) % 16
low_is h l b = omega arith

-- two digits and their number
pub pair_is : (bytes : List ℕ) (h l : ℕ) → 2 ≤ length bytes → HexOf (get_or bytes 0 0) h → HexOf (get_or bytes 1 0) l → SaysNumber 2 256 hex2 bytes (h * 16 + l) (take (length bytes - 2) (drop 2 bytes))
pair_is [] h l long p q = absurd (omega arith)
pair_is (a ∷ []) h l long p q = absurd (omega arith)
pair_is (a ∷ b ∷ rest) h l long p q = record {
  small = omega (arith, p.0, q.0);
  digits = rw (p.2, q.2) refl;
  says = (λ i. p.1 i ∷ q.1 i ∷ []) ∙ (λ i. digit_char (high_is h l p.0 q.0 i) ∷ digit_char (low_is h l q.0 i) ∷ []);
  after = take_all (length (a ∷ b ∷ rest) - 2) rest (omega arith);
}

pub no_pair_high : (bytes : List ℕ) → 2 ≤ length bytes → is_hex (get_or bytes 0 0) ≡ false → are_digits 2 bytes ≡ false
no_pair_high [] long h = absurd (omega arith)
no_pair_high (a ∷ rest) long h = ap (λ t. t && are_digits 1 rest) h

pub no_pair_low : (bytes : List ℕ) → 2 ≤ length bytes → is_hex (get_or bytes 1 0) ≡ false → are_digits 2 bytes ≡ false
no_pair_low [] long h = absurd (omega arith)
no_pair_low (a ∷ []) long h = absurd (omega arith)
no_pair_low (a ∷ b ∷ rest) long h = ap (λ t. is_hex a && (t && true)) h ∙ and_false (is_hex a)

-- four digits are two pairs
digits_split : (bytes : List ℕ) → are_digits 4 bytes ≡ (are_digits 2 bytes && are_digits 2 (drop 2 bytes))
digits_split [] = refl
digits_split (a ∷ []) = twice (is_hex a)
  where
    twice : (x : Bool) → (x && false) ≡ ((x && false) && false)
    twice true = refl
    twice false = refl
digits_split (a ∷ b ∷ rest) = and_assoc (is_hex a) (is_hex b) (are_digits 2 rest) ∙ ap (λ t. t && are_digits 2 rest) (one (is_hex a) (is_hex b))
  where
    one : (x y : Bool) → (x && y) ≡ (x && (y && true))
    one true true = refl
    one true false = refl
    one false y = refl

hex_join : (h l : ℕ) → h < 256 → l < 256 → hex2 h ++ hex2 l ≡ hex4 (h * 256 + l)
hex_join h l a b =
    let one : h / 16 % 16 ≡ (h * 256 + l) / 4096 % 16 = omega arith in
    let two : h % 16 ≡ (h * 256 + l) / 256 % 16 = omega arith in
    let three : l / 16 % 16 ≡ (h * 256 + l) / 16 % 16 = omega arith in
    let four : l % 16 ≡ (h * 256 + l) % 16 = omega arith in
    λ i. digit_char (one i) ∷ digit_char (two i) ∷ digit_char (three i) ∷ digit_char (four i) ∷ []

pub four_is : (bytes mid rest : List ℕ) (h l : ℕ) → SaysNumber 2 256 hex2 bytes h mid → SaysNumber 2 256 hex2 mid l rest → SaysNumber 4 65536 hex4 bytes (h * 256 + l) rest
four_is bytes mid rest h l p q = record {
  small = omega (arith, p.small, q.small);
  digits = digits_split bytes ∙ (λ i. p.digits i && are_digits 2 (sym p.after i)) ∙ q.digits;
  says = map_halves bytes ∙ (λ i. p.says i ++ map to_ascii_lowercase (take 2 (sym p.after i))) ∙ ap (λ (t : List ℕ). hex2 h ++ t) q.says ∙ hex_join h l p.small q.small;
  after = q.after ∙ ap (λ (t : List ℕ). drop 2 t) p.after ∙ drop_halves bytes;
}
  where
    map_halves : (bytes : List ℕ) → map to_ascii_lowercase (take 4 bytes) ≡ map to_ascii_lowercase (take 2 bytes) ++ map to_ascii_lowercase (take 2 (drop 2 bytes))
    map_halves [] = refl
    map_halves (a ∷ []) = refl
    map_halves (a ∷ b ∷ rest) = refl

    drop_halves : (bytes : List ℕ) → drop 2 (drop 2 bytes) ≡ drop 4 bytes
    drop_halves [] = refl
    drop_halves (a ∷ []) = refl
    drop_halves (a ∷ b ∷ rest) = refl

pub no_four_front : (bytes : List ℕ) → are_digits 2 bytes ≡ false → are_digits 4 bytes ≡ false
no_four_front bytes h = digits_split bytes ∙ ap (λ t. t && are_digits 2 (drop 2 bytes)) h

pub no_four_after : (bytes mid : List ℕ) (h : ℕ) → SaysNumber 2 256 hex2 bytes h mid → are_digits 2 mid ≡ false → are_digits 4 bytes ≡ false
no_four_after bytes mid h p none = digits_split bytes ∙ (λ i. p.digits i && are_digits 2 (sym p.after i)) ∙ none

-- digits, and then a blank or none
pub no_digits_no_id : (width : ℕ) (bytes : List ℕ) → are_digits width bytes ≡ false → begins_with_id width bytes ≡ false
no_digits_no_id width bytes h = id_of_digits width bytes ∙ ap (λ t. t && begins_with_id 0 (drop width bytes)) h

begins_as : (width bound : ℕ) (say : ℕ → List ℕ) (bytes mid : List ℕ) (n : ℕ) → SaysNumber width bound say bytes n mid → begins_with_id width bytes ≡ begins_with_id 0 mid
begins_as width bound say bytes mid n p = id_of_digits width bytes ∙ (λ i. p.digits i && begins_with_id 0 (sym p.after i))

pub no_blank_no_id : (width bound : ℕ) (say : ℕ → List ℕ) (bytes mid : List ℕ) (n : ℕ) → SaysNumber width bound say bytes n mid → begins_with_id 0 mid ≡ false → begins_with_id width bytes ≡ false
no_blank_no_id width bound say bytes mid n p h = begins_as width bound say bytes mid n p ∙ h

pub id_is : (width bound : ℕ) (say : ℕ → List ℕ) (bytes mid rest : List ℕ) (n : ℕ) → SaysNumber width bound say bytes n mid → begins_with_id 0 mid ≡ true → rest ≡ drop 1 mid → IsId width bound say bytes n rest
id_is width bound say bytes mid rest n p h r = record {
  small = p.small;
  begins = begins_as width bound say bytes mid n p ∙ h;
  says = p.says;
  after = r ∙ ap (λ (t : List ℕ). drop 1 t) p.after ∙ drop_one width bytes;
}
  where
    drop_one : (n : ℕ) (l : List ℕ) → drop 1 (drop n l) ≡ drop (suc n) l
    drop_one zero l = refl
    drop_one (suc n) [] = refl
    drop_one (suc n) (b ∷ l) = drop_one n l

-- digits, and then blanks alone or more
pub no_digits_no_block : (bytes : List ℕ) → are_digits 4 bytes ≡ false → is_id 4 bytes ≡ false
no_digits_no_block bytes h = block_of_digits 4 bytes ∙ ap (λ t. t && is_empty (trim_blanks (drop 4 bytes))) h

block_as : (bytes mid : List ℕ) (n : ℕ) → SaysNumber 4 65536 hex4 bytes n mid → is_id 4 bytes ≡ is_empty (trim_blanks mid)
block_as bytes mid n p = block_of_digits 4 bytes ∙ (λ i. p.digits i && is_empty (trim_blanks (sym p.after i)))

pub more_no_block : (bytes mid : List ℕ) (n : ℕ) → SaysNumber 4 65536 hex4 bytes n mid → is_empty (trim_blanks mid) ≡ false → is_id 4 bytes ≡ false
more_no_block bytes mid n p h = block_as bytes mid n p ∙ h

pub block_is : (bytes mid : List ℕ) (n : ℕ) → SaysNumber 4 65536 hex4 bytes n mid → is_empty (trim_blanks mid) ≡ true → (is_id 4 bytes ≡ true) × (map to_ascii_lowercase (take 4 bytes) ≡ hex4 n)
block_is bytes mid n p h = (block_as bytes mid n p ∙ h, p.says)

pub drop_cr-cr : (l : List ℕ) → 1 ≤ length l → get_or l (length l - 1) 0 ≡ 13 → drop_cr l ≡ take (length l - 1) l
drop_cr-cr [] h e = absurd (omega arith)
drop_cr-cr (b ∷ []) h e = let b_is : b ≡ 13 = e in rw b_is refl
drop_cr-cr (b ∷ c ∷ l) h e =
    let one : suc (suc (length l)) - 1 ≡ suc (length l) = omega arith in
    let two : suc (length l) - 1 ≡ length l = omega arith in
    let last : get_or (c ∷ l) (suc (length l) - 1) 0 ≡ 13 = rw two (subst (λ (n : ℕ). get_or (b ∷ c ∷ l) n 0 ≡ 13) one e) in
    let rest : drop_cr (c ∷ l) ≡ take (length l) (c ∷ l) = subst (λ (n : ℕ). drop_cr (c ∷ l) ≡ take n (c ∷ l)) two (drop_cr-cr (c ∷ l) (omega arith) last) in
    ap (λ t. b ∷ t) rest ∙ ap (λ n. take n (b ∷ c ∷ l)) (sym one)

pub drop_cr-other : (l : List ℕ) → (get_or l (length l - 1) 0 ≡ 13 → ⊥) → drop_cr l ≡ l
drop_cr-other [] h = refl
drop_cr-other (b ∷ []) h = let other : b ≢ 13 = h in grind (arith, nat_tests)
drop_cr-other (b ∷ c ∷ l) h =
    let one : suc (suc (length l)) - 1 ≡ suc (length l) = omega arith in
    let two : suc (length l) - 1 ≡ length l = omega arith in
    ap (λ t. b ∷ t) (drop_cr-other (c ∷ l) (λ e. h (subst (λ (n : ℕ). get_or (b ∷ c ∷ l) n 0 ≡ 13) (sym one) (subst (λ (n : ℕ). get_or (c ∷ l) n 0 ≡ 13) two e))))

pub by_bool : (b : Bool) → (b ≡ true → ⊥) → b ≡ false
by_bool true h = absurd (h refl)
by_bool false h = refl

pub not_utf8 : (bytes : List ℕ) → (IsUtf8 bytes → ⊥) → is_utf8 bytes ≡ false
not_utf8 bytes none = by_bool (is_utf8 bytes) (λ e. none (IsUtf8-from_is_utf8 bytes e))

pub some_bytes : (bytes : List ℕ) → eqb (length bytes) 0 ≡ false → is_empty bytes ≡ false
some_bytes [] h = absurd (true≢false h)
some_bytes (b ∷ bytes) h = refl

pub bad_bytes : (bytes : List ℕ) → is_empty bytes ≡ false → is_utf8 bytes ≡ false → name_fault bytes ≡ Some BadName
bad_bytes bytes some text = rw (some, text) refl
