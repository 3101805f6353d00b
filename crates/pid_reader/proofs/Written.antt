-- What the line of an item says by its own bytes.
use Rattle.std.proofs.Common.{◌≡◌, ℕ, zero, suc, ◌<◌, Bool, true, false, not, ◌&&◌, List, [], ◌∷◌, ◌++◌, refl, arith}
use Rattle.std.specs.Str.{is_utf8, IsUtf8, IsAscii}
use Rattle.std.proofs.lemmas.Str.{IsUtf8-append, IsUtf8-from_ascii, IsUtf8-from_is_utf8, is_utf8-from_IsUtf8}
use Rattle.pid_file.specs.Bytes.{is_empty, begins_blank}
use Rattle.pid_file.specs.Words.{is_name}
use Rattle.pid_file.specs.declared.line.Mark.{Mark}
use Rattle.pid_file.specs.declared.line.Mark.TheVariants.{Devices, Classes}
use Rattle.pid_file.specs.Marks.{trim_blanks, is_idle, depth, body, mark, inside}
use Rattle.pid_file.specs.Identifiers.{hex4, hex2}
use Rattle.pid_file.specs.Columns.{begins_with_ids, digits_in, name_in}
use Rattle.pid_reader.proofs.Cells.{AreDigits, AreTwo, hex4_is, hex2_is}

pub both_true : (a b : Bool) → (a && b) ≡ true → (a ≡ true) × (b ≡ true)
both_true true b h = (refl, h)
both_true false b h = absurd cc

one_ascii : (b : ℕ) → b < 128 → IsAscii (b ∷ [])
one_ascii b low zero = low
one_ascii b low (suc i) = omega arith

pub utf8_cons : (b : ℕ) (bs : List ℕ) → b < 128 → IsUtf8 bs → IsUtf8 (b ∷ bs)
utf8_cons b bs low h = IsUtf8-append (b ∷ []) bs (IsUtf8-from_ascii (b ∷ []) (one_ascii b low)) h

pub not_true : (b : Bool) → not b ≡ true → b ≡ false
not_true true h = absurd cc
not_true false h = refl

-- what a name keeps
pub record NameParts (n : List ℕ) : Type 0 where
  pub utf8 : is_utf8 n ≡ true
  pub some : is_empty n ≡ false
  pub front : begins_blank n ≡ false

pub name_parts : (n : List ℕ) → is_name n ≡ true → NameParts n
name_parts n h =
    let a = both_true _ _ h in
    let b = both_true _ _ a.0 in
    let c = both_true _ _ b.0 in
    let d = both_true _ _ c.0 in
    record { utf8 = d.0; some = not_true _ d.1; front = not_true _ b.1 }

trim-name : (n : List ℕ) → begins_blank n ≡ false → trim_blanks n ≡ n
trim-name [] h = refl
trim-name (b ∷ bs) h = rw h refl

-- ids of these widths, and a name
pub record Written (ws : List ℕ) (bytes digits name : List ℕ) : Type 0 where
  pub active : is_idle bytes ≡ false
  pub flat : depth bytes ≡ 0
  pub bare : body bytes ≡ bytes
  pub unmarked : mark bytes ≡ Devices
  pub utf8 : IsUtf8 bytes
  pub ids : begins_with_ids ws bytes ≡ true
  pub digits_are : digits_in ws bytes ≡ digits
  pub name_is : name_in ws bytes ≡ name
  pub named : is_name name ≡ true

blanks_utf8 : (n : List ℕ) → is_name n ≡ true → IsUtf8 (32 ∷ 32 ∷ n)
blanks_utf8 n h = utf8_cons 32 _ (omega arith) (utf8_cons 32 _ (omega arith) (IsUtf8-from_is_utf8 n (name_parts n h).utf8))

four_utf8 : (a b c d : ℕ) (rest : List ℕ) → AreDigits a b c d → IsUtf8 rest → IsUtf8 (a ∷ b ∷ c ∷ d ∷ rest)
four_utf8 a b c d rest x h = utf8_cons a _ x.a_is.ascii (utf8_cons b _ x.b_is.ascii (utf8_cons c _ x.c_is.ascii (utf8_cons d _ x.d_is.ascii h)))

two_utf8 : (a b : ℕ) (rest : List ℕ) → AreTwo a b → IsUtf8 rest → IsUtf8 (a ∷ b ∷ rest)
two_utf8 a b rest x h = utf8_cons a _ x.a_is.ascii (utf8_cons b _ x.b_is.ascii h)

cells4 : (a b c d : ℕ) (n : List ℕ) → AreDigits a b c d → is_name n ≡ true → Written (4 ∷ []) (a ∷ b ∷ c ∷ d ∷ 32 ∷ 32 ∷ n) (a ∷ b ∷ c ∷ d ∷ []) n
cells4 a b c d n x named = record {
  active = rw (x.a_is.no_blank, x.a_is.no_comment) refl;
  flat = rw x.a_is.no_tab refl;
  bare = rw x.a_is.no_tab refl;
  unmarked = rw x.a_is.no_capital refl;
  utf8 = four_utf8 _ _ _ _ _ x (blanks_utf8 n named);
  ids = rw (x.a_is.hex, x.b_is.hex, x.c_is.hex, x.d_is.hex) refl;
  digits_are = rw (x.a_is.lower, x.b_is.lower, x.c_is.lower, x.d_is.lower) refl;
  name_is = trim-name n (name_parts n named).front;
  named = named;
}

cells2 : (a b : ℕ) (n : List ℕ) → AreTwo a b → is_name n ≡ true → Written (2 ∷ []) (a ∷ b ∷ 32 ∷ 32 ∷ n) (a ∷ b ∷ []) n
cells2 a b n x named = record {
  active = rw (x.a_is.no_blank, x.a_is.no_comment) refl;
  flat = rw x.a_is.no_tab refl;
  bare = rw x.a_is.no_tab refl;
  unmarked = rw x.a_is.no_capital refl;
  utf8 = two_utf8 _ _ _ x (blanks_utf8 n named);
  ids = rw (x.a_is.hex, x.b_is.hex) refl;
  digits_are = rw (x.a_is.lower, x.b_is.lower) refl;
  name_is = trim-name n (name_parts n named).front;
  named = named;
}

cells44 : (a b c d e f g h : ℕ) (n : List ℕ) → AreDigits a b c d → AreDigits e f g h → is_name n ≡ true → Written (4 ∷ 4 ∷ []) (a ∷ b ∷ c ∷ d ∷ 32 ∷ e ∷ f ∷ g ∷ h ∷ 32 ∷ 32 ∷ n) (a ∷ b ∷ c ∷ d ∷ e ∷ f ∷ g ∷ h ∷ []) n
cells44 a b c d e f g h n x y named = record {
  active = rw (x.a_is.no_blank, x.a_is.no_comment) refl;
  flat = rw x.a_is.no_tab refl;
  bare = rw x.a_is.no_tab refl;
  unmarked = rw x.a_is.no_capital refl;
  utf8 = four_utf8 _ _ _ _ _ x (utf8_cons 32 _ (omega arith) (four_utf8 _ _ _ _ _ y (blanks_utf8 n named)));
  ids = rw (x.a_is.hex, x.b_is.hex, x.c_is.hex, x.d_is.hex, y.a_is.hex, y.b_is.hex, y.c_is.hex, y.d_is.hex) refl;
  digits_are = rw (x.a_is.lower, x.b_is.lower, x.c_is.lower, x.d_is.lower, y.a_is.lower, y.b_is.lower, y.c_is.lower, y.d_is.lower) refl;
  name_is = trim-name n (name_parts n named).front;
  named = named;
}

pub written4 : (v : ℕ) (n : List ℕ) → is_name n ≡ true → Written (4 ∷ []) (hex4 v ++ 32 ∷ 32 ∷ n) (hex4 v) n
written4 v n named = cells4 _ _ _ _ n (hex4_is v) named

pub written2 : (v : ℕ) (n : List ℕ) → is_name n ≡ true → Written (2 ∷ []) (hex2 v ++ 32 ∷ 32 ∷ n) (hex2 v) n
written2 v n named = cells2 _ _ n (hex2_is v) named

pub written44 : (v w : ℕ) (n : List ℕ) → is_name n ≡ true → Written (4 ∷ 4 ∷ []) (hex4 v ++ 32 ∷ hex4 w ++ 32 ∷ 32 ∷ n) (hex4 v ++ hex4 w) n
written44 v w n named = cells44 _ _ _ _ _ _ _ _ n (hex4_is v) (hex4_is w) named

-- where the bytes stand in a line
pub record Stands (line : List ℕ) (m : Mark) (at : ℕ) (bytes : List ℕ) : Type 0 where
  pub active : is_idle line ≡ false
  pub depth_is : depth line ≡ at
  pub utf8 : is_utf8 line ≡ true
  pub mark_is : mark line ≡ m
  pub inside_is : inside line ≡ bytes

pub bare : {ws bytes digits name : List ℕ} → Written ws bytes digits name → Stands bytes Devices 0 bytes
bare {bytes} w = record { active = w.active; depth_is = w.flat; utf8 = is_utf8-from_IsUtf8 bytes w.utf8; mark_is = w.unmarked; inside_is = rw w.unmarked w.bare }

pub lettered : {ws bytes digits name : List ℕ} → Written ws bytes digits name → Stands (67 ∷ 32 ∷ bytes) Classes 0 bytes
lettered {bytes} w = record { active = refl; depth_is = refl; utf8 = is_utf8-from_IsUtf8 (67 ∷ 32 ∷ bytes) (utf8_cons 67 _ (omega arith) (utf8_cons 32 _ (omega arith) w.utf8)); mark_is = refl; inside_is = refl }

mark_tab : (bytes : List ℕ) → mark (9 ∷ bytes) ≡ Devices
mark_tab [] = refl
mark_tab (b ∷ bytes) = refl

pub one_tab : {ws bytes digits name : List ℕ} → Written ws bytes digits name → Stands (9 ∷ bytes) Devices 1 bytes
one_tab {bytes} w = record { active = w.active; depth_is = rw w.flat refl; utf8 = is_utf8-from_IsUtf8 (9 ∷ bytes) (utf8_cons 9 _ (omega arith) w.utf8); mark_is = mark_tab bytes; inside_is = rw (mark_tab bytes) w.bare }

pub two_tabs : {ws bytes digits name : List ℕ} → Written ws bytes digits name → Stands (9 ∷ 9 ∷ bytes) Devices 2 bytes
two_tabs {bytes} w = record { active = w.active; depth_is = rw w.flat refl; utf8 = is_utf8-from_IsUtf8 (9 ∷ 9 ∷ bytes) (utf8_cons 9 _ (omega arith) (utf8_cons 9 _ (omega arith) w.utf8)); mark_is = refl; inside_is = w.bare }
