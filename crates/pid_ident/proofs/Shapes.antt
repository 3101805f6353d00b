-- The path of a text by its shape is the one whose text it is.
use Rattle.std.proofs.Common.{◌≡◌, ℕ, zero, suc, ◌+◌, ◌*◌, ◌/◌, ◌%◌, ◌<◌, Bool, true, false, cond, ◌&&◌, List, [], ◌∷◌, ◌++◌, length, drop, get_or, Option, Some, None, refl, sym, ap, subst, ◌∙◌, arith}
use Rattle.std.specs.Prelude.{◌==◌, nat_lt, slice_index, codes, if◌then◌else◌}
use Rattle.std.specs.Char.{digit_char}
use Rattle.std.specs.Option.{IfSome, IfNone, option_or}
use Rattle.std.proofs.lemmas.Bool.{false≢true}
use Rattle.std.proofs.lemmas.Bool.Decides.{nat_tests}
use Rattle.pid_file.specs.declared.path.Path.{Path}
use Rattle.pid_file.specs.declared.path.Path.TheVariants.{Vendor, Device, Subsystem, Class, Subclass, ProgIf, Generic}
use Rattle.pid_file.specs.PathTexts.{IsTextOf, path_text}
use Rattle.pid_file.specs.Identifiers.{hex4, hex2}
use Rattle.pid_ident.specs.PathReading.{hex_value, digit_at, two_at, four_at, path_of}
use Rattle.pid_ident.specs.Steps.Shapes.{is_lower_digit, fits_mark, fits, device_path, class_path, generic_path, shaped_path}
use Rattle.pid_ident.proofs.PathReadingLemmas.{hex_value-below, two-below, four-below, read_path}

-- ---- a text that has a shape

-- the shape with the digits of the text from a place on
abbrev filled : List ℕ → ℕ → List ℕ → List ℕ
filled t k [] = []
filled t k (m ∷ ms) = (if m == 35 then digit_char (hex_value (slice_index t k)) else m) ∷ filled t (suc k) ms

digit_again : (b : ℕ) → is_lower_digit b ≡ true → b ≡ digit_char (hex_value b)
digit_again b h = grind (arith, nat_tests)

marked : (x m : ℕ) → fits_mark x m ≡ true → x ≡ (if m == 35 then digit_char (hex_value x) else m)
marked x m h = chosen (m == 35) h
  where
    chosen : (b : Bool) → cond b (is_lower_digit x) (x == m) ≡ true → x ≡ cond b (digit_char (hex_value x)) m
    chosen true h = digit_again x h
    chosen false h = grind (arith, nat_tests)

both : (a b : Bool) → a && b ≡ true → (a ≡ true) × (b ≡ true)
both true b h = (refl, h)
both false b h = absurd (false≢true h)

next : (t : List ℕ) (k : ℕ) (x : ℕ) (xs : List ℕ) → x ∷ xs ≡ drop k t → (x ≡ slice_index t k) × (xs ≡ drop (suc k) t)
next [] zero x xs e = absurd (let no : x ∷ xs ≡ [] = e in cc)
next [] (suc k) x xs e = absurd (let no : x ∷ xs ≡ [] = e in cc)
next (y ∷ t) zero x xs e = (ap (λ (l : List ℕ). get_or l 0 0) e, ap (drop 1) e)
next (y ∷ t) (suc k) x xs e = next t k x xs e

walk : (t s shape : List ℕ) (k : ℕ) → s ≡ drop k t → fits s shape ≡ true → s ≡ filled t k shape
walk t [] [] k e f = refl
walk t (x ∷ xs) [] k e f = absurd (false≢true f)
walk t [] (m ∷ ms) k e f = absurd (false≢true f)
walk t (x ∷ xs) (m ∷ ms) k e f =
    let parts = both (fits_mark x m) (fits xs ms) f in
    let more = next t k x xs e in
    let here : x ≡ (if m == 35 then digit_char (hex_value (slice_index t k)) else m) = subst (λ (y : ℕ). x ≡ (if m == 35 then digit_char (hex_value y) else m)) more.0 (marked x m parts.0) in
    let behind = walk t xs ms (suc k) more.1 parts.1 in
    λ i. here i ∷ behind i

shaped : (t shape : List ℕ) → fits t shape ≡ true → t ≡ filled t 0 shape
shaped t shape f = walk t t shape 0 refl f

quad : (a b c d : ℕ) → a < 16 → b < 16 → c < 16 → d < 16 → digit_char a ∷ digit_char b ∷ digit_char c ∷ digit_char d ∷ [] ≡ hex4 (256 * (16 * a + b) + (16 * c + d))
quad a b c d ha hb hc hd =
    let first : a ≡ (256 * (16 * a + b) + (16 * c + d)) / 4096 % 16 = omega (arith, ha, hb, hc, hd) in
    let second : b ≡ (256 * (16 * a + b) + (16 * c + d)) / 256 % 16 = omega (arith, ha, hb, hc, hd) in
    let third : c ≡ (256 * (16 * a + b) + (16 * c + d)) / 16 % 16 = omega (arith, ha, hb, hc, hd) in
    let fourth : d ≡ (256 * (16 * a + b) + (16 * c + d)) % 16 = omega (arith, ha, hb, hc, hd) in
    λ i. digit_char (first i) ∷ digit_char (second i) ∷ digit_char (third i) ∷ digit_char (fourth i) ∷ []

pair : (a b : ℕ) → a < 16 → b < 16 → digit_char a ∷ digit_char b ∷ [] ≡ hex2 (16 * a + b)
pair a b ha hb =
    let first : a ≡ (16 * a + b) / 16 % 16 = omega (arith, ha, hb) in
    let second : b ≡ (16 * a + b) % 16 = omega (arith, ha, hb) in
    λ i. digit_char (first i) ∷ digit_char (second i) ∷ []

four : (k : ℕ) (t : List ℕ) → digit_char (digit_at k t) ∷ digit_char (digit_at (k + 1) t) ∷ digit_char (digit_at (k + 2) t) ∷ digit_char (digit_at (k + 2 + 1) t) ∷ [] ≡ hex4 (four_at k t)
four k t = quad (digit_at k t) (digit_at (k + 1) t) (digit_at (k + 2) t) (digit_at (k + 2 + 1) t) (hex_value-below _) (hex_value-below _) (hex_value-below _) (hex_value-below _)

two : (k : ℕ) (t : List ℕ) → digit_char (digit_at k t) ∷ digit_char (digit_at (k + 1) t) ∷ [] ≡ hex2 (two_at k t)
two k t = pair (digit_at k t) (digit_at (k + 1) t) (hex_value-below _) (hex_value-below _)

vendor : (t : List ℕ) → fits t (codes "PC/####") ≡ true → IsTextOf t (Vendor (four_at 3 t))
vendor t f = record { in_range = four-below 3 t; same = shaped t (codes "PC/####") f ∙ (λ i. 80 ∷ 67 ∷ 47 ∷ four 3 t i ++ []) }

device : (t : List ℕ) → fits t (codes "PC/####/####") ≡ true → IsTextOf t (Device (four_at 3 t) (four_at 8 t))
device t f = record { in_range = (four-below 3 t, four-below 8 t); same = shaped t (codes "PC/####/####") f ∙ (λ i. 80 ∷ 67 ∷ 47 ∷ four 3 t i ++ 47 ∷ four 8 t i ++ []) }

subsystem : (t : List ℕ) → fits t (codes "PC/####/####/########") ≡ true → IsTextOf t (Subsystem (four_at 3 t) (four_at 8 t) (four_at 13 t) (four_at 17 t))
subsystem t f = record { in_range = (four-below 3 t, four-below 8 t, four-below 13 t, four-below 17 t); same = shaped t (codes "PC/####/####/########") f ∙ (λ i. 80 ∷ 67 ∷ 47 ∷ four 3 t i ++ 47 ∷ four 8 t i ++ 47 ∷ (four 13 t i ++ four 17 t i) ++ []) }

class : (t : List ℕ) → fits t (codes "PD/##") ≡ true → IsTextOf t (Class (two_at 3 t))
class t f = record { in_range = two-below 3 t; same = shaped t (codes "PD/##") f ∙ (λ i. 80 ∷ 68 ∷ 47 ∷ two 3 t i ++ []) }

subclass : (t : List ℕ) → fits t (codes "PD/##/##") ≡ true → IsTextOf t (Subclass (two_at 3 t) (two_at 6 t))
subclass t f = record { in_range = (two-below 3 t, two-below 6 t); same = shaped t (codes "PD/##/##") f ∙ (λ i. 80 ∷ 68 ∷ 47 ∷ two 3 t i ++ 47 ∷ two 6 t i ++ []) }

progif : (t : List ℕ) → fits t (codes "PD/##/##/##") ≡ true → IsTextOf t (ProgIf (two_at 3 t) (two_at 6 t) (two_at 9 t))
progif t f = record { in_range = (two-below 3 t, two-below 6 t, two-below 9 t); same = shaped t (codes "PD/##/##/##") f ∙ (λ i. 80 ∷ 68 ∷ 47 ∷ two 3 t i ++ 47 ∷ two 6 t i ++ 47 ∷ two 9 t i ++ []) }

generic : (t : List ℕ) → fits t (codes "PS/####/####") ≡ true → IsTextOf t (Generic (four_at 3 t) (four_at 8 t))
generic t f = record { in_range = (four-below 3 t, four-below 8 t); same = shaped t (codes "PS/####/####") f ∙ (λ i. 80 ∷ 83 ∷ 47 ∷ four 3 t i ++ 47 ∷ four 8 t i ++ []) }

abbrev IsIts : List ℕ → Option Path → Type 0
IsIts t o = IfSome o (λ p. IsTextOf t p)

chosen_its : (t : List ℕ) (b : Bool) (p : Path) (o : Option Path) → (b ≡ true → IsTextOf t p) → IsIts t o → IsIts t (cond b (Some p) o)
chosen_its t true p o h k = h refl
chosen_its t false p o h k = k

either_its : (t : List ℕ) (o q : Option Path) → IsIts t o → IsIts t q → IsIts t (option_or o q)
either_its t None q h k = k
either_its t (Some p) q h k = h

its : (t : List ℕ) → IsIts t (shaped_path t)
its t =
    either_its t (option_or (device_path t) (class_path t)) (generic_path t)
    (either_its t (device_path t) (class_path t)
    (chosen_its t _ _ _ (vendor t) (chosen_its t _ _ _ (device t) (chosen_its t _ _ None (subsystem t) tt)))
    (chosen_its t _ _ _ (class t) (chosen_its t _ _ _ (subclass t) (chosen_its t _ _ None (progif t) tt))))
    (chosen_its t _ _ None (generic t) tt)

-- a shape that has ended
pub at_end : (rest marks : List ℕ) (b whole : Bool) → fits rest marks ≡ whole → length marks < 1 → b ≡ (length rest == 0) → b ≡ whole
at_end rest (m ∷ marks) b whole same short is = absurd (let no_less : ⊥ = omega (arith, short) in no_less)
at_end [] [] b whole same short is = is ∙ same
at_end (x ∷ rest) [] b whole same short is =
    let some_left : (length (x ∷ rest) == 0) ≡ false = grind (arith, nat_tests) in
    is ∙ some_left ∙ same

-- which shape it is
pub at_first : (b : Bool) (p q : Path) (o : Option Path) → b ≡ true → p ≡ q → Some p ≡ cond b (Some q) o
at_first true p q o h e = ap Some e
at_first false p q o h e = absurd (false≢true h)

pub at_next : (b : Bool) (q : Path) (o r : Option Path) → b ≡ false → r ≡ o → r ≡ cond b (Some q) o
at_next false q o r h e = e
at_next true q o r h e = absurd (false≢true (sym h))

-- ---- the text of a path has its shape

low : (x : ℕ) → is_lower_digit (digit_char (x % 16)) ≡ true
low x = chosen (nat_lt (x % 16) 10) refl
  where
    chosen : (b : Bool) → nat_lt (x % 16) 10 ≡ b → is_lower_digit (cond b (48 + x % 16) (87 + x % 16)) ≡ true
    chosen true e = grind (arith, nat_tests)
    chosen false e = grind (arith, nat_tests)

fits4 : (n : ℕ) (s ms : List ℕ) → fits s ms ≡ true → fits (hex4 n ++ s) (35 ∷ 35 ∷ 35 ∷ 35 ∷ ms) ≡ true
fits4 n s ms h = rw (low (n / 4096), low (n / 256), low (n / 16), low n) h

fits2 : (n : ℕ) (s ms : List ℕ) → fits s ms ≡ true → fits (hex2 n ++ s) (35 ∷ 35 ∷ ms) ≡ true
fits2 n s ms h = rw (low (n / 16), low n) h

fits_vendor : (v : ℕ) → fits (path_text (Vendor v)) (codes "PC/####") ≡ true
fits_vendor v = fits4 v [] [] refl

fits_device : (v d : ℕ) → fits (path_text (Device v d)) (codes "PC/####/####") ≡ true
fits_device v d = fits4 v (47 ∷ hex4 d ++ []) (codes "/####") (fits4 d [] [] refl)

fits_subsystem : (v d s e : ℕ) → fits (path_text (Subsystem v d s e)) (codes "PC/####/####/########") ≡ true
fits_subsystem v d s e =
    fits4 v (47 ∷ hex4 d ++ 47 ∷ (hex4 s ++ hex4 e) ++ []) (codes "/####/########")
    (fits4 d (47 ∷ (hex4 s ++ hex4 e) ++ []) (codes "/########")
    (fits4 s (hex4 e ++ []) (codes "####") (fits4 e [] [] refl)))

fits_class : (c : ℕ) → fits (path_text (Class c)) (codes "PD/##") ≡ true
fits_class c = fits2 c [] [] refl

fits_subclass : (c s : ℕ) → fits (path_text (Subclass c s)) (codes "PD/##/##") ≡ true
fits_subclass c s = fits2 c (47 ∷ hex2 s ++ []) (codes "/##") (fits2 s [] [] refl)

fits_progif : (c s p : ℕ) → fits (path_text (ProgIf c s p)) (codes "PD/##/##/##") ≡ true
fits_progif c s p = fits2 c (47 ∷ hex2 s ++ 47 ∷ hex2 p ++ []) (codes "/##/##") (fits2 s (47 ∷ hex2 p ++ []) (codes "/##") (fits2 p [] [] refl))

fits_generic : (v d : ℕ) → fits (path_text (Generic v d)) (codes "PS/####/####") ≡ true
fits_generic v d = fits4 v (47 ∷ hex4 d ++ []) (codes "/####") (fits4 d [] [] refl)

lost : (b : Bool) (p : Path) (o : Option Path) → cond b (Some p) o ≡ None → (b ≡ false) × (o ≡ None)
lost true p o e = absurd (let e2 : Some p ≡ None = e in cc)
lost false p o e = (refl, e)

neither : (o q : Option Path) → option_or o q ≡ None → (o ≡ None) × (q ≡ None)
neither None q e = (refl, e)
neither (Some p) q e = absurd (let e2 : Some p ≡ None = e in cc)

-- a text has the shape of the path whose text it is
not_so : (t own shape : List ℕ) → t ≡ own → fits t shape ≡ false → fits own shape ≡ true → ⊥
not_so t own shape same differs held = false≢true (sym differs ∙ subst (λ (s : List ℕ). fits s shape ≡ true) (sym same) held)

none : (t : List ℕ) (o : Option Path) → shaped_path t ≡ o → IfNone o ((p : Path) → IsTextOf t p → ⊥)
none t (Some p) e = tt
none t None e =
    let outer = neither (option_or (device_path t) (class_path t)) (generic_path t) e in
    let inner = neither (device_path t) (class_path t) outer.0 in
    let no_vendor = lost (fits t (codes "PC/####")) (Vendor (four_at 3 t)) _ inner.0 in
    let no_device = lost (fits t (codes "PC/####/####")) (Device (four_at 3 t) (four_at 8 t)) _ no_vendor.1 in
    let no_subsystem = lost (fits t (codes "PC/####/####/########")) (Subsystem (four_at 3 t) (four_at 8 t) (four_at 13 t) (four_at 17 t)) None no_device.1 in
    let no_class = lost (fits t (codes "PD/##")) (Class (two_at 3 t)) _ inner.1 in
    let no_subclass = lost (fits t (codes "PD/##/##")) (Subclass (two_at 3 t) (two_at 6 t)) _ no_class.1 in
    let no_progif = lost (fits t (codes "PD/##/##/##")) (ProgIf (two_at 3 t) (two_at 6 t) (two_at 9 t)) None no_subclass.1 in
    let no_generic = lost (fits t (codes "PS/####/####")) (Generic (four_at 3 t) (four_at 8 t)) None outer.1 in
    no_path t no_vendor.0 no_device.0 no_subsystem.0 no_class.0 no_subclass.0 no_progif.0 no_generic.0
  where
    no_path : (t : List ℕ) → fits t (codes "PC/####") ≡ false → fits t (codes "PC/####/####") ≡ false → fits t (codes "PC/####/####/########") ≡ false → fits t (codes "PD/##") ≡ false → fits t (codes "PD/##/##") ≡ false → fits t (codes "PD/##/##/##") ≡ false → fits t (codes "PS/####/####") ≡ false → (p : Path) → IsTextOf t p → ⊥
    no_path t a b c d e f g (Vendor v) h = not_so t (path_text (Vendor v)) _ h.same a (fits_vendor v)
    no_path t a b c d e f g (Device v w) h = not_so t (path_text (Device v w)) _ h.same b (fits_device v w)
    no_path t a b c d e f g (Subsystem v w x y) h = not_so t (path_text (Subsystem v w x y)) _ h.same c (fits_subsystem v w x y)
    no_path t a b c d e f g (Class v) h = not_so t (path_text (Class v)) _ h.same d (fits_class v)
    no_path t a b c d e f g (Subclass v w) h = not_so t (path_text (Subclass v w)) _ h.same e (fits_subclass v w)
    no_path t a b c d e f g (ProgIf v w x) h = not_so t (path_text (ProgIf v w x)) _ h.same f (fits_progif v w x)
    no_path t a b c d e f g (Generic v w) h = not_so t (path_text (Generic v w)) _ h.same g (fits_generic v w)

pub shaped_is : (t : List ℕ) → shaped_path t ≡ path_of t
shaped_is t = read_path t (shaped_path t) (its t) (none t (shaped_path t) refl)
