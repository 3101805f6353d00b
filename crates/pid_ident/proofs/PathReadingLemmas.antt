-- The path that a text reads to is the one whose text it is; the text of its parent by the length of its own.
use Rattle.std.proofs.Common.{◌≡◌, ℕ, ◌+◌, ◌*◌, ◌/◌, ◌%◌, ◌<◌, ◌^◌, Bool, true, false, cond, List, Option, Some, None, refl, sym, ap, subst, ◌∙◌, arith}
use Rattle.std.specs.Prelude.{nat_lt, ◌==◌, length, slice_index}
use Rattle.std.specs.Char.{digit_char}
use Rattle.std.specs.Option.{IfSome, IfNone, option_map}
use Rattle.std.specs.Str.{bytes_eq}
use Rattle.std.proofs.lemmas.Bool.Decides.{nat_tests}
use Rattle.std.proofs.lemmas.Slice.Eq.{bytes_eq-Decides}
use Rattle.pid_file.specs.declared.path.Path.{Path}
use Rattle.pid_file.specs.declared.path.Path.TheVariants.{Vendor, Device, Subsystem, Class, Subclass, ProgIf, Generic}
use Rattle.pid_file.specs.PathTexts.{IsPath, IsTextOf, path_text, parent_of}
use Rattle.pid_ident.specs.PathReading.{hex_value, two_at, four_at, candidate, if_its_text, path_of, parent_text}

hex_value-digit_char : (x : ℕ) → x < 16 → hex_value (digit_char x) ≡ x
hex_value-digit_char x h = chosen (nat_lt x 10) refl
  where
    chosen : (b : Bool) → nat_lt x 10 ≡ b → hex_value (cond b (48 + x) (87 + x)) ≡ x
    chosen true e = grind (arith, nat_tests)
    chosen false e = grind (arith, nat_tests)

pub hex_value-below : (b : ℕ) → hex_value b < 16
hex_value-below b = omega arith

pair_value : (n : ℕ) → n < 2 ^ 8 → 16 * hex_value (digit_char (n / 16 % 16)) + hex_value (digit_char (n % 16)) ≡ n
pair_value n h = rw (hex_value-digit_char (n / 16 % 16) (omega arith), hex_value-digit_char (n % 16) (omega arith)) (omega arith)

quad_value : (n : ℕ) → n < 2 ^ 16 → 256 * (16 * hex_value (digit_char (n / 4096 % 16)) + hex_value (digit_char (n / 256 % 16))) + (16 * hex_value (digit_char (n / 16 % 16)) + hex_value (digit_char (n % 16))) ≡ n
quad_value n h = rw (hex_value-digit_char (n / 4096 % 16) (omega arith), hex_value-digit_char (n / 256 % 16) (omega arith), hex_value-digit_char (n / 16 % 16) (omega arith), hex_value-digit_char (n % 16) (omega arith)) (omega arith)

same_text : (t : List ℕ) → bytes_eq t t ≡ true
same_text t = (bytes_eq-Decides t t).1 refl

candidate_of : (p : Path) → IsPath p → candidate (path_text p) ≡ Some p
candidate_of (Vendor v) h = ap (λ n. Some (Vendor n)) (quad_value v h)
candidate_of (Device v d) h = rw (quad_value v h.0, quad_value d h.1) refl
candidate_of (Subsystem v d s e) h = rw (quad_value v h.0, quad_value d h.1, quad_value s h.2, quad_value e h.3) refl
candidate_of (Class c) h = ap (λ n. Some (Class n)) (pair_value c h)
candidate_of (Subclass c s) h = rw (pair_value c h.0, pair_value s h.1) refl
candidate_of (ProgIf c s p) h = rw (pair_value c h.0, pair_value s h.1, pair_value p h.2) refl
candidate_of (Generic v d) h = rw (quad_value v h.0, quad_value d h.1) refl

pub path_of_text : (text : List ℕ) (p : Path) → IsTextOf text p → path_of text ≡ Some p
path_of_text text p h = subst (λ (t : List ℕ). path_of t ≡ Some p) (sym h.same) (ap (if_its_text (path_text p)) (candidate_of p h.in_range) ∙ ap (λ b. cond b (Some p) None) (same_text (path_text p)))

pub two-below : (i : ℕ) (t : List ℕ) → two_at i t < 2 ^ 8
two-below i t = omega arith

pub four-below : (i : ℕ) (t : List ℕ) → four_at i t < 2 ^ 16
four-below i t = omega arith

abbrev IfPath : Option Path → Type 0
IfPath None = Unit {0}
IfPath (Some p) = IsPath p

either_path : (b : Bool) (p q : Path) → IsPath p → IsPath q → IsPath (cond b p q)
either_path true p q h k = h
either_path false p q h k = k

pick : (b : Bool) (p : Path) (o : Option Path) → IsPath p → IfPath o → IfPath (cond b (Some p) o)
pick true p o h k = h
pick false p o h k = k

candidate_in_range : (t : List ℕ) → IfPath (candidate t)
candidate_in_range t =
    pick (length t == 7) (Vendor (four_at 3 t)) _ (four-below 3 t)
    (pick (length t == 12) (cond (slice_index t 1 == 83) (Generic (four_at 3 t) (four_at 8 t)) (Device (four_at 3 t) (four_at 8 t))) _ (either_path (slice_index t 1 == 83) _ _ (four-below 3 t, four-below 8 t) (four-below 3 t, four-below 8 t))
    (pick (length t == 21) (Subsystem (four_at 3 t) (four_at 8 t) (four_at 13 t) (four_at 17 t)) _ (four-below 3 t, four-below 8 t, four-below 13 t, four-below 17 t)
    (pick (length t == 5) (Class (two_at 3 t)) _ (two-below 3 t)
    (pick (length t == 8) (Subclass (two_at 3 t) (two_at 6 t)) _ (two-below 3 t, two-below 6 t)
    (pick (length t == 11) (ProgIf (two_at 3 t) (two_at 6 t) (two_at 9 t)) None (two-below 3 t, two-below 6 t, two-below 9 t) tt)))))

its_text : (text : List ℕ) (o : Option Path) → IfPath o → (p : Path) → if_its_text text o ≡ Some p → IsTextOf text p
its_text text None h p e = absurd cc
its_text text (Some q) h p e = chosen (bytes_eq (path_text q) text) refl e
  where
    chosen : (b : Bool) → bytes_eq (path_text q) text ≡ b → cond b (Some q) None ≡ Some p → IsTextOf text p
    chosen true same e = subst (λ (r : Path). IsTextOf text r) (ap (λ o. elim o as (λ _. Path) [ Some r ↦ r | None ↦ q ]) e) (record { in_range = h; same = sym ((bytes_eq-Decides (path_text q) text).0 same) })
    chosen false same e = absurd cc

pub text_of_path : (text : List ℕ) (p : Path) → path_of text ≡ Some p → IsTextOf text p
text_of_path text p e = its_text text (candidate text) (candidate_in_range text) p e

pub read_path : (text : List ℕ) (o : Option Path) → IfSome o (λ p. IsTextOf text p) → IfNone o ((p : Path) → IsTextOf text p → ⊥) → o ≡ path_of text
read_path text (Some p) found none = sym (path_of_text text p found)
read_path text None found none = nothing (path_of text) refl
  where
    nothing : (o : Option Path) → path_of text ≡ o → None ≡ o
    nothing None e = refl
    nothing (Some p) e = absurd (none p (text_of_path text p e))

pub found_is : (text : List ℕ) (o : Option Path) → o ≡ path_of text → IfSome o (λ p. IsTextOf text p)
found_is text None e = tt
found_is text (Some p) e = text_of_path text p (sym e)

pub none_is : (text : List ℕ) (o : Option Path) → o ≡ path_of text → IfNone o ((p : Path) → IsTextOf text p → ⊥)
none_is text (Some p) e = tt
none_is text None e = λ p h. absurd (let no : None ≡ Some p = e ∙ path_of_text text p h in cc)

pub text_of_parent : (path : Path) → parent_text (path_text path) ≡ option_map path_text (parent_of path)
text_of_parent (Vendor v) = refl
text_of_parent (Device v d) = refl
text_of_parent (Subsystem v d s e) = refl
text_of_parent (Class c) = refl
text_of_parent (Subclass c s) = refl
text_of_parent (ProgIf c s p) = refl
text_of_parent (Generic v d) = refl
