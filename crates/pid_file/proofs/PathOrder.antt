-- The order of numbers is the order of their digits.
use Rattle.std.proofs.Common.{◌≡◌, ℕ, zero, suc, ◌+◌, ◌*◌, ◌/◌, ◌%◌, ◌<◌, ◌≤◌, ◌^◌, true, false, cond, eqb, List, [], ◌∷◌, ◌++◌, Option, Some, None, length, refl, sym, ap, subst, ◌∙◌, arith, inl, inr}
use Rattle.std.specs.declared.cmp.Ordering.{Ordering}
use Rattle.std.specs.declared.cmp.Ordering.TheVariants.{Less, Equal, Greater}
use Rattle.std.specs.Ordering.{nat_cmp, ordering_then, is_eq}
use Rattle.std.specs.Cmp.Lexicographic.{slice_cmp}
use Rattle.std.specs.Char.{digit_char}
use Rattle.std.specs.Option.{option_cmp}
use Rattle.std.specs.Prelude.{slice_get}
use Rattle.std.specs.FinMap.{nat_cmp-IsAntisymmetric}
use Rattle.std.proofs.lemmas.Bool.{cases_lt}
use Rattle.std.proofs.lemmas.Bool.Decides.{nat_tests}
use Rattle.pid_file.specs.declared.path.Path.{Path}
use Rattle.pid_file.specs.declared.path.Path.TheVariants.{Vendor, Device, Subsystem, Class, Subclass, ProgIf, Generic}
use Rattle.pid_file.specs.PathTexts.{IsPath, path_text}
use Rattle.pid_file.specs.Steps.Paths.{path_cmp}
use Rattle.pid_file.specs.Steps.PathPlaces.{letter_of, numbers_of, path_head, path_rest, path_key}
use Rattle.pid_file.specs.Identifiers.{hex4, hex2}

-- digits compare as what they stand for
digit_order : (m n : ℕ) → m < 16 → n < 16 → nat_cmp (digit_char m) (digit_char n) ≡ nat_cmp m n
digit_order m n p q = elim (cases_lt m 10) [
  | inl _ ↦ elim (cases_lt n 10) [ inl _ ↦ grind (arith, nat_tests) | inr _ ↦ grind (arith, nat_tests) ]
  | inr _ ↦ elim (cases_lt n 10) [ inl _ ↦ grind (arith, nat_tests) | inr _ ↦ grind (arith, nat_tests) ]
]

-- numbers compare by their sixteens first
by_sixteens : (m n : ℕ) → nat_cmp m n ≡ ordering_then (nat_cmp (m / 16) (n / 16)) (nat_cmp (m % 16) (n % 16))
by_sixteens m n = elim (cases_lt (m / 16) (n / 16)) [
  | inl _ ↦ grind (arith, nat_tests)
  | inr _ ↦ elim (cases_lt (n / 16) (m / 16)) [ inl _ ↦ grind (arith, nat_tests) | inr _ ↦ grind (arith, nat_tests) ]
]

then_assoc : (a b c : Ordering) → ordering_then (ordering_then a b) c ≡ ordering_then a (ordering_then b c)
then_assoc Less b c = refl
then_assoc Equal b c = refl
then_assoc Greater b c = refl

then_equal : (o : Ordering) → ordering_then o Equal ≡ o
then_equal Less = refl
then_equal Equal = refl
then_equal Greater = refl

-- the order of four digits each
four_digits : (m n : ℕ) → m < 2 ^ 16 → n < 2 ^ 16 → nat_cmp m n ≡ ordering_then (nat_cmp (m / 4096 % 16) (n / 4096 % 16)) (ordering_then (nat_cmp (m / 256 % 16) (n / 256 % 16)) (ordering_then (nat_cmp (m / 16 % 16) (n / 16 % 16)) (nat_cmp (m % 16) (n % 16))))
four_digits m n p q =
    let third : nat_cmp (m / 16 / 16) (n / 16 / 16) ≡ ordering_then (nat_cmp (m / 4096 % 16) (n / 4096 % 16)) (nat_cmp (m / 256 % 16) (n / 256 % 16)) =
    let m1 : m / 16 / 16 ≡ m / 256 = omega arith in
    let n1 : n / 16 / 16 ≡ n / 256 = omega arith in
    let m2 : m / 256 / 16 ≡ m / 4096 % 16 = omega arith in
    let n2 : n / 256 / 16 ≡ n / 4096 % 16 = omega arith in
    (λ i. nat_cmp (m1 i) (n1 i)) ∙ by_sixteens (m / 256) (n / 256) ∙ (λ i. ordering_then (nat_cmp (m2 i) (n2 i)) (nat_cmp (m / 256 % 16) (n / 256 % 16))) in
    let second = by_sixteens (m / 16) (n / 16) ∙ ap (λ o. ordering_then o (nat_cmp (m / 16 % 16) (n / 16 % 16))) third in
    by_sixteens m n ∙ ap (λ o. ordering_then o (nat_cmp (m % 16) (n % 16))) second ∙ simp then_assoc

pub hex4_order : (m n : ℕ) → m < 2 ^ 16 → n < 2 ^ 16 → (x y : List ℕ) → slice_cmp nat_cmp (hex4 m ++ x) (hex4 n ++ y) ≡ ordering_then (nat_cmp m n) (slice_cmp nat_cmp x y)
hex4_order m n p q x y =
    let digits : (k j : ℕ) → nat_cmp (digit_char (k % 16)) (digit_char (j % 16)) ≡ nat_cmp (k % 16) (j % 16) = λ k j. digit_order (k % 16) (j % 16) (omega arith) (omega arith) in
    rw (digits (m / 4096) (n / 4096), digits (m / 256) (n / 256), digits (m / 16) (n / 16), digits m n, four_digits m n p q) (sym (simp then_assoc))

hex2_order : (m n : ℕ) → m < 2 ^ 8 → n < 2 ^ 8 → (x y : List ℕ) → slice_cmp nat_cmp (hex2 m ++ x) (hex2 n ++ y) ≡ ordering_then (nat_cmp m n) (slice_cmp nat_cmp x y)
hex2_order m n p q x y =
    let digits : (k j : ℕ) → nat_cmp (digit_char (k % 16)) (digit_char (j % 16)) ≡ nat_cmp (k % 16) (j % 16) = λ k j. digit_order (k % 16) (j % 16) (omega arith) (omega arith) in
    let a : m / 16 ≡ m / 16 % 16 = omega arith in
    let b : n / 16 ≡ n / 16 % 16 = omega arith in
    let two : nat_cmp m n ≡ ordering_then (nat_cmp (m / 16 % 16) (n / 16 % 16)) (nat_cmp (m % 16) (n % 16)) = by_sixteens m n ∙ (λ i. ordering_then (nat_cmp (a i) (b i)) (nat_cmp (m % 16) (n % 16))) in
    rw (digits (m / 16) (n / 16), digits m n, two) (sym (simp then_assoc))

-- how the numbers below a letter are written: after a slash or not, with four digits or two
pub data Level : Type 0 where
  Slash4 : Level
  Bare4 : Level
  Slash2 : Level

abbrev pub written : Level → ℕ → List ℕ
written Slash4 n = 47 ∷ hex4 n
written Bare4 n = hex4 n
written Slash2 n = 47 ∷ hex2 n

abbrev pub IsWithin : Level → ℕ → Type 0
IsWithin Slash4 n = n < 2 ^ 16
IsWithin Bare4 n = n < 2 ^ 16
IsWithin Slash2 n = n < 2 ^ 8

abbrev pub text_by : List Level → List ℕ → List ℕ
text_by [] ns = []
text_by (l ∷ ls) [] = []
text_by (l ∷ ls) (n ∷ ns) = written l n ++ text_by ls ns

-- no more numbers than levels, each with its digits
abbrev pub Fit : List Level → List ℕ → Type 0
Fit [] [] = Unit {0}
Fit [] (n ∷ ns) = ⊥
Fit (l ∷ ls) [] = Unit {0}
Fit (l ∷ ls) (n ∷ ns) = IsWithin l n × Fit ls ns

level_order : (l : Level) (m n : ℕ) (x y : List ℕ) → IsWithin l m → IsWithin l n → slice_cmp nat_cmp (written l m ++ x) (written l n ++ y) ≡ ordering_then (nat_cmp m n) (slice_cmp nat_cmp x y)
level_order Slash4 m n x y p q = hex4_order m n p q x y
level_order Bare4 m n x y p q = hex4_order m n p q x y
level_order Slash2 m n x y p q = hex2_order m n p q x y

-- texts below one letter compare as their numbers
levels_order : (ls : List Level) (ms ns : List ℕ) → Fit ls ms → Fit ls ns → slice_cmp nat_cmp (text_by ls ms) (text_by ls ns) ≡ slice_cmp nat_cmp ms ns
levels_order [] [] [] p q = refl
levels_order [] [] (n ∷ ns) p q = absurd q
levels_order [] (m ∷ ms) ns p q = absurd p
levels_order (l ∷ ls) [] [] p q = refl
levels_order (l ∷ ls) [] (n ∷ ns) p q = elim l as (λ l. slice_cmp nat_cmp [] (written l n ++ text_by ls ns) ≡ Less) [ Slash4 ↦ refl | Bare4 ↦ refl | Slash2 ↦ refl ]
levels_order (l ∷ ls) (m ∷ ms) [] p q = elim l as (λ l. slice_cmp nat_cmp (written l m ++ text_by ls ms) [] ≡ Greater) [ Slash4 ↦ refl | Bare4 ↦ refl | Slash2 ↦ refl ]
levels_order (l ∷ ls) (m ∷ ms) (n ∷ ns) p q = level_order l m n (text_by ls ms) (text_by ls ns) p.0 q.0 ∙ ap (ordering_then (nat_cmp m n)) (levels_order ls ms ns p.1 q.1)

-- the levels below a letter
abbrev pub levels_by : ℕ → List Level
levels_by letter = cond (eqb letter 68) (Slash2 ∷ Slash2 ∷ Slash2 ∷ []) (Slash4 ∷ Slash4 ∷ Slash4 ∷ Bare4 ∷ [])

-- a text by the table
pub record IsTabled (p : Path) : Type 0 where
  pub text : path_text p ≡ 80 ∷ letter_of p ∷ text_by (levels_by (letter_of p)) (numbers_of p)
  pub fit : Fit (levels_by (letter_of p)) (numbers_of p)

pub tabled : (p : Path) → IsPath p → IsTabled p
tabled (Vendor v) h = record { text = refl; fit = (h, tt) }
tabled (Device v d) h = record { text = refl; fit = (h.0, (h.1, tt)) }
tabled (Subsystem v d s e) h = record { text = refl; fit = (h.0, (h.1, (h.2, (h.3, tt)))) }
tabled (Class c) h = record { text = refl; fit = (h, tt) }
tabled (Subclass c s) h = record { text = refl; fit = (h.0, (h.1, tt)) }
tabled (ProgIf c s p) h = record { text = refl; fit = (h.0, (h.1, (h.2, tt))) }
tabled (Generic v d) h = record { text = refl; fit = (h.0, (h.1, tt)) }

same_letter_order : (a b : ℕ) (ms ns : List ℕ) → Fit (levels_by a) ms → Fit (levels_by b) ns → ordering_then (nat_cmp a b) (slice_cmp nat_cmp (text_by (levels_by a) ms) (text_by (levels_by b) ns)) ≡ ordering_then (nat_cmp a b) (slice_cmp nat_cmp ms ns)
same_letter_order a b ms ns p q =
    elim (nat_cmp a b) as (λ o. nat_cmp a b ≡ o → ordering_then o (slice_cmp nat_cmp (text_by (levels_by a) ms) (text_by (levels_by b) ns)) ≡ ordering_then o (slice_cmp nat_cmp ms ns)) [
      | Less ↦ λ e. refl
      | Equal ↦ λ e.
          let same : b ≡ a = sym (nat_cmp-IsAntisymmetric a b e) in
          subst (λ (c : ℕ). slice_cmp nat_cmp (text_by (levels_by a) ms) (text_by (levels_by c) ns) ≡ slice_cmp nat_cmp ms ns) (sym same) (levels_order (levels_by a) ms ns p (subst (λ (c : ℕ). Fit (levels_by c) ns) same q))
      | Greater ↦ λ e. refl
    ] refl

-- the order of paths is that of their letters, and then that of their numbers
pub places_order : (p q : Path) → IsPath p → IsPath q → path_cmp p q ≡ ordering_then (nat_cmp (letter_of p) (letter_of q)) (slice_cmp nat_cmp (numbers_of p) (numbers_of q))
places_order p q a b =
    let x = tabled p a in
    let y = tabled q b in
    rw (x.text, y.text) (same_letter_order (letter_of p) (letter_of q) (numbers_of p) (numbers_of q) x.fit y.fit)

equal_test : (v w : ℕ) → eqb v w ≡ is_eq (nat_cmp v w)
equal_test v w = elim (cases_lt v w) [
  | inl _ ↦ grind (arith, nat_tests)
  | inr _ ↦ elim (cases_lt w v) [ inl _ ↦ grind (arith, nat_tests) | inr _ ↦ grind (arith, nat_tests) ]
]

-- blocks are the same where their vendors are
pub same_block : (v w : ℕ) → v < 2 ^ 16 → w < 2 ^ 16 → eqb v w ≡ is_eq (slice_cmp nat_cmp (hex4 v) (hex4 w))
same_block v w p q = equal_test v w ∙ sym (ap is_eq (hex4_order v w p q [] [] ∙ then_equal (nat_cmp v w)))

-- by the number at a place: a missing one comes before every other
abbrev cmp_at : ℕ → List ℕ → List ℕ → Ordering
cmp_at i ms ns = option_cmp nat_cmp (slice_get ms i) (slice_get ns i)

-- by the numbers after the first
abbrev rest_cmp : List ℕ → List ℕ → Ordering
rest_cmp ms ns = ordering_then (cmp_at 1 ms ns) (ordering_then (cmp_at 2 ms ns) (cmp_at 3 ms ns))

-- number after number: a missing one comes before every other
abbrev tail : List ℕ → List ℕ
tail [] = []
tail (n ∷ ns) = ns

slice_get-tail : (ns : List ℕ) (i : ℕ) → slice_get (tail ns) i ≡ slice_get ns (suc i)
slice_get-tail [] i = refl
slice_get-tail (n ∷ ns) i = refl

abbrev by_place : ℕ → List ℕ → List ℕ → Ordering
by_place zero ms ns = Equal
by_place (suc k) ms ns = ordering_then (option_cmp nat_cmp (slice_get ms 0) (slice_get ns 0)) (by_place k (tail ms) (tail ns))

by_place-nil : (k : ℕ) → by_place k [] [] ≡ Equal
by_place-nil zero = refl
by_place-nil (suc k) = by_place-nil k

slice_cmp-by_place : (k : ℕ) (ms ns : List ℕ) → length ms ≤ k → length ns ≤ k → slice_cmp nat_cmp ms ns ≡ by_place k ms ns
slice_cmp-by_place k [] [] p q = sym (by_place-nil k)
slice_cmp-by_place zero [] (n ∷ ns) p q = absurd (omega arith)
slice_cmp-by_place (suc k) [] (n ∷ ns) p q = refl
slice_cmp-by_place zero (m ∷ ms) ns p q = absurd (omega arith)
slice_cmp-by_place (suc k) (m ∷ ms) [] p q = refl
slice_cmp-by_place (suc k) (m ∷ ms) (n ∷ ns) p q = ap (ordering_then (nat_cmp m n)) (slice_cmp-by_place k ms ns (omega arith) (omega arith))

few : (p : Path) → length (numbers_of p) ≤ 4
few (Vendor v) = omega arith
few (Device v d) = omega arith
few (Subsystem v d s e) = omega arith
few (Class c) = omega arith
few (Subclass c s) = omega arith
few (ProgIf c s p) = omega arith
few (Generic v d) = omega arith

-- the first number, and by it
abbrev first_of : Path → ℕ
first_of (Vendor v) = v
first_of (Device v d) = v
first_of (Subsystem v d s e) = v
first_of (Class c) = c
first_of (Subclass c s) = c
first_of (ProgIf c s p) = c
first_of (Generic v d) = v

first_is : (p : Path) → slice_get (numbers_of p) 0 ≡ Some (first_of p)
first_is (Vendor v) = refl
first_is (Device v d) = refl
first_is (Subsystem v d s e) = refl
first_is (Class c) = refl
first_is (Subclass c s) = refl
first_is (ProgIf c s p) = refl
first_is (Generic v d) = refl

by_parts : (p q : Path) → IsPath p → IsPath q → path_cmp p q ≡ ordering_then (ordering_then (nat_cmp (letter_of p) (letter_of q)) (nat_cmp (first_of p) (first_of q))) (rest_cmp (numbers_of p) (numbers_of q))
by_parts p q a b =
    let ms = numbers_of p in
    let ns = numbers_of q in
    let first : option_cmp nat_cmp (slice_get ms 0) (slice_get ns 0) ≡ nat_cmp (first_of p) (first_of q) = λ i. option_cmp nat_cmp (first_is p i) (first_is q i) in
    places_order p q a b
    ∙ ap (ordering_then (nat_cmp (letter_of p) (letter_of q))) (slice_cmp-by_place 4 ms ns (few p) (few q))
    ∙ rw (first, slice_get-tail (tail (tail ms)) 0, slice_get-tail (tail ms) 1, slice_get-tail (tail ms) 0, slice_get-tail ms 2, slice_get-tail ms 1, slice_get-tail ms 0, slice_get-tail (tail (tail ns)) 0, slice_get-tail (tail ns) 1, slice_get-tail (tail ns) 0, slice_get-tail ns 2, slice_get-tail ns 1, slice_get-tail ns 0, then_equal (option_cmp nat_cmp (slice_get ms 3) (slice_get ns 3))) refl
    ∙ sym (then_assoc (nat_cmp (letter_of p) (letter_of q)) (nat_cmp (first_of p) (first_of q)) (rest_cmp ms ns))

-- numbers that are packed into one compare in turn
packed : (a b c d : ℕ) → b < 131072 → d < 131072 → nat_cmp (a * 131072 + b) (c * 131072 + d) ≡ ordering_then (nat_cmp a c) (nat_cmp b d)
packed a b c d p q = elim (cases_lt a c) [
  | inl _ ↦ grind (arith, nat_tests)
  | inr _ ↦ elim (cases_lt c a) [ inl _ ↦ grind (arith, nat_tests) | inr _ ↦ grind (arith, nat_tests) ]
]

packed64 : (a b c d : ℕ) → b < 18446744073709551616 → d < 18446744073709551616 → nat_cmp (a * 18446744073709551616 + b) (c * 18446744073709551616 + d) ≡ ordering_then (nat_cmp a c) (nat_cmp b d)
packed64 a b c d p q = elim (cases_lt a c) [
  | inl _ ↦ grind (arith, nat_tests)
  | inr _ ↦ elim (cases_lt c a) [ inl _ ↦ grind (arith, nat_tests) | inr _ ↦ grind (arith, nat_tests) ]
]

-- a place as a number
abbrev place : Option ℕ → ℕ
place None = 0
place (Some n) = n + 1

place_order : (a b : Option ℕ) → option_cmp nat_cmp a b ≡ nat_cmp (place a) (place b)
place_order None None = refl
place_order None (Some n) = grind (arith, nat_tests)
place_order (Some m) None = grind (arith, nat_tests)
place_order (Some m) (Some n) = elim (cases_lt m n) [
  | inl _ ↦ grind (arith, nat_tests)
  | inr _ ↦ elim (cases_lt n m) [ inl _ ↦ grind (arith, nat_tests) | inr _ ↦ grind (arith, nat_tests) ]
]

abbrev place_at : Path → ℕ → ℕ
place_at p i = place (slice_get (numbers_of p) i)

-- a path's numbers in its packed ones
record IsPacked (p : Path) : Type 0 where
  head : path_head p ≡ letter_of p * 131072 + first_of p
  rest : path_rest p ≡ (place_at p 1 * 131072 + place_at p 2) * 131072 + place_at p 3
  first_small : first_of p < 131072
  second_small : place_at p 1 < 131072
  third_small : place_at p 2 < 131072
  fourth_small : place_at p 3 < 131072

is_packed : (p : Path) → IsPath p → IsPacked p
is_packed (Vendor v) h = record { head = refl; rest = refl; first_small = omega (arith, h); second_small = omega arith; third_small = omega arith; fourth_small = omega arith }
is_packed (Device v d) h = record { head = refl; rest = omega arith; first_small = omega (arith, h.0); second_small = omega (arith, h.1); third_small = omega arith; fourth_small = omega arith }
is_packed (Subsystem v d s e) h = record { head = refl; rest = omega arith; first_small = omega (arith, h.0); second_small = omega (arith, h.1); third_small = omega (arith, h.2); fourth_small = omega (arith, h.3) }
is_packed (Class c) h = record { head = refl; rest = refl; first_small = omega (arith, h); second_small = omega arith; third_small = omega arith; fourth_small = omega arith }
is_packed (Subclass c s) h = record { head = refl; rest = omega arith; first_small = omega (arith, h.0); second_small = omega (arith, h.1); third_small = omega arith; fourth_small = omega arith }
is_packed (ProgIf c s p) h = record { head = refl; rest = omega arith; first_small = omega (arith, h.0); second_small = omega (arith, h.1); third_small = omega (arith, h.2); fourth_small = omega arith }
is_packed (Generic v d) h = record { head = refl; rest = omega arith; first_small = omega (arith, h.0); second_small = omega (arith, h.1); third_small = omega arith; fourth_small = omega arith }

rest_order : (p q : Path) → IsPacked p → IsPacked q → nat_cmp (path_rest p) (path_rest q) ≡ rest_cmp (numbers_of p) (numbers_of q)
rest_order p q x y =
    let second : cmp_at 1 (numbers_of p) (numbers_of q) ≡ nat_cmp (place_at p 1) (place_at q 1) = place_order (slice_get (numbers_of p) 1) (slice_get (numbers_of q) 1) in
    let third : cmp_at 2 (numbers_of p) (numbers_of q) ≡ nat_cmp (place_at p 2) (place_at q 2) = place_order (slice_get (numbers_of p) 2) (slice_get (numbers_of q) 2) in
    let fourth : cmp_at 3 (numbers_of p) (numbers_of q) ≡ nat_cmp (place_at p 3) (place_at q 3) = place_order (slice_get (numbers_of p) 3) (slice_get (numbers_of q) 3) in
    (λ i. nat_cmp (x.rest i) (y.rest i))
    ∙ packed (place_at p 1 * 131072 + place_at p 2) (place_at p 3) (place_at q 1 * 131072 + place_at q 2) (place_at q 3) x.fourth_small y.fourth_small
    ∙ ap (λ o. ordering_then o (nat_cmp (place_at p 3) (place_at q 3))) (packed (place_at p 1) (place_at p 2) (place_at q 1) (place_at q 2) x.third_small y.third_small)
    ∙ then_assoc (nat_cmp (place_at p 1) (place_at q 1)) (nat_cmp (place_at p 2) (place_at q 2)) (nat_cmp (place_at p 3) (place_at q 3))
    ∙ (λ i. ordering_then (sym second i) (ordering_then (sym third i) (sym fourth i)))

head_order : (p q : Path) → IsPacked p → IsPacked q → nat_cmp (path_head p) (path_head q) ≡ ordering_then (nat_cmp (letter_of p) (letter_of q)) (nat_cmp (first_of p) (first_of q))
head_order p q x y = (λ i. nat_cmp (x.head i) (y.head i)) ∙ packed (letter_of p) (first_of p) (letter_of q) (first_of q) x.first_small y.first_small

-- paths compare by their packed numbers
path_order : (p q : Path) → IsPath p → IsPath q → path_cmp p q ≡ ordering_then (nat_cmp (path_head p) (path_head q)) (nat_cmp (path_rest p) (path_rest q))
path_order p q a b =
    let x = is_packed p a in
    let y = is_packed q b in
    by_parts p q a b ∙ (λ i. ordering_then (sym (head_order p q x y) i) (sym (rest_order p q x y) i))

rest_small : (p : Path) → IsPacked p → path_rest p < 18446744073709551616
rest_small p x = omega (arith, x.rest, x.second_small, x.third_small, x.fourth_small)

-- and by the whole key
pub key_order : (p q : Path) → IsPath p → IsPath q → nat_cmp (path_key p) (path_key q) ≡ path_cmp p q
key_order p q a b = packed64 (path_head p) (path_rest p) (path_head q) (path_rest q) (rest_small p (is_packed p a)) (rest_small q (is_packed q b)) ∙ sym (path_order p q a b)

-- what decides at the front decides
decided : (a b : Ordering) → is_eq a ≡ false → a ≡ ordering_then a b
decided Less b h = refl
decided Equal b h = absurd cc
decided Greater b h = refl

undecided : (a b : Ordering) → is_eq a ≡ true → b ≡ ordering_then a b
undecided Less b h = absurd cc
undecided Equal b h = refl
undecided Greater b h = absurd cc

pub by_head : (p q : Path) → IsPath p → IsPath q → eqb (path_head p) (path_head q) ≡ false → nat_cmp (path_head p) (path_head q) ≡ path_cmp p q
by_head p q a b differ = decided (nat_cmp (path_head p) (path_head q)) (nat_cmp (path_rest p) (path_rest q)) (sym (equal_test (path_head p) (path_head q)) ∙ differ) ∙ sym (path_order p q a b)

pub by_rest : (p q : Path) → IsPath p → IsPath q → eqb (path_head p) (path_head q) ≡ true → nat_cmp (path_rest p) (path_rest q) ≡ path_cmp p q
by_rest p q a b same = undecided (nat_cmp (path_head p) (path_head q)) (nat_cmp (path_rest p) (path_rest q)) (sym (equal_test (path_head p) (path_head q)) ∙ same) ∙ sym (path_order p q a b)
