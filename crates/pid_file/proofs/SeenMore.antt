-- One more path among those that were seen.
use Rattle.std.proofs.Common.{◌≡◌, ℕ, ◌+◌, ◌*◌, ◌<◌, ◌≤◌, ◌-◌, Bool, true, false, cond, ◌&&◌, eqb, List, [], ◌++◌, length, take, set, replicate, refl, sym, ap, ◌∙◌, arith, inl, inr}
use mathlib.Core.Bool.{false≢true, true≢false}
use Rattle.std.specs.Prelude.{Result, Ok, Err, IfOk}
use Rattle.std.specs.Ordering.{is_eq, nat_cmp}
use Rattle.std.specs.declared.cmp.Ordering.{Ordering}
use Rattle.std.specs.declared.cmp.Ordering.TheVariants.{Less, Equal, Greater}
use Rattle.std.specs.Cmp.{on_total, eq_by_cmp_equiv}
use Rattle.std.specs.FinMap.{slice_cmp-IsAntisymmetric, nat_cmp-IsAntisymmetric}
use Rattle.std.proofs.lemmas.Cmp.{nat_list_cmp_total}
use Rattle.std.proofs.lemmas.Bool.{cases_lt}
use Rattle.std.proofs.lemmas.List.{get_or_append_left, get_or-append_right, get_or_past, get_or-replicate, length-replicate, get_or-set_same, get_or-set_other, take_all}
use Rattle.std.proofs.lemmas.Bool.Decides.{nat_tests}
use Rattle.pid_file.specs.declared.path.Path.{Path}
use Rattle.pid_file.specs.declared.path.Path.TheVariants.{Vendor, Device, Subsystem, Class, Subclass, ProgIf, Generic}
use Rattle.pid_file.specs.PathTexts.{IsPath, path_text}
use Rattle.pid_file.specs.Steps.Paths.{path_cmp}
use Rattle.pid_file.specs.Steps.PathPlaces.{path_key}
use Rattle.pid_file.specs.SeenItems.{has_path}
use Rattle.pid_file.specs.Steps.SeenPaths.{IsOneMore}
use Rattle.pid_file.specs.Steps.Flags.{IsOneMoreFlag}
use Rattle.pid_file.specs.SeenPaths.{has_flag, is_nested, seen_by}
use Rattle.pid_file.specs.Steps.SeenPaths.{is_head, with_path}
use Rattle.pid_file.proofs.PathOrder.{key_order}
use Rattle.pid_file.proofs.Kin.{same_path}

pub same_keys : (p q : Path) → IsPath p → IsPath q → is_eq (nat_cmp (path_key p) (path_key q)) ≡ is_eq (path_cmp q p)
same_keys p q a b = ap is_eq (key_order p q a b) ∙ (eq_by_cmp_equiv (on_total path_text nat_list_cmp_total)).symm p q

more_items : (old new : List ℕ) (p q : Path) → IsPath p → IsPath q → IsOneMore nat_cmp old (path_key p) new → has_path new q ≡ cond (is_eq (path_cmp q p)) true (has_path old q)
more_items old new p q a b one_more = one_more (path_key q) ∙ ap (λ b. cond b true (has_path old q)) (same_keys p q a b)

equal_is : (o : Ordering) → is_eq o ≡ true → o ≡ Equal
equal_is Less h = absurd (false≢true h)
equal_is Equal h = refl
equal_is Greater h = absurd (false≢true h)

-- which of the three keeps a path
abbrev pub part_of : Path → ℕ
part_of (Vendor v) = 0
part_of (Device v d) = 2
part_of (Subsystem v d s e) = 2
part_of (Class c) = 1
part_of (Subclass c s) = 2
part_of (ProgIf c s p) = 2
part_of (Generic v d) = 1

eqb_same : (n : ℕ) → eqb n n ≡ true
eqb_same n = grind (arith, nat_tests)

-- paths that compare as equal are one
pub one_path : (p q : Path) → IsPath p → IsPath q → is_eq (path_cmp q p) ≡ true → q ≡ p
one_path p q a b h = same_path q p b a (slice_cmp-IsAntisymmetric nat_cmp-IsAntisymmetric (path_text q) (path_text p) (equal_is (path_cmp q p) h))

false_by : (b : Bool) → (b ≡ true → false ≡ true) → b ≡ false
false_by true h = sym (h refl)
false_by false h = refl

differ : (p q : Path) → IsPath p → IsPath q → eqb (part_of q) (part_of p) ≡ false → is_eq (path_cmp q p) ≡ false
differ p q a b h = false_by (is_eq (path_cmp q p)) (λ e. sym h ∙ ap (λ r. eqb (part_of r) (part_of p)) (one_path p q a b e) ∙ eqb_same (part_of p))

pub nested_differ : (p q : Path) → IsPath p → IsPath q → is_head p ≡ true → is_nested q ≡ true → is_eq (path_cmp q p) ≡ false
nested_differ p q a b head nested = false_by (is_eq (path_cmp q p)) (λ e. absurd (apart p head (ap is_nested (sym (one_path p q a b e)) ∙ nested)))
  where
    apart : (p : Path) → is_head p ≡ true → is_nested p ≡ true → ⊥
    apart (Vendor v) h n = false≢true n
    apart (Device v d) h n = false≢true h
    apart (Subsystem v d s e) h n = false≢true h
    apart (Class c) h n = false≢true n
    apart (Subclass c s) h n = false≢true h
    apart (ProgIf c s t) h n = false≢true h
    apart (Generic v d) h n = false≢true h

-- a path that is kept elsewhere
elsewhere : (seen : Path → Bool) (p q : Path) → (is_head p && is_nested q) ≡ false → is_eq (path_cmp q p) ≡ false → seen q ≡ with_path seen p q
elsewhere seen p q kept other = (λ i. cond (sym kept i) false (cond (sym other i) true (seen q)))

there : (seen : Path → Bool) (p q : Path) → (is_head p && is_nested q) ≡ false → cond (is_eq (path_cmp q p)) true (seen q) ≡ with_path seen p q
there seen p q kept = ap (λ b. cond b false (cond (is_eq (path_cmp q p)) true (seen q))) (sym kept)

flat : (p : Path) (b : Bool) → part_of p ≡ 2 → (is_head p && b) ≡ false
flat (Vendor v) b h = absurd (omega (arith, h))
flat (Device v d) b h = refl
flat (Subsystem v d s e) b h = refl
flat (Class c) b h = absurd (omega (arith, h))
flat (Subclass c s) b h = refl
flat (ProgIf c s p) b h = refl
flat (Generic v d) b h = absurd (omega (arith, h))

pub nested_seen : (f : List Bool) (o below : List ℕ) (p : Path) → part_of p ≡ 2 → seen_by f o below p ≡ has_path below p
nested_seen f o below (Vendor v) h = absurd (omega (arith, h))
nested_seen f o below (Device v d) h = refl
nested_seen f o below (Subsystem v d s e) h = refl
nested_seen f o below (Class c) h = absurd (omega (arith, h))
nested_seen f o below (Subclass c s) h = refl
nested_seen f o below (ProgIf c s t) h = refl
nested_seen f o below (Generic v d) h = absurd (omega (arith, h))

pub below_more : (f : List Bool) (o below more : List ℕ) (p : Path) → IsPath p → part_of p ≡ 2 → IsOneMore nat_cmp below (path_key p) more → (q : Path) → IsPath q → seen_by f o more q ≡ with_path (seen_by f o below) p q
below_more f o below more p a at h (Vendor v) b = elsewhere (seen_by f o below) p (Vendor v) (flat p false at) (differ p (Vendor v) a b (ap (eqb 0) at))
below_more f o below more p a at h (Class c) b = elsewhere (seen_by f o below) p (Class c) (flat p false at) (differ p (Class c) a b (ap (eqb 1) at))
below_more f o below more p a at h (Generic v d) b = elsewhere (seen_by f o below) p (Generic v d) (flat p false at) (differ p (Generic v d) a b (ap (eqb 1) at))
below_more f o below more p a at h (Device v d) b = more_items below more p (Device v d) a b h ∙ there (seen_by f o below) p (Device v d) (flat p true at)
below_more f o below more p a at h (Subsystem v d s e) b = more_items below more p (Subsystem v d s e) a b h ∙ there (seen_by f o below) p (Subsystem v d s e) (flat p true at)
below_more f o below more p a at h (Subclass c s) b = more_items below more p (Subclass c s) a b h ∙ there (seen_by f o below) p (Subclass c s) (flat p true at)
below_more f o below more p a at h (ProgIf c s t) b = more_items below more p (ProgIf c s t) a b h ∙ there (seen_by f o below) p (ProgIf c s t) (flat p true at)

pub generic_more : (f : List Bool) (others more below : List ℕ) (v d : ℕ) → IsPath (Generic v d) → IsOneMore nat_cmp others (path_key (Generic v d)) more → (q : Path) → IsPath q → seen_by f more below q ≡ with_path (seen_by f others below) (Generic v d) q
generic_more f others more below v d a h (Vendor w) b = elsewhere (seen_by f others below) (Generic v d) (Vendor w) refl (differ (Generic v d) (Vendor w) a b refl)
generic_more f others more below v d a h (Class c) b = more_items others more (Generic v d) (Class c) a b h
generic_more f others more below v d a h (Generic w e) b = more_items others more (Generic v d) (Generic w e) a b h
generic_more f others more below v d a h (Device w e) b = elsewhere (seen_by f others below) (Generic v d) (Device w e) refl (differ (Generic v d) (Device w e) a b refl)
generic_more f others more below v d a h (Subsystem w e s t) b = elsewhere (seen_by f others below) (Generic v d) (Subsystem w e s t) refl (differ (Generic v d) (Subsystem w e s t) a b refl)
generic_more f others more below v d a h (Subclass c s) b = elsewhere (seen_by f others below) (Generic v d) (Subclass c s) refl (differ (Generic v d) (Subclass c s) a b refl)
generic_more f others more below v d a h (ProgIf c s t) b = elsewhere (seen_by f others below) (Generic v d) (ProgIf c s t) refl (differ (Generic v d) (ProgIf c s t) a b refl)

pub class_more : (f : List Bool) (others more below none : List ℕ) (c : ℕ) → IsPath (Class c) → none ≡ [] → IsOneMore nat_cmp others (path_key (Class c)) more → (q : Path) → IsPath q → seen_by f more none q ≡ with_path (seen_by f others below) (Class c) q
class_more f others more below none c a empty h (Vendor w) b = elsewhere (seen_by f others below) (Class c) (Vendor w) refl (differ (Class c) (Vendor w) a b refl)
class_more f others more below none c a empty h (Class d) b = more_items others more (Class c) (Class d) a b h
class_more f others more below none c a empty h (Generic w e) b = more_items others more (Class c) (Generic w e) a b h
class_more f others more below none c a empty h (Device w e) b = ap (λ (l : List ℕ). has_path l (Device w e)) empty
class_more f others more below none c a empty h (Subsystem w e s t) b = ap (λ (l : List ℕ). has_path l (Subsystem w e s t)) empty
class_more f others more below none c a empty h (Subclass d s) b = ap (λ (l : List ℕ). has_path l (Subclass d s)) empty
class_more f others more below none c a empty h (ProgIf d s t) b = ap (λ (l : List ℕ). has_path l (ProgIf d s t)) empty

key_tests : (v w : ℕ) → eqb v w ≡ is_eq (nat_cmp ((67 * 131072 + v) * 18446744073709551616 + 0) ((67 * 131072 + w) * 18446744073709551616 + 0))
key_tests v w = elim (cases_lt v w) [
  | inl _ ↦ grind (arith, nat_tests)
  | inr _ ↦ elim (cases_lt w v) [ inl _ ↦ grind (arith, nat_tests) | inr _ ↦ grind (arith, nat_tests) ]
]

pub vendor_more : (flags more : List Bool) (others below none : List ℕ) (v : ℕ) → IsPath (Vendor v) → none ≡ [] → IsOneMoreFlag flags v more → (q : Path) → IsPath q → seen_by more others none q ≡ with_path (seen_by flags others below) (Vendor v) q
vendor_more flags more others below none v a empty h (Vendor w) b = h w ∙ ap (λ b. cond b true (has_flag flags w)) (key_tests v w ∙ same_keys (Vendor v) (Vendor w) a b)
vendor_more flags more others below none v a empty h (Class c) b = elsewhere (seen_by flags others below) (Vendor v) (Class c) refl (differ (Vendor v) (Class c) a b refl)
vendor_more flags more others below none v a empty h (Generic w e) b = elsewhere (seen_by flags others below) (Vendor v) (Generic w e) refl (differ (Vendor v) (Generic w e) a b refl)
vendor_more flags more others below none v a empty h (Device w e) b = ap (λ (l : List ℕ). has_path l (Device w e)) empty
vendor_more flags more others below none v a empty h (Subsystem w e s t) b = ap (λ (l : List ℕ). has_path l (Subsystem w e s t)) empty
vendor_more flags more others below none v a empty h (Subclass d s) b = ap (λ (l : List ℕ). has_path l (Subclass d s)) empty
vendor_more flags more others below none v a empty h (ProgIf d s t) b = ap (λ (l : List ℕ). has_path l (ProgIf d s t)) empty

-- flags that are filled up with some that are not set
pub filled : (flags : List Bool) (k n : ℕ) → length flags ≤ k → (m : ℕ) → has_flag (take k flags ++ replicate n false) m ≡ has_flag flags m
filled flags k n long m =
    ap (λ (l : List Bool). has_flag (l ++ replicate n false) m) (take_all k flags long) ∙
    elim (cases_lt m (length flags)) [
      | inl a ↦ get_or_append_left flags (replicate n false) false m a
      | inr b ↦ get_or-append_right flags (replicate n false) (length flags) m false refl b ∙ unset n (m - length flags) ∙ sym (get_or_past flags m false b)
    ]
  where
    unset : (n m : ℕ) → has_flag (replicate n false) m ≡ false
    unset n m = elim (cases_lt m n) [
      | inl a ↦ get_or-replicate n m false false a
      | inr b ↦ get_or_past (replicate n false) m false (omega (arith, b, length-replicate n false))
    ]

-- and one of them set
pub flag_set : (flags now : List Bool) (n : ℕ) → n < length now → ((m : ℕ) → has_flag now m ≡ has_flag flags m) → (m : ℕ) → has_flag (set now n true) m ≡ cond (eqb n m) true (has_flag flags m)
flag_set flags now n within same m = elim (eqb n m) as (λ b. eqb n m ≡ b → has_flag (set now n true) m ≡ cond b true (has_flag flags m)) [
  | true ↦ λ e. let at : n ≡ m = grind (arith, nat_tests) in ap (λ k. has_flag (set now n true) k) (sym at) ∙ get_or-set_same now n true false within
  | false ↦ λ e. get_or-set_other now n m true false (λ s. true≢false (sym (ap (eqb n) s ∙ eqb_same n) ∙ e)) ∙ same m
] refl

pub if_ok : {A E : Type 0} {P Q : A → Type 0} (r : Result A E) → ((a : A) → P a → Q a) → IfOk r P → IfOk r Q
if_ok (Ok a) f h = f a h
if_ok (Err e) f h = h
