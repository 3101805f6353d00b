-- Paths below a path lie between two texts.
use Rattle.std.proofs.Common.{◌≡◌, ◌⊎◌, inl, inr, ℕ, zero, suc, ◌+◌, List, [], ◌∷◌, ◌++◌, length, take, drop, codes, None, Some, Option, refl, sym, ap, subst, ◌∙◌, arith, ◌<◌, Bool, true, false, Ordering, Less, Equal, Greater}
use Rattle.std.specs.Prelude.{is_some, nat_eq, ◌||◌, ◌/◌, ◌%◌}
use Rattle.std.specs.Char.{digit_char}
use Rattle.std.specs.Ordering.{nat_cmp, ordering_then, is_lt}
use Rattle.std.specs.Cmp.Lexicographic.{slice_cmp}
use Rattle.std.specs.FinMap.{nat_cmp-IsAntisymmetric}
use Rattle.std.specs.FinMap.Entries.{is_sorted}
use Rattle.std.proofs.lemmas.Bool.{and_parts, and_from}
use Rattle.std.proofs.lemmas.Bool.Decides.{nat_tests}
use Rattle.std.proofs.lemmas.Slice.Eq.{bytes_eq-Decides}
use Rattle.sqlite_rules.specs.Lists.{Has}
use Rattle.pid_ident.specs.Trees.{text_cmp}
use Rattle.pid_ident.specs.PathTexts.{IsTextOf}
use Rattle.pid_moderation.specs.Items.{Items, name_at, holds_parent, is_parent, has_children}
use Rattle.pid_moderation.specs.WellMade.{AllItems, HoldsParents}
use Rattle.pid_tables.specs.Rows.Steps.Ranges.{is_between, holds_between}
use Rattle.pid_tables.proofs.OfRows.RangeLemmas.{any_there, any_found, found_in, found_at}
use Rattle.pid_file.specs.declared.path.Path.{Path}
use Rattle.pid_file.specs.declared.path.Path.TheVariants.{Vendor, Device, Subsystem, Class, Subclass, ProgIf, Generic}
use Rattle.pid_ident.specs.Identifiers.{hex4, hex2}
use Rattle.pid_ident.specs.PathTexts.{path_text}
use Rattle.pid_ident.specs.PathReading.{parent_text}

-- the text behind which the generic subsystems of a vendor stand: PS/8086 for PC/8086
abbrev pub generics_of : List ℕ → List ℕ
generics_of text = codes "PS" ++ drop 2 text

-- the parent's text by the length of the text
abbrev twelve_front : List ℕ → Option (List ℕ)
twelve_front t = Some (codes "PC" ++ take 5 (drop 2 t))

abbrev twenty_one_front : List ℕ → Option (List ℕ)
twenty_one_front t = Some (take 12 t)

abbrev eight_front : List ℕ → Option (List ℕ)
eight_front t = Some (take 5 t)

abbrev eleven_front : List ℕ → Option (List ℕ)
eleven_front t = Some (take 8 t)

twelve : (t : List ℕ) → length t ≡ 12 → parent_text t ≡ twelve_front t
twelve t len = rw len refl

twenty_one : (t : List ℕ) → length t ≡ 21 → parent_text t ≡ twenty_one_front t
twenty_one t len = rw len refl

eight : (t : List ℕ) → length t ≡ 8 → parent_text t ≡ eight_front t
eight t len = rw len refl

eleven : (t : List ℕ) → length t ≡ 11 → parent_text t ≡ eleven_front t
eleven t len = rw len refl

cut : (n : ℕ) (t : List ℕ) (more : ℕ) → length t ≡ n + more → length (take n t) ≡ n
cut zero t more len = refl
cut (suc n) [] more len = absurd (omega (arith, len))
cut (suc n) (x ∷ t) more len = ap suc (cut n t more (omega (arith, len)))

second : List ℕ → ℕ
second (a ∷ b ∷ xs) = b
second _ = 0

other_letter : (m n : ℕ) → m ≡ n → nat_eq m n ≡ false → ⊥
other_letter m n same apart = grind (arith, nat_tests)

nothing_more : (x : ℕ) (xs : List ℕ) → [] ≡ x ∷ xs → ⊥
nothing_more x xs same = cc

-- a path below another: its parent is that path, or the parent of its parent is
pub below : (p q : Path) (t : List ℕ) → t ≡ path_text q → (x : ℕ) (xs : List ℕ) → t ≡ path_text p ++ 47 ∷ x ∷ xs
    → (parent_text t ≡ Some (path_text p)) ⊎ ((u : List ℕ) × (parent_text t ≡ Some u) × (parent_text u ≡ Some (path_text p)))
unfolding second
below (Vendor a) (Vendor e) t is x xs split = absurd (nothing_more x xs (ap (drop 8) (sym is ∙ split)))
below (Vendor a) (Device e f) t is x xs split = inl (twelve t (ap length is) ∙ ap twelve_front split)
below (Vendor a) (Subsystem e f g h) t is x xs split = inr (take 12 (path_text (Vendor a) ++ 47 ∷ x ∷ xs), twenty_one t (ap length is) ∙ ap twenty_one_front split, twelve (take 12 (path_text (Vendor a) ++ 47 ∷ x ∷ xs)) (cut 12 (path_text (Vendor a) ++ 47 ∷ x ∷ xs) 9 (ap length (sym split) ∙ ap length is)))
below (Vendor a) (Class e) t is x xs split = absurd (other_letter _ _ (ap second (sym is ∙ split)) refl)
below (Vendor a) (Subclass e f) t is x xs split = absurd (other_letter _ _ (ap second (sym is ∙ split)) refl)
below (Vendor a) (ProgIf e f g) t is x xs split = absurd (other_letter _ _ (ap second (sym is ∙ split)) refl)
below (Vendor a) (Generic e f) t is x xs split = absurd (other_letter _ _ (ap second (sym is ∙ split)) refl)
below (Device a b) (Vendor e) t is x xs split = absurd (nothing_more x xs (ap (drop 13) (sym is ∙ split)))
below (Device a b) (Device e f) t is x xs split = absurd (nothing_more x xs (ap (drop 13) (sym is ∙ split)))
below (Device a b) (Subsystem e f g h) t is x xs split = inl (twenty_one t (ap length is) ∙ ap twenty_one_front split)
below (Device a b) (Class e) t is x xs split = absurd (other_letter _ _ (ap second (sym is ∙ split)) refl)
below (Device a b) (Subclass e f) t is x xs split = absurd (other_letter _ _ (ap second (sym is ∙ split)) refl)
below (Device a b) (ProgIf e f g) t is x xs split = absurd (other_letter _ _ (ap second (sym is ∙ split)) refl)
below (Device a b) (Generic e f) t is x xs split = absurd (other_letter _ _ (ap second (sym is ∙ split)) refl)
below (Subsystem a b c d) (Vendor e) t is x xs split = absurd (nothing_more x xs (ap (drop 22) (sym is ∙ split)))
below (Subsystem a b c d) (Device e f) t is x xs split = absurd (nothing_more x xs (ap (drop 22) (sym is ∙ split)))
below (Subsystem a b c d) (Subsystem e f g h) t is x xs split = absurd (nothing_more x xs (ap (drop 22) (sym is ∙ split)))
below (Subsystem a b c d) (Class e) t is x xs split = absurd (other_letter _ _ (ap second (sym is ∙ split)) refl)
below (Subsystem a b c d) (Subclass e f) t is x xs split = absurd (other_letter _ _ (ap second (sym is ∙ split)) refl)
below (Subsystem a b c d) (ProgIf e f g) t is x xs split = absurd (other_letter _ _ (ap second (sym is ∙ split)) refl)
below (Subsystem a b c d) (Generic e f) t is x xs split = absurd (other_letter _ _ (ap second (sym is ∙ split)) refl)
below (Class a) (Vendor e) t is x xs split = absurd (other_letter _ _ (ap second (sym is ∙ split)) refl)
below (Class a) (Device e f) t is x xs split = absurd (other_letter _ _ (ap second (sym is ∙ split)) refl)
below (Class a) (Subsystem e f g h) t is x xs split = absurd (other_letter _ _ (ap second (sym is ∙ split)) refl)
below (Class a) (Class e) t is x xs split = absurd (nothing_more x xs (ap (drop 6) (sym is ∙ split)))
below (Class a) (Subclass e f) t is x xs split = inl (eight t (ap length is) ∙ ap eight_front split)
below (Class a) (ProgIf e f g) t is x xs split = inr (take 8 (path_text (Class a) ++ 47 ∷ x ∷ xs), eleven t (ap length is) ∙ ap eleven_front split, eight (take 8 (path_text (Class a) ++ 47 ∷ x ∷ xs)) (cut 8 (path_text (Class a) ++ 47 ∷ x ∷ xs) 3 (ap length (sym split) ∙ ap length is)))
below (Class a) (Generic e f) t is x xs split = absurd (other_letter _ _ (ap second (sym is ∙ split)) refl)
below (Subclass a b) (Vendor e) t is x xs split = absurd (other_letter _ _ (ap second (sym is ∙ split)) refl)
below (Subclass a b) (Device e f) t is x xs split = absurd (other_letter _ _ (ap second (sym is ∙ split)) refl)
below (Subclass a b) (Subsystem e f g h) t is x xs split = absurd (other_letter _ _ (ap second (sym is ∙ split)) refl)
below (Subclass a b) (Class e) t is x xs split = absurd (nothing_more x xs (ap (drop 9) (sym is ∙ split)))
below (Subclass a b) (Subclass e f) t is x xs split = absurd (nothing_more x xs (ap (drop 9) (sym is ∙ split)))
below (Subclass a b) (ProgIf e f g) t is x xs split = inl (eleven t (ap length is) ∙ ap eleven_front split)
below (Subclass a b) (Generic e f) t is x xs split = absurd (other_letter _ _ (ap second (sym is ∙ split)) refl)
below (ProgIf a b c) (Vendor e) t is x xs split = absurd (other_letter _ _ (ap second (sym is ∙ split)) refl)
below (ProgIf a b c) (Device e f) t is x xs split = absurd (other_letter _ _ (ap second (sym is ∙ split)) refl)
below (ProgIf a b c) (Subsystem e f g h) t is x xs split = absurd (other_letter _ _ (ap second (sym is ∙ split)) refl)
below (ProgIf a b c) (Class e) t is x xs split = absurd (nothing_more x xs (ap (drop 12) (sym is ∙ split)))
below (ProgIf a b c) (Subclass e f) t is x xs split = absurd (nothing_more x xs (ap (drop 12) (sym is ∙ split)))
below (ProgIf a b c) (ProgIf e f g) t is x xs split = absurd (nothing_more x xs (ap (drop 12) (sym is ∙ split)))
below (ProgIf a b c) (Generic e f) t is x xs split = absurd (other_letter _ _ (ap second (sym is ∙ split)) refl)
below (Generic a b) (Vendor e) t is x xs split = absurd (other_letter _ _ (ap second (sym is ∙ split)) refl)
below (Generic a b) (Device e f) t is x xs split = absurd (other_letter _ _ (ap second (sym is ∙ split)) refl)
below (Generic a b) (Subsystem e f g h) t is x xs split = absurd (other_letter _ _ (ap second (sym is ∙ split)) refl)
below (Generic a b) (Class e) t is x xs split = absurd (other_letter _ _ (ap second (sym is ∙ split)) refl)
below (Generic a b) (Subclass e f) t is x xs split = absurd (other_letter _ _ (ap second (sym is ∙ split)) refl)
below (Generic a b) (ProgIf e f g) t is x xs split = absurd (other_letter _ _ (ap second (sym is ∙ split)) refl)
below (Generic a b) (Generic e f) t is x xs split = absurd (nothing_more x xs (ap (drop 13) (sym is ∙ split)))

pub below_generics : (a : ℕ) (q : Path) (t : List ℕ) → t ≡ path_text q → (x : ℕ) (xs : List ℕ) → t ≡ generics_of (path_text (Vendor a)) ++ 47 ∷ x ∷ xs → parent_text t ≡ Some (path_text (Vendor a))
unfolding second
below_generics a (Vendor e) t is x xs split = absurd (other_letter _ _ (ap second (sym is ∙ split)) refl)
below_generics a (Device e f) t is x xs split = absurd (other_letter _ _ (ap second (sym is ∙ split)) refl)
below_generics a (Subsystem e f g h) t is x xs split = absurd (other_letter _ _ (ap second (sym is ∙ split)) refl)
below_generics a (Class e) t is x xs split = absurd (other_letter _ _ (ap second (sym is ∙ split)) refl)
below_generics a (Subclass e f) t is x xs split = absurd (other_letter _ _ (ap second (sym is ∙ split)) refl)
below_generics a (ProgIf e f g) t is x xs split = absurd (other_letter _ _ (ap second (sym is ∙ split)) refl)
below_generics a (Generic e f) t is x xs split = twelve t (ap length is) ∙ ap twelve_front split

-- ---- what lies between two texts

then_less : (o r : Ordering) → is_lt (ordering_then o r) ≡ true → (o ≡ Less) ⊎ ((o ≡ Equal) × (is_lt r ≡ true))
then_less Less r h = inl refl
then_less Equal r h = inr (refl, h)
then_less Greater r h = absurd (let bad : ⊥ = cc in bad)

never_both : (m n : ℕ) → nat_cmp m n ≡ Less → nat_cmp n m ≡ Less → ⊥
never_both m n a b = grind (arith, nat_tests)

less_is : (m n : ℕ) → nat_cmp m n ≡ Less → m < n
less_is m n h = grind (arith, nat_tests)

own : (n : ℕ) → nat_cmp n n ≡ Equal
own n = grind (arith, nat_tests)

empty_first : (ys : List ℕ) → is_lt (slice_cmp nat_cmp [] ys) ≡ true → (x : ℕ) × (xs : List ℕ) × (ys ≡ x ∷ xs)
empty_first [] h = absurd (let bad : ⊥ = cc in bad)
empty_first (x ∷ xs) h = (x, xs, refl)

never_below_empty : (ys : List ℕ) → is_lt (slice_cmp nat_cmp ys []) ≡ true → ⊥
never_below_empty [] h = cc
never_below_empty (y ∷ ys) h = cc

pub prefixed : (p t : List ℕ) → is_lt (text_cmp (p ++ 47 ∷ []) t) ≡ true → is_lt (text_cmp t (p ++ 48 ∷ [])) ≡ true → (x : ℕ) × (xs : List ℕ) × (t ≡ p ++ 47 ∷ x ∷ xs)
prefixed [] [] low high = absurd (let bad : ⊥ = cc in bad)
prefixed [] (y ∷ ys) low high = elim (then_less (nat_cmp y 48) (slice_cmp nat_cmp ys []) high) [
  | inr tie ↦ absurd (never_below_empty ys tie.1)
  | inl less ↦ elim (then_less (nat_cmp 47 y) (slice_cmp nat_cmp [] ys) low) [
    | inl above ↦ absurd (let a = less_is 47 y above in let b = less_is y 48 less in omega arith)
    | inr tie ↦
        let same : 47 ≡ y = nat_cmp-IsAntisymmetric 47 y tie.0 in
        let more = empty_first ys tie.1 in
        (more.0, more.1, λ i. sym same i ∷ more.2 i)
  ]
]
prefixed (a ∷ p) [] low high = absurd (let bad : ⊥ = cc in bad)
prefixed (a ∷ p) (y ∷ ys) low high = elim (then_less (nat_cmp a y) _ low) [
  | inl less ↦ elim (then_less (nat_cmp y a) _ high) [
    | inl back ↦ absurd (never_both a y less back)
    | inr tie ↦ absurd (let same = nat_cmp-IsAntisymmetric y a tie.0 in let lt = less_is a y less in omega arith)
  ]
  | inr tie ↦ elim (then_less (nat_cmp y a) _ high) [
    | inl back ↦ absurd (let same = nat_cmp-IsAntisymmetric a y tie.0 in let lt = less_is y a back in omega arith)
    | inr other ↦
        let same = nat_cmp-IsAntisymmetric a y tie.0 in
        let more = prefixed p ys tie.1 other.1 in
        (more.0, more.1, λ i. sym same i ∷ more.2 i)
  ]
]

lower : (p : List ℕ) (x : ℕ) (xs : List ℕ) → text_cmp (p ++ 47 ∷ []) (p ++ 47 ∷ x ∷ xs) ≡ Less
lower [] x xs = refl
lower (a ∷ p) x xs = ap (λ o. ordering_then o (text_cmp (p ++ 47 ∷ []) (p ++ 47 ∷ x ∷ xs))) (own a) ∙ lower p x xs

upper : (p ys : List ℕ) → text_cmp (p ++ 47 ∷ ys) (p ++ 48 ∷ []) ≡ Less
upper [] ys = refl
upper (a ∷ p) ys = ap (λ o. ordering_then o (text_cmp (p ++ 47 ∷ ys) (p ++ 48 ∷ []))) (own a) ∙ upper p ys

pub lies_between : (p : List ℕ) (t : List ℕ) (x : ℕ) (xs : List ℕ) → t ≡ p ++ 47 ∷ x ∷ xs → is_between (p ++ 47 ∷ []) (p ++ 48 ∷ []) t ≡ true
lies_between p t x xs is = subst (λ t. is_between (p ++ 47 ∷ []) (p ++ 48 ∷ []) t ≡ true) (sym is) (and_from _ _ (ap is_lt (lower p x xs)) (ap is_lt (upper p (x ∷ xs))))

-- ---- children

self_parent : (p : List ℕ) → is_parent p (Some p) ≡ true
self_parent p = (bytes_eq-Decides p p).1 refl

pub item_path : (items : Items) (e : List ℕ × List ℕ) → AllItems items → Has items e → (q : Path) × IsTextOf e.0 q
item_path [] e all h = absurd h
item_path (x ∷ items) e all (inl same) = subst (λ (y : List ℕ × List ℕ). (q : Path) × IsTextOf y.0 q) (sym same) all.0.0
item_path (x ∷ items) e all (inr later) = item_path items e all.1 later

some_name : (o : Option (List ℕ)) → is_some o ≡ true → (name : List ℕ) × (o ≡ Some name)
some_name None h = absurd (let bad : ⊥ = cc in bad)
some_name (Some name) h = (name, refl)

module _ (items : Items) (sorted : is_sorted text_cmp items ≡ true) (all : AllItems items) (parents : HoldsParents items) where
  by_child : (p : List ℕ) (e : List ℕ × List ℕ) → Has items e → parent_text e.0 ≡ Some p → has_children p items ≡ true
  by_child p e there is = any_there (λ e. is_parent p (parent_text e.0)) items e there (ap (is_parent p) is ∙ self_parent p)

  pub child_below : (p : Path) → holds_between (path_text p ++ 47 ∷ []) (path_text p ++ 48 ∷ []) items ≡ true → has_children (path_text p) items ≡ true
  child_below p h =
      let found = any_found (λ e. is_between (path_text p ++ 47 ∷ []) (path_text p ++ 48 ∷ []) e.0) items h in
      let e = found.0 in
      let inside = and_parts (is_lt (text_cmp (path_text p ++ 47 ∷ []) e.0)) _ found.2 in
      let split = prefixed (path_text p) e.0 inside.0 inside.1 in
      let q = item_path items e all found.1 in
      elim (below p q.0 e.0 q.1.same split.0 split.1 split.2) [
        | inl child ↦ by_child (path_text p) e found.1 child
        | inr deeper ↦
            let held : holds_parent (parent_text e.0) items ≡ true = parents.parents e.0 (ap is_some (found_at items e sorted found.1)) in
            let there = some_name (name_at deeper.0 items) (sym (ap (λ o. holds_parent o items) deeper.1) ∙ held) in
            by_child (path_text p) (deeper.0, there.0) (found_in deeper.0 there.0 items there.1) deeper.2
      ]

  pub generic_below : (a : ℕ) → holds_between (generics_of (path_text (Vendor a)) ++ 47 ∷ []) (generics_of (path_text (Vendor a)) ++ 48 ∷ []) items ≡ true → has_children (path_text (Vendor a)) items ≡ true
  generic_below a h =
      let s = generics_of (path_text (Vendor a)) in
      let found = any_found (λ e. is_between (s ++ 47 ∷ []) (s ++ 48 ∷ []) e.0) items h in
      let e = found.0 in
      let inside = and_parts (is_lt (text_cmp (s ++ 47 ∷ []) e.0)) _ found.2 in
      let split = prefixed s e.0 inside.0 inside.1 in
      let q = item_path items e all found.1 in
      by_child (path_text (Vendor a)) e found.1 (below_generics a q.0 e.0 q.1.same split.0 split.1 split.2)

-- a child stands behind its parent, or is a generic subsystem of a vendor
pub stands : (p q : Path) (t : List ℕ) → t ≡ path_text q → is_parent (path_text p) (parent_text t) ≡ true
    → (is_between (path_text p ++ 47 ∷ []) (path_text p ++ 48 ∷ []) t ≡ true)
    ⊎ ((v : ℕ) × (path_text p ≡ path_text (Vendor v)) × (is_between (generics_of (path_text p) ++ 47 ∷ []) (generics_of (path_text p) ++ 48 ∷ []) t ≡ true))
stands p q t = at q
  where
    at : (q : Path) → t ≡ path_text q → is_parent (path_text p) (parent_text t) ≡ true
        → (is_between (path_text p ++ 47 ∷ []) (path_text p ++ 48 ∷ []) t ≡ true)
        ⊎ ((v : ℕ) × (path_text p ≡ path_text (Vendor v)) × (is_between (generics_of (path_text p) ++ 47 ∷ []) (generics_of (path_text p) ++ 48 ∷ []) t ≡ true))
    at (Vendor e) is told = absurd (let bad : ⊥ = let e = sym (ap (λ t. is_parent (path_text p) (parent_text t)) is) ∙ told in cc in bad)
    at (Device e f) is told = let same = (bytes_eq-Decides (path_text p) (path_text (Vendor e))).0 (sym (ap (λ t. is_parent (path_text p) (parent_text t)) is) ∙ told) in
        inl (lies_between (path_text p) t _ _ (is ∙ ap (λ s. s ++ 47 ∷ hex4 f) (sym same)))
    at (Subsystem e f g h) is told = let same = (bytes_eq-Decides (path_text p) (path_text (Device e f))).0 (sym (ap (λ t. is_parent (path_text p) (parent_text t)) is) ∙ told) in
        inl (lies_between (path_text p) t (digit_char (g / 4096 % 16)) (digit_char (g / 256 % 16) ∷ digit_char (g / 16 % 16) ∷ digit_char (g % 16) ∷ digit_char (h / 4096 % 16) ∷ digit_char (h / 256 % 16) ∷ digit_char (h / 16 % 16) ∷ digit_char (h % 16) ∷ []) (is ∙ ap (λ s. s ++ 47 ∷ digit_char (g / 4096 % 16) ∷ digit_char (g / 256 % 16) ∷ digit_char (g / 16 % 16) ∷ digit_char (g % 16) ∷ digit_char (h / 4096 % 16) ∷ digit_char (h / 256 % 16) ∷ digit_char (h / 16 % 16) ∷ digit_char (h % 16) ∷ []) (sym same)))
    at (Class e) is told = absurd (let bad : ⊥ = let e = sym (ap (λ t. is_parent (path_text p) (parent_text t)) is) ∙ told in cc in bad)
    at (Subclass e f) is told = let same = (bytes_eq-Decides (path_text p) (path_text (Class e))).0 (sym (ap (λ t. is_parent (path_text p) (parent_text t)) is) ∙ told) in
        inl (lies_between (path_text p) t _ _ (is ∙ ap (λ s. s ++ 47 ∷ hex2 f) (sym same)))
    at (ProgIf e f g) is told = let same = (bytes_eq-Decides (path_text p) (path_text (Subclass e f))).0 (sym (ap (λ t. is_parent (path_text p) (parent_text t)) is) ∙ told) in
        inl (lies_between (path_text p) t _ _ (is ∙ ap (λ s. s ++ 47 ∷ hex2 g) (sym same)))
    at (Generic e f) is told = let same = (bytes_eq-Decides (path_text p) (path_text (Vendor e))).0 (sym (ap (λ t. is_parent (path_text p) (parent_text t)) is) ∙ told) in
        inr (e, same, lies_between (generics_of (path_text p)) t _ _ (is ∙ ap (λ s. generics_of s ++ 47 ∷ hex4 f) (sym same)))

-- the text of a path that is no vendor is of another length than a vendor's
pub is_no_vendor : (p : Path) → ((v : ℕ) → p ≡ Vendor v → ⊥) → length (path_text p) ≡ 7 → ⊥
is_no_vendor (Vendor v) no_vendor len = no_vendor v refl
is_no_vendor (Device a b) no_vendor len = omega (arith, len)
is_no_vendor (Subsystem a b c d) no_vendor len = omega (arith, len)
is_no_vendor (Class a) no_vendor len = omega (arith, len)
is_no_vendor (Subclass a b) no_vendor len = omega (arith, len)
is_no_vendor (ProgIf a b c) no_vendor len = omega (arith, len)
is_no_vendor (Generic a b) no_vendor len = omega (arith, len)

module _ (items : Items) (sorted : is_sorted text_cmp items ≡ true) (all : AllItems items) (parents : HoldsParents items) where
  stand_of : (p : Path) → has_children (path_text p) items ≡ true
      → (holds_between (path_text p ++ 47 ∷ []) (path_text p ++ 48 ∷ []) items ≡ true)
      ⊎ ((v : ℕ) × (path_text p ≡ path_text (Vendor v)) × (holds_between (generics_of (path_text p) ++ 47 ∷ []) (generics_of (path_text p) ++ 48 ∷ []) items ≡ true))
  stand_of p h =
      let found = any_found (λ e. is_parent (path_text p) (parent_text e.0)) items h in
      let e = found.0 in
      let q = item_path items e all found.1 in
      elim (stands p q.0 e.0 q.1.same found.2) [
        | inl there ↦ inl (any_there (λ e. is_between (path_text p ++ 47 ∷ []) (path_text p ++ 48 ∷ []) e.0) items e found.1 there)
        | inr generic ↦ inr (generic.0, generic.1, any_there (λ e. is_between (generics_of (path_text p) ++ 47 ∷ []) (generics_of (path_text p) ++ 48 ∷ []) e.0) items e found.1 generic.2)
      ]

  same_truth : (a b : Bool) → (a ≡ true → b ≡ true) → (b ≡ true → a ≡ true) → a ≡ b
  same_truth true b f g = sym (f refl)
  same_truth false true f g = g refl
  same_truth false false f g = refl

  or_true : (a b : Bool) → (a ≡ true) ⊎ (b ≡ true) → (a || b) ≡ true
  or_true true b h = refl
  or_true false b (inl h) = absurd (let bad : ⊥ = cc in bad)
  or_true false b (inr h) = h

  or_parts : (a b : Bool) → (a || b) ≡ true → (a ≡ true) ⊎ (b ≡ true)
  or_parts true b h = inl refl
  or_parts false b h = inr h

  -- of a vendor, by two ranges
  pub vendor_children : (a : ℕ) → (holds_between (path_text (Vendor a) ++ 47 ∷ []) (path_text (Vendor a) ++ 48 ∷ []) items || holds_between (generics_of (path_text (Vendor a)) ++ 47 ∷ []) (generics_of (path_text (Vendor a)) ++ 48 ∷ []) items)
      ≡ has_children (path_text (Vendor a)) items
  vendor_children a = same_truth _ _
      (λ h. elim (or_parts _ _ h) [ inl one ↦ child_below items sorted all parents (Vendor a) one | inr other ↦ generic_below items sorted all parents a other ])
      (λ h. or_true _ _ (elim (stand_of (Vendor a) h) [ inl one ↦ inl one | inr other ↦ inr other.2 ]))

  -- of a vendor with none below it, by the second
  pub generic_children : (p : Path) (a : ℕ) (some : Bool) → p ≡ Vendor a → holds_between (path_text p ++ 47 ∷ []) (path_text p ++ 48 ∷ []) items ≡ false
      → some ≡ holds_between (generics_of (path_text (Vendor a)) ++ 47 ∷ []) (generics_of (path_text (Vendor a)) ++ 48 ∷ []) items → some ≡ has_children (path_text p) items
  generic_children p a some is none generic =
      subst (λ (q : Path). holds_between (path_text q ++ 47 ∷ []) (path_text q ++ 48 ∷ []) items ≡ false → some ≡ has_children (path_text q) items) (sym is)
      (λ none. generic ∙ ap (λ b. b || holds_between (generics_of (path_text (Vendor a)) ++ 47 ∷ []) (generics_of (path_text (Vendor a)) ++ 48 ∷ []) items) (sym none) ∙ vendor_children a) none

  -- of another path, by one
  pub other_children : (p : Path) → (length (path_text p) ≡ 7 → ⊥) → holds_between (path_text p ++ 47 ∷ []) (path_text p ++ 48 ∷ []) items ≡ has_children (path_text p) items
  other_children p other = same_truth _ _ (child_below items sorted all parents p)
      (λ h. elim (stand_of p h) [ inl one ↦ one | inr generic ↦ absurd (other (ap length generic.1)) ])
