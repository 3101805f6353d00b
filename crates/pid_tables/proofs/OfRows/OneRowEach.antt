-- A key has one row: rows that come in the order of their rowids have keys without repetitions.
use Rattle.std.proofs.Common.{◌≡◌, ◌≢◌, inl, inr, ℕ, ℤ, List, [], ◌∷◌, map, Bool, true, false, not, refl, sym, ap, subst, ◌∙◌, Ordering, Less, Equal}
use Rattle.std.specs.Prelude.{◌&&◌}
use Rattle.std.specs.Ordering.{is_ne}
use Rattle.std.specs.List.{AllByRecursion, list_any}
use Rattle.std.proofs.lemmas.Bool.{and_parts, and_from, or_parts, both_ways, not-true}
use Rattle.std.proofs.lemmas.Cmp.{tied_itself}
use Rattle.sqlite.specs.declared.types.Value.{Value}
use Rattle.sqlite.specs.declared.types.Value.TheVariants.{Int, Text}
use Rattle.sqlite.specs.Order.{Row, column, value_cmp}
use Rattle.sqlite_value.proofs.OrderLemmas.{value_cmp_total}
use Rattle.sqlite_value.specs.Keys.{plain, first_key}
use Rattle.sqlite.specs.Tree.{IsAscending, IsTable, rowid}
use Rattle.sqlite.specs.Ops.{binary}
use Rattle.sqlite.specs.Collation.TheVariants.{Binary}
use Rattle.sqlite.specs.Effect.{Database, IsDatabase}
use Rattle.sqlite_rules.specs.Lists.{Has}
use Rattle.sqlite_rules.proofs.ListLemmas.{all_has}
use Rattle.sqlite_schema.specs.Rules.{agree, clashes, differ, equal, passes, Obeys}
use Rattle.sqlite_schema.specs.declared.schema.Constraint.TheVariants.{Unique}
use Rattle.pid_tables.specs.declared.rows.schema_version.Version.{Version}
use Rattle.pid_tables.specs.Rows.Schema.{schema_of, item}
use Rattle.pid_tables.proofs.OfRows.Select.{said, text_equal}
use Rattle.pid_tables.proofs.OfRows.Lengths.{IsDistinct}

all_apart : {X K : Type 0} (R : X → X → Type 0) (f : X → K) (x : X) (ys : List X) → AllByRecursion (R x) ys → ((y : X) → Has ys y → R x y → f x ≢ f y) → AllByRecursion (λ k. f x ≢ k) (map f ys)
all_apart R f x [] all apart = tt
all_apart R f x (y ∷ ys) all apart = (apart y (inl refl) all.0, all_apart R f x ys all.1 (λ z h. apart z (inr h)))

-- what rises has distinct keys where two that rise differ
pub rising_apart : {X K : Type 0} (R : X → X → Type 0) (f : X → K) (xs : List X) → IsAscending R xs → ((x y : X) → Has xs x → Has xs y → R x y → f x ≢ f y) → IsDistinct (map f xs)
rising_apart R f [] up apart = tt
rising_apart R f (x ∷ xs) up apart = (all_apart R f x xs up.0 (λ y h. apart x y (inl refl) (inr h)), rising_apart R f xs up.1 (λ a b p q. apart a b (inr p) (inr q)))

not_below_itself : (v : Value) → value_cmp v v ≡ Less → ⊥
not_below_itself v less = let bad : ◌≡◌ {A = Ordering} Equal Less = sym (tied_itself value_cmp_total v) ∙ less in cc

-- rowids rise, so none comes twice
pub rowids_apart : (rows : List Row) → IsTable rows → IsDistinct (map rowid rows)
rowids_apart rows up = rising_apart (λ a b. value_cmp (rowid a) (rowid b) ≡ Less) rowid rows up (λ a b p q less same. not_below_itself (rowid b) (subst (λ v. value_cmp v (rowid b) ≡ Less) same less))

-- what is below is another number
pub below_differs : (a b : Value) (m n : ℤ) → a ≡ Int m → b ≡ Int n → value_cmp a b ≡ Less → differ a b ≡ true
unfolding binary
below_differs a b m n p q less =
    let here : value_cmp (Int m) (Int n) ≡ Less = (λ i. value_cmp (sym p i) (sym q i)) ∙ less in
    (λ i. differ (p i) (q i)) ∙ (said _ ∙ ap is_ne here)

pub none_among : {X : Type 0} (p : X → Bool) (xs : List X) (x : X) → list_any p xs ≡ false → Has xs x → p x ≡ false
none_among p [] x none h = absurd h
none_among p (y ∷ xs) x none (inl same) = ap p same ∙ (or_parts _ _ none).0
none_among p (y ∷ xs) x none (inr later) = none_among p xs x (or_parts _ _ none).1 later

pub agrees : (a b : Row) (k : List ℕ) → column a 1 ≡ Text k → column b 1 ≡ Text k → agree plain (1 ∷ []) a (1 ∷ []) b ≡ true
unfolding first_key
agrees a b k p q = (λ i. equal Binary (p i) (q i) && true) ∙ ap (λ t. t && true) (text_equal k)

pub item_keys_apart : (version : Version) (db : Database) → IsDatabase db → db.schema ≡ schema_of version → IsTable (db.trees 4) → ((r : Row) → Has (db.trees 4) r → (id : ℤ) × (k : List ℕ) × (rowid r ≡ Int id) × (column r 1 ≡ Text k))
    → IsDistinct (map (λ r. column r 1) (db.trees 4))
item_keys_apart version db sound has up keyed =
    let obeys : Obeys (schema_of version) db.trees = subst (λ s. Obeys s db.trees) has sound.obeys in
    let passed : AllByRecursion (λ row. passes Unique (schema_of version) db.trees item row ≡ true) (db.trees 4) = (obeys.rules Unique).1.1.0 in
    rising_apart (λ a b. value_cmp (rowid a) (rowid b) ≡ Less) (λ r. column r 1) (db.trees 4) up (λ a b p q less same.
    let ka = keyed a p in
    let kb = keyed b q in
    let clean : not (clashes plain (1 ∷ []) (db.trees 4) b) ≡ true = (and_parts _ _ (all_has _ (db.trees 4) b passed q)).0 in
    let none = none_among _ (db.trees 4) a (not-true _ clean) p in
    both_ways _ none (and_from _ _ (agrees a b kb.1 (same ∙ kb.3) kb.3) (below_differs (rowid a) (rowid b) ka.0 kb.0 ka.2 kb.2 less)))
