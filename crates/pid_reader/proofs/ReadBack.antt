-- A printed tree reads back to itself, and to no other tree.
use Rattle.std.proofs.Common.{◌≡◌, ℕ, Bool, true, false, cond, ◌&&◌, List, [], ◌∷◌, ◌++◌, Option, Some, None, refl, sym, ap, subst, ◌∙◌, inl, inr}
use mathlib.Core.Bool.{false≢true}
use mathlib.Core.Logic.{◌⊎◌}
use Rattle.std.specs.Prelude.{IsSome, IfSome, IsTrue, T, is_some, reverse, ◌↔◌}
use mathlib.Core.List.{reverse_aux}
use Rattle.std.specs.declared.cmp.Ordering.{Ordering}
use Rattle.std.specs.declared.cmp.Ordering.TheVariants.{Less, Equal, Greater}
use Rattle.std.specs.Ordering.{ordering_reverse, is_eq, is_lt}
use Rattle.std.proofs.lemmas.Cmp.{nat_list_cmp_total, tied_itself, nat_cmp_total}
use Rattle.std.specs.FinMap.{get, entries, from_entries, get-entries, get-from_entries, entries_sorted, same_map, slice_cmp-IsAntisymmetric, nat_cmp-IsAntisymmetric}
use Rattle.std.specs.FinMap.Entries.{find as value_at, is_sorted, below_all}
use Rattle.std.specs.List.{AllByRecursion}
use Rattle.pid_file.specs.declared.path.Path.{Path}
use Rattle.pid_file.specs.declared.path.Path.TheVariants.{Vendor, Device, Subsystem, Class, Subclass, ProgIf, Generic}
use Rattle.pid_file.specs.PathTexts.{path_text, parent_of}
use Rattle.pid_file.specs.Words.{is_name}
use Rattle.pid_file.specs.Identifiers.{hex4, hex2}
use Rattle.pid_file.specs.Lines.{lines_of}
use Rattle.pid_file.specs.Reading.{Reads, history_of, AreGood}
use Rattle.pid_file.specs.LookingBack.{entries_back}
use Rattle.pid_file.specs.Trees.{TreeMap, IsTree, text_cmp}
use Rattle.pid_file.specs.Printing.{item_line, block_line, opens_block, header, lines_after, print}
use Rattle.pid_reader.proofs.Printed.{IsItem, lines_of-ended, lines_plain, header_plain}
use Rattle.pid_reader.proofs.Listing.{Items, IsListing, IsNext, told, lines_back, last_path}

is_less : (o : Ordering) → T (is_lt o) → o ≡ Less
is_less Less h = refl
is_less Equal h = absurd h
is_less Greater h = absurd h

both : (a b : Bool) → T (a && b) → T a × T b
both true b h = (tt, h)
both false b h = absurd h

abbrev IsBelow : List ℕ → Items → Type 0
IsBelow k es = AllByRecursion (λ f. text_cmp k f.0 ≡ Less) es

abbrev IsRising : Items → Type 0
IsRising [] = Unit {0}
IsRising (e ∷ es) = IsBelow e.0 es × IsRising es

below-from_test : (k : List ℕ) (es : Items) → T (below_all text_cmp k es) → IsBelow k es
below-from_test k [] h = tt
below-from_test k (e ∷ es) h = let b = both _ _ h in (is_less _ b.0, below-from_test k es b.1)

rising-from_sorted : (es : Items) → T (is_sorted text_cmp es) → IsRising es
rising-from_sorted [] h = tt
rising-from_sorted (e ∷ es) h = let b = both _ _ h in (below-from_test e.0 es b.0, rising-from_sorted es b.1)

below_less : (j k : List ℕ) (es : Items) → text_cmp j k ≡ Less → IsBelow k es → IsBelow j es
below_less j k [] e h = tt
below_less j k (f ∷ es) e h = (nat_list_cmp_total.trans j k f.0 e h.0, below_less j k es e h.1)

missing : (k : List ℕ) (es : Items) → IsBelow k es → value_at text_cmp k es ≡ None
missing k [] h = refl
missing k (f ∷ es) h = rw h.0 (missing k es h.1)

-- each item is found
found_after : (e : List ℕ × List ℕ) (es fs : Items) → IsBelow e.0 fs → AllByRecursion (λ f. value_at text_cmp f.0 es ≡ Some f.1) fs → AllByRecursion (λ f. value_at text_cmp f.0 (e ∷ es) ≡ Some f.1) fs
found_after e es [] below h = tt
found_after e es (f ∷ fs) below h = (rw (nat_list_cmp_total.antisymm f.0 e.0 ∙ ap ordering_reverse below.0) h.0, found_after e es fs below.1 h.1)

each_found : (es : Items) → IsRising es → AllByRecursion (λ e. value_at text_cmp e.0 es ≡ Some e.1) es
each_found [] h = tt
each_found (e ∷ es) h = (rw (tied_itself nat_list_cmp_total e.0) refl, found_after e es es h.0 (each_found es h.1))

items_of_tree : (t : TreeMap) → IsTree t → (es : Items) → AllByRecursion (λ e. get t e.0 ≡ Some e.1) es → AllByRecursion IsItem es
items_of_tree t tree [] h = tt
items_of_tree t tree (e ∷ es) h =
    let path = tree.paths e.0 (rw h.0 refl) in
    ((path.0, path.1, subst (λ (o : Option (List ℕ)). IfSome o (λ name. IsTrue (is_name name))) h.0 (tree.names e.0)), items_of_tree t tree es h.1)

front_less : (p : List ℕ) (y : ℕ) (ys : List ℕ) → text_cmp p (p ++ y ∷ ys) ≡ Less
front_less [] y ys = refl
front_less (x ∷ p) y ys = rw (tied_itself nat_cmp_total x) (front_less p y ys)

-- a parent comes before its item
parent_below : (p : Path) → IfSome (parent_of p) (λ q. text_cmp (path_text q) (path_text p) ≡ Less)
parent_below (Vendor v) = tt
parent_below (Device v d) = front_less (path_text (Vendor v)) 47 (hex4 d)
parent_below (Subsystem v d s e) = front_less (path_text (Device v d)) 47 (hex4 s ++ hex4 e)
parent_below (Class c) = tt
parent_below (Subclass c s) = front_less (path_text (Class c)) 47 (hex2 s)
parent_below (ProgIf c s p) = front_less (path_text (Subclass c s)) 47 (hex2 p)
parent_below (Generic v d) = refl

same_texts : (a b : List ℕ) → text_cmp a b ≡ Equal → a ≡ b
same_texts = slice_cmp-IsAntisymmetric nat_cmp-IsAntisymmetric

-- what is held before a step is held behind it
held_behind : (e : List ℕ × List ℕ) (es rs : Items) (q : List ℕ) → IsSome (value_at text_cmp q (e ∷ es)) ⊎ IsSome (value_at text_cmp q rs) → IsSome (value_at text_cmp q es) ⊎ IsSome (value_at text_cmp q (e ∷ rs))
held_behind e es rs q h =
    elim (is_eq (text_cmp q e.0)) as (λ b. IsSome (cond b (Some e.1) (value_at text_cmp q es)) ⊎ IsSome (value_at text_cmp q rs) → IsSome (value_at text_cmp q es) ⊎ IsSome (cond b (Some e.1) (value_at text_cmp q rs))) [
      | true ↦ λ _. inr refl
      | false ↦ λ h. h
    ] h

above_after : (e : List ℕ × List ℕ) (es rs : Items) → IsBelow e.0 es → AllByRecursion (λ g. AllByRecursion (λ f. text_cmp f.0 g.0 ≡ Less) rs) es → AllByRecursion (λ g. AllByRecursion (λ f. text_cmp f.0 g.0 ≡ Less) (e ∷ rs)) es
above_after e [] rs below h = tt
above_after e (g ∷ es) rs below h = ((below.0, h.0), above_after e es rs below.1 h.1)

-- the parent of an item that comes next
parent_held : (t : TreeMap) (k name : List ℕ) (es rs : Items) (parent : Option Path) → IfSome parent (λ q. text_cmp (path_text q) k ≡ Less) → IfSome parent (λ q. IsSome (get t (path_text q))) → IsBelow k es → ((q : List ℕ) → IsSome (get t q) → IsSome (value_at text_cmp q ((k, name) ∷ es)) ⊎ IsSome (value_at text_cmp q rs)) → IfSome parent (λ q. IsSome (value_at text_cmp (path_text q) rs))
parent_held t k name es rs None less there below held = tt
parent_held t k name es rs (Some p) less there below held =
    let q = path_text p in
    let gone : value_at text_cmp q ((k, name) ∷ es) ≡ None = missing q ((k, name) ∷ es) (less, below_less q k es less below) in
    elim (held q there) [
      | inl here ↦ absurd (false≢true (sym (ap is_some gone) ∙ here))
      | inr there ↦ there
    ]

listing_onto : (t : TreeMap) → IsTree t → (rs es : Items) → IsListing rs → IsRising es → AllByRecursion IsItem es → AllByRecursion (λ e. get t e.0 ≡ Some e.1) es → AllByRecursion (λ e. AllByRecursion (λ f. text_cmp f.0 e.0 ≡ Less) rs) es → ((q : List ℕ) → IsSome (get t q) → IsSome (value_at text_cmp q es) ⊎ IsSome (value_at text_cmp q rs)) → IsListing (reverse_aux es rs)
listing_onto t tree rs [] listing rising items found above held = listing
listing_onto t tree rs (e ∷ es) listing rising items found above held =
    let p = items.0.0 in
    let same : e.0 ≡ path_text p = items.0.1.same in
    let next : IsNext rs p e.1 = record {
      named = items.0.2;
      above = subst (λ (k : List ℕ). AllByRecursion (λ f. text_cmp f.0 k ≡ Less) rs) same above.0;
      parent = parent_held t (path_text p) e.1 es rs (parent_of p) (parent_below p) (tree.parents p items.0.1.in_range (rw (subst (λ (k : List ℕ). get t k ≡ Some e.1) same found.0) refl)) (subst (λ (k : List ℕ). IsBelow k es) same rising.0) (subst (λ (k : List ℕ). (q : List ℕ) → IsSome (get t q) → IsSome (value_at text_cmp q ((k, e.1) ∷ es)) ⊎ IsSome (value_at text_cmp q rs)) same held);
    } in
    listing_onto t tree (e ∷ rs) es ((p, same, next), listing) rising.1 items.1 found.1 (above_after e es rs rising.0 above.1) (λ q s. held_behind e es rs q (held q s))

lines_of_print : (t : TreeMap) → AllByRecursion IsItem (entries t) → lines_of (print t) ≡ header ∷ lines_after [] (entries t)
lines_of_print t items = lines_of-ended (header ∷ lines_after [] (entries t)) (header_plain, lines_plain (entries t) [] items)

-- lines one after another are the lines of the turned items
turned : (es rs : Items) → reverse_aux (lines_after (last_path rs) es) (lines_back rs) ≡ lines_back (reverse_aux es rs)
turned [] rs = refl
turned (e ∷ es) rs =
    elim (opens_block (last_path rs) e.0) as (λ b. reverse_aux (cond b (block_line e.0 ∷ []) [] ++ item_line e ∷ lines_after e.0 es) (lines_back rs) ≡ reverse_aux (lines_after e.0 es) (item_line e ∷ (cond b (block_line e.0 ∷ []) [] ++ lines_back rs))) [
      | true ↦ refl
      | false ↦ refl
    ]
    ∙ turned es (e ∷ rs)

-- a list in order and turned has the same values
abbrev or_value : Option (List ℕ) → Option (List ℕ) → Option (List ℕ)
or_value (Some x) o = Some x
or_value None o = o

turned_value : (q : List ℕ) (es rs : Items) → IsRising es → value_at text_cmp q (reverse_aux es rs) ≡ or_value (value_at text_cmp q es) (value_at text_cmp q rs)
turned_value q [] rs rising = refl
turned_value q (e ∷ es) rs rising =
    turned_value q es (e ∷ rs) rising.1
    ∙ elim (text_cmp q e.0) as (λ o. text_cmp q e.0 ≡ o → or_value (value_at text_cmp q es) (cond (is_eq o) (Some e.1) (value_at text_cmp q rs)) ≡ or_value (cond (is_eq o) (Some e.1) (value_at text_cmp q es)) (value_at text_cmp q rs)) [
      | Less ↦ λ h. refl
      | Equal ↦ λ h. ap (λ o. or_value o (Some e.1)) (missing q es (subst (λ (k : List ℕ). IsBelow k es) (sym (same_texts q e.0 h)) rising.0))
      | Greater ↦ λ h. refl
    ] refl

or_none : (o : Option (List ℕ)) → or_value o None ≡ o
or_none (Some x) = refl
or_none None = refl

found_get : (t : TreeMap) (es : Items) → AllByRecursion (λ e. value_at text_cmp e.0 (entries t) ≡ Some e.1) es → AllByRecursion (λ e. get t e.0 ≡ Some e.1) es
found_get t [] h = tt
found_get t (e ∷ es) h = (get-entries t e.0 ∙ h.0, found_get t es h.1)

above_none : (es : Items) → AllByRecursion (λ e. AllByRecursion {X = List ℕ × List ℕ} (λ f. text_cmp f.0 e.0 ≡ Less) []) es
above_none [] = tt
above_none (e ∷ es) = (tt, above_none es)

-- what a printed tree says
pub record SaysTree (t : TreeMap) : Type 0 where
  pub good : AreGood (history_of (print t))
  pub tree : from_entries {R = text_cmp} (entries_back (history_of (print t))) ≡ t

pub printed_says : (t : TreeMap) → IsTree t → SaysTree t
printed_says t tree =
    let es = entries t in
    let rising = rising-from_sorted es (entries_sorted t) in
    let found : AllByRecursion (λ e. get t e.0 ≡ Some e.1) es = found_get t es (each_found es rising) in
    let items = items_of_tree t tree es found in
    let listing : IsListing (reverse es) = listing_onto t tree [] es tt rising items found (above_none es) (λ q s. inl (rw (← get-entries t q) s)) in
    let history : history_of (print t) ≡ lines_back (reverse es) = ap reverse (lines_of_print t items) ∙ turned es [] in
    let all = told (reverse es) listing in
    record {
      good = rw history all.good;
      tree = rw (history, all.entries) (same_map nat_list_cmp_total same_texts _ _ (λ q. get-from_entries nat_list_cmp_total (reverse es) q ∙ turned_value q es [] rising ∙ or_none _ ∙ sym (get-entries t q)));
    }

pub read_back : (t s : TreeMap) → IsTree t → Reads (print t) s ↔ (s ≡ t)
read_back t s tree =
    let says = printed_says t tree in
    (λ (r : Reads (print t) s). r.tree ∙ says.tree, λ e. record { good = says.good; tree = e ∙ sym says.tree })
