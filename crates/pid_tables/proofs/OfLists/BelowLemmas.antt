-- The items below a path, by the ranges in which they stand.
use Rattle.std.proofs.Common.{◌≡◌, ◌⊎◌, inl, inr, ℕ, List, [], ◌∷◌, ◌++◌, length, filter, map, ◌+◌, codes, Bool, true, false, cond, Some, Ordering, Less, Equal, Greater, is_lt, refl, sym, ap, subst, ◌∙◌, reverse, append-nil, append_assoc, None, Ok, Err, OnOk, IfErr, MatchResult, Result}
use Rattle.std.specs.Prelude.{is_none, option_map}
use Rattle.std.specs.FinMap.Entries.{is_sorted, below_all}
use Rattle.std.specs.Cmp.Lexicographic.{nat_list_cmp_total}
use Rattle.std.proofs.lemmas.Bool.{and_parts, cases_Bool, false_from_ne_true}
use Rattle.std.proofs.lemmas.List.{map-append, reverse-append, reverse-reverse}
use Rattle.std.proofs.lemmas.List.Elements.{filter-append}
use Rattle.pid_reader.specs.Numbered.{Numbered, item_in}
use Rattle.pid_reader.specs.Sinks.{Took}
use Rattle.pid_tables.specs.declared.rows.fault.TableFault.{TableFault}
use Rattle.pid_tables.specs.declared.rows.fault.TableFault.TheVariants.{Memory}
use Rattle.pid_tables.specs.Lists.EachItem.{placed_from}
use Rattle.pid_tables.proofs.OfRows.ChildLemmas.{item_path, stands, is_no_vendor, generics_of}
use Rattle.std.proofs.lemmas.Cmp.{tied_itself}
use Rattle.sqlite_rules.specs.Lists.{Has}
use Rattle.pid_ident.specs.Trees.{text_cmp}
use Rattle.pid_ident.specs.PathTexts.{path_text, parent_of}
use Rattle.pid_file.specs.declared.path.Path.{Path}
use Rattle.pid_file.specs.declared.path.Path.TheVariants.{Vendor, Device, Subsystem, Class, Subclass, ProgIf, Generic}
use Rattle.pid_ident.specs.PathReading.{parent_text}
use Rattle.pid_moderation.specs.Items.{Items, is_parent}
use Rattle.sqlite.specs.Order.{Row, column}
use Rattle.sqlite.specs.declared.types.Value.TheVariants.{Text}
use Rattle.pid_tables.specs.Rows.Steps.Answers.{item_shown}
use Rattle.pid_tables.specs.Rows.Steps.Unread.{IsDamagedRow}
use Rattle.pid_tables.specs.Lists.Steps.Children.{children_among}
use Rattle.pid_moderation.specs.ItemPairs.{pair_of}
use Rattle.pid_moderation.specs.declared.lists.Item.{Item}
use Rattle.pid_moderation.specs.WellMade.{AllItems}
use Rattle.pid_tables.specs.Rows.Steps.Ranges.{is_between}
use Rattle.pid_moderation.specs.Children.{stands_below, children_of}

pub parent_texts : (path : Path) → parent_text (path_text path) ≡ option_map path_text (parent_of path)
parent_texts (Vendor v) = refl
parent_texts (Device v d) = refl
parent_texts (Subsystem v d s e) = refl
parent_texts (Class c) = refl
parent_texts (Subclass c s) = refl
parent_texts (ProgIf c s p) = refl
parent_texts (Generic v d) = refl

-- ---- ranges

less_is : (o : Ordering) → is_lt o ≡ true → o ≡ Less
less_is Less h = refl
less_is Equal h = absurd (let bad : ⊥ = cc in bad)
less_is Greater h = absurd (let bad : ⊥ = cc in bad)

never_below_itself : (t : List ℕ) → text_cmp t t ≡ Less → ⊥
never_below_itself t h = let bad : ◌≡◌ {A = Ordering} Equal Less = sym (tied_itself nat_list_cmp_total t) ∙ h in cc

module _ (p : List ℕ × List ℕ → Bool) where
  kept_of : (x : List ℕ × List ℕ) (xs : Items) (b : Bool) → p x ≡ true → filter p (cond b (x ∷ xs) xs) ≡ cond b (x ∷ filter p xs) (filter p xs)
  kept_of x xs true h = ap (λ k. cond k (x ∷ filter p xs) (filter p xs)) h
  kept_of x xs false h = refl

  left_of : (x : List ℕ × List ℕ) (xs : Items) (b : Bool) → p x ≡ false → filter p (cond b (x ∷ xs) xs) ≡ filter p xs
  left_of x xs true h = ap (λ k. cond k (x ∷ filter p xs) (filter p xs)) h
  left_of x xs false h = refl

  -- a range that holds all that is kept
  pub by_range : (b : List ℕ × List ℕ → Bool) (items : Items) → ((e : List ℕ × List ℕ) → Has items e → p e ≡ true → b e ≡ true) → filter p (filter b items) ≡ filter p items
  by_range b [] in_it = refl
  by_range b (x ∷ items) in_it =
      let rest = by_range b items (λ e h. in_it e (inr h)) in
      elim (cases_Bool (p x)) [
        | inl keep ↦ kept_of x (filter b items) (b x) keep ∙ ap (λ k. cond k (x ∷ filter p (filter b items)) (filter p (filter b items))) (in_it x (inl refl) keep) ∙ ap (λ l. x ∷ l) rest
            ∙ sym (ap (λ k. cond k (x ∷ filter p items) (filter p items)) keep)
        | inr drop ↦ left_of x (filter b items) (b x) drop ∙ rest ∙ sym (ap (λ k. cond k (x ∷ filter p items) (filter p items)) drop)
      ]

  none_left : (b : List ℕ × List ℕ → Bool) (items : Items) → ((e : List ℕ × List ℕ) → Has items e → b e ≡ false) → filter b items ≡ []
  none_left b [] none = refl
  none_left b (x ∷ items) none = ap (λ k. cond k (x ∷ filter b items) (filter b items)) (none x (inl refl)) ∙ none_left b items (λ e h. none e (inr h))

  above_each : (k : List ℕ) (items : Items) (e : List ℕ × List ℕ) → below_all text_cmp k items ≡ true → Has items e → text_cmp k e.0 ≡ Less
  above_each k [] e h there = absurd there
  above_each k (y ∷ items) e h (inl same) = subst (λ (z : List ℕ × List ℕ). text_cmp k z.0 ≡ Less) (sym same) (less_is _ (and_parts (is_lt (text_cmp k y.0)) (below_all text_cmp k items) h).0)
  above_each k (y ∷ items) e h (inr later) = above_each k items e (and_parts (is_lt (text_cmp k y.0)) (below_all text_cmp k items) h).1 later

  -- two ranges, all of one below all of the other, that hold all that is kept
  pub by_ranges : (b d : List ℕ × List ℕ → Bool) (items : Items) → is_sorted text_cmp items ≡ true → ((e : List ℕ × List ℕ) → Has items e → p e ≡ true → (b e ≡ true) ⊎ (d e ≡ true))
      → ((x y : List ℕ × List ℕ) → d x ≡ true → (text_cmp x.0 y.0 ≡ Less) ⊎ (x ≡ y) → b y ≡ false) → filter p (filter b items) ++ filter p (filter d items) ≡ filter p items
  by_ranges b d [] sorted either apart = refl
  by_ranges b d (x ∷ items) sorted either apart =
      let parts = and_parts (below_all text_cmp x.0 items) (is_sorted text_cmp items) sorted in
      let rest = by_ranges b d items parts.1 (λ e h. either e (inr h)) apart in
      elim (cases_Bool (p x)) [
        | inr drop ↦ (λ i. left_of x (filter b items) (b x) drop i ++ left_of x (filter d items) (d x) drop i) ∙ rest ∙ sym (ap (λ k. cond k (x ∷ filter p items) (filter p items)) drop)
        | inl keep ↦ (λ i. kept_of x (filter b items) (b x) keep i ++ kept_of x (filter d items) (d x) keep i)
            ∙ go (b x) refl (d x) refl parts.0 rest (either x (inl refl) keep) ∙ sym (ap (λ k. cond k (x ∷ filter p items) (filter p items)) keep)
      ]
    where
      go : (s : Bool) → b x ≡ s → (t : Bool) → d x ≡ t → below_all text_cmp x.0 items ≡ true → filter p (filter b items) ++ filter p (filter d items) ≡ filter p items → (b x ≡ true) ⊎ (d x ≡ true)
          → cond s (x ∷ filter p (filter b items)) (filter p (filter b items)) ++ cond t (x ∷ filter p (filter d items)) (filter p (filter d items)) ≡ x ∷ filter p items
      go true one true two lower rest either = absurd (let bad = sym one ∙ apart x x two (inr refl) in let none : ⊥ = cc in none)
      go true one false two lower rest either = ap (λ l. x ∷ l) rest
      go false one true two lower rest either =
          let gone : filter b items ≡ [] = none_left b items (λ e h. apart x e two (inl (above_each x.0 items e lower h))) in
          let alone : filter p (filter d items) ≡ filter p items = sym (ap (λ l. filter p l ++ filter p (filter d items)) gone) ∙ rest in
          ap (λ l. filter p l ++ x ∷ filter p (filter d items)) gone ∙ ap (λ l. x ∷ l) alone
      go false one false two lower rest (inl h) = absurd (let bad = sym one ∙ h in let none : ⊥ = cc in none)
      go false one false two lower rest (inr h) = absurd (let bad = sym two ∙ h in let none : ⊥ = cc in none)

-- ---- children

abbrev pub behind : List ℕ → List ℕ × List ℕ → Bool
behind text e = is_between (text ++ 47 ∷ []) (text ++ 48 ∷ []) e.0

abbrev pub child_of : Path → List ℕ × List ℕ → Bool
child_of p e = stands_below (Some (path_text p)) e.0

-- of a path that is no vendor
pub other_below : (items : Items) (p : Path) → AllItems items → (length (path_text p) ≡ 7 → ⊥) → filter (child_of p) (filter (behind (path_text p)) items) ≡ children_of (Some (path_text p)) items
other_below items p all other = by_range (child_of p) (behind (path_text p)) items (λ e h is.
    let q = item_path items e all h in
    elim (stands p q.0 e.0 q.1.same is) [ inl there ↦ there | inr generic ↦ absurd (other (ap length generic.1)) ])

before_pd : (a : ℕ) (t : List ℕ) → behind (path_text (Vendor a)) (t, []) ≡ true → text_cmp t (codes "PD") ≡ Less
before_pd a t h = nat_list_cmp_total.trans t (path_text (Vendor a) ++ 48 ∷ []) (codes "PD") (less_is _ (and_parts (is_lt (text_cmp (path_text (Vendor a) ++ 47 ∷ []) t)) _ h).1) refl

after_pd : (a : ℕ) (t : List ℕ) → behind (generics_of (path_text (Vendor a))) (t, []) ≡ true → text_cmp (codes "PD") t ≡ Less
after_pd a t h = nat_list_cmp_total.trans (codes "PD") (generics_of (path_text (Vendor a)) ++ 47 ∷ []) t refl (less_is _ (and_parts (is_lt (text_cmp (generics_of (path_text (Vendor a)) ++ 47 ∷ []) t)) _ h).0)

-- of a vendor, whose generic subsystems come last
pub vendor_below : (items : Items) (a : ℕ) → is_sorted text_cmp items ≡ true → AllItems items
    → filter (child_of (Vendor a)) (filter (behind (path_text (Vendor a))) items) ++ filter (child_of (Vendor a)) (filter (behind (generics_of (path_text (Vendor a)))) items) ≡ children_of (Some (path_text (Vendor a))) items
vendor_below items a sorted all = by_ranges (child_of (Vendor a)) (behind (path_text (Vendor a))) (behind (generics_of (path_text (Vendor a)))) items sorted
    (λ e h is. let q = item_path items e all h in elim (stands (Vendor a) q.0 e.0 q.1.same is) [ inl there ↦ inl there | inr generic ↦ inr generic.2 ])
    (λ x y late up. false_from_ne_true _ (λ early.
    let low = before_pd a y.0 early in
    let high = after_pd a x.0 late in
    elim up [
      | inl less ↦ never_below_itself (codes "PD") (nat_list_cmp_total.trans (codes "PD") y.0 (codes "PD") (nat_list_cmp_total.trans (codes "PD") x.0 y.0 high less) low)
      | inr same ↦ never_below_itself (codes "PD") (nat_list_cmp_total.trans (codes "PD") x.0 (codes "PD") high (subst (λ (z : List ℕ × List ℕ). text_cmp z.0 (codes "PD") ≡ Less) (sym same) low))
    ]))

-- ---- a sink that keeps some

pub kept_all : {S : Type 0} (view : S → Items) (f : List ℕ × List ℕ → Bool) (old new : S) (es : List Numbered) → Took (λ s (e : Numbered) t. view t ≡ view s ++ filter f (item_in e ∷ [])) old es new → view new ≡ view old ++ filter f (map item_in (reverse es))
kept_all view f old new [] h = ap view h ∙ sym (append-nil (view old))
kept_all view f old new (e ∷ es) h =
    h.2 ∙ ap (λ l. l ++ filter f (item_in e ∷ [])) (kept_all view f old h.0 es h.1) ∙ append_assoc (view old) (filter f (map item_in (reverse es))) (filter f (item_in e ∷ []))
    ∙ ap (λ l. view old ++ l) (sym (filter-append f (map item_in (reverse es)) (item_in e ∷ []))
    ∙ ap (filter f) (sym (ap (map item_in) (reverse-append (e ∷ []) es) ∙ map-append item_in (reverse es) (e ∷ []))))

placed_items : (place : ℕ) (items : Items) → map item_in (placed_from place items) ≡ items
placed_items place [] = refl
placed_items place (item ∷ items) = ap (λ l. item ∷ l) (placed_items (place + 1) items)

pub kept_each : {S : Type 0} (view : S → Items) (f : List ℕ × List ℕ → Bool) (old new : S) (items : Items) → view old ≡ [] → Took (λ s (e : Numbered) t. view t ≡ view s ++ filter f (item_in e ∷ [])) old (reverse (placed_from 1 items)) new → view new ≡ filter f items
kept_each view f old new items none h =
    kept_all view f old new (reverse (placed_from 1 items)) h ∙ ap (λ l. l ++ filter f (map item_in (reverse (reverse (placed_from 1 items))))) none
    ∙ ap (filter f) (ap (map item_in) (reverse-reverse (placed_from 1 items)) ∙ placed_items 1 items)

-- what is kept of items that are paths with names is too
pub kept_items : (f : List ℕ × List ℕ → Bool) (items : Items) → AllItems items → AllItems (filter f items)
kept_items f [] all = tt
kept_items f (e ∷ items) all = elim (f e) as (λ b. AllItems (cond b (e ∷ filter f items) (filter f items))) [ true ↦ (all.0, kept_items f items all.1) | false ↦ kept_items f items all.1 ]

-- ---- what is kept at the top

module _ (e : List ℕ × List ℕ) where
  pub not_top : (above : List ℕ) → parent_text e.0 ≡ Some above → filter (λ (e : List ℕ × List ℕ). stands_below None e.0) (e ∷ []) ≡ []
  not_top above below = ap (λ o. cond (is_none o) (e ∷ []) []) below

  is_top : parent_text e.0 ≡ None → filter (λ (e : List ℕ × List ℕ). stands_below None e.0) (e ∷ []) ≡ e ∷ []
  is_top top = ap (λ o. cond (is_none o) (e ∷ []) []) top

  pub top_taken : (was now : List Item) (x : Item) (r : Result (Unit {0}) TableFault) → OnOk r (now ≡ was ++ x ∷ []) → pair_of x ≡ e → parent_text e.0 ≡ None
      → OnOk r (map pair_of now ≡ map pair_of was ++ filter (λ (e : List ℕ × List ℕ). stands_below None e.0) (e ∷ []))
  top_taken was now x (Ok u) added is top = ap (map pair_of) added ∙ map-append pair_of was (x ∷ []) ∙ ap (λ l. map pair_of was ++ l) (ap (λ y. y ∷ []) is ∙ sym (is_top top))
  top_taken was now x (Err fault) added is top = tt

-- ---- a row whose item may be kept

module _ (path : Path) (e : List ℕ × List ℕ) (row : Row) (is : row ≡ item_shown e) (item : Item) (at_path : column row 0 ≡ Text (path_text item.path)) (at_name : column row 1 ≡ Text item.name) where
  same_text : (s t : List ℕ) → Text s ≡ Text t → s ≡ t
  same_text s t h = cc

  same_path : path_text item.path ≡ e.0
  same_path = same_text _ _ (sym at_path ∙ ap (λ r. column r 0) is)

  is_asked : (b : Bool) → b ≡ is_parent (path_text path) (parent_text (path_text item.path)) → is_parent (path_text path) (parent_text e.0) ≡ b
  is_asked b told = sym (told ∙ ap (λ t. is_parent (path_text path) (parent_text t)) same_path)

  pub child_passed : (b : Bool) → b ≡ is_parent (path_text path) (parent_text (path_text item.path)) → b ≡ false → children_among path (e ∷ []) ≡ []
  child_passed b told other = ap (λ k. cond k (e ∷ []) []) (is_asked b told ∙ other)

  pub child_kept : (b : Bool) → b ≡ is_parent (path_text path) (parent_text (path_text item.path)) → b ≡ true → pair_of item ∷ [] ≡ children_among path (e ∷ [])
  child_kept b told child =
      let same_name = same_text _ _ (sym at_name ∙ ap (λ r. column r 1) is) in
      (λ i. (same_path i, same_name i) ∷ []) ∙ sym (ap (λ k. cond k (e ∷ []) []) (is_asked b told ∙ child))

-- an element was added where it is one of those that are kept, or there was no memory
pub kept_child : (Written : Type 0) (was now : List Item) (x : Item) (more : Items) (r : Result (Unit {0}) TableFault) → OnOk r (now ≡ was ++ x ∷ []) → IfErr r (λ fault. fault ≡ Memory) → pair_of x ∷ [] ≡ more
    → MatchResult r (λ _. map pair_of now ≡ map pair_of was ++ more) (IsDamagedRow Written)
kept_child Written was now x more (Ok u) added full same = ap (map pair_of) added ∙ map-append pair_of was (x ∷ []) ∙ ap (λ l. map pair_of was ++ l) same
kept_child Written was now x more (Err fault) added full same = subst (IsDamagedRow Written) (sym full) tt

-- ---- what is kept in turn

pub other_joined : (items : Items) (p : Path) → ((v : ℕ) → p ≡ Vendor v → ⊥) → AllItems items → (t : List ℕ) → t ≡ path_text p → (k0 k1 : Items) → k0 ≡ [] → k1 ≡ k0 ++ filter (child_of p) (filter (behind t) items)
    → k1 ≡ children_of (Some (path_text p)) items
other_joined items p no_vendor all t same k0 k1 none one =
    one ∙ ap (λ l. l ++ filter (child_of p) (filter (behind t) items)) none ∙ ap (λ t. filter (child_of p) (filter (behind t) items)) same ∙ other_below items p all (is_no_vendor p no_vendor)

pub vendor_joined : (items : Items) (p : Path) (a : ℕ) → p ≡ Vendor a → is_sorted text_cmp items ≡ true → AllItems items → (t : List ℕ) → t ≡ path_text p → (k0 k1 k2 : Items) → k0 ≡ []
    → k1 ≡ k0 ++ filter (child_of p) (filter (behind t) items) → k2 ≡ k1 ++ filter (child_of p) (filter (behind (generics_of (path_text (Vendor a)))) items) → k2 ≡ children_of (Some (path_text p)) items
vendor_joined items p a is sorted all t same k0 k1 k2 none one two =
    let first : k1 ≡ filter (child_of p) (filter (behind (path_text p)) items) = one ∙ ap (λ l. l ++ filter (child_of p) (filter (behind t) items)) none ∙ ap (λ t. filter (child_of p) (filter (behind t) items)) same in
    two ∙ (λ i. first i ++ filter (child_of p) (filter (behind (generics_of (path_text (Vendor a)))) items))
    ∙ subst (λ (p : Path). filter (child_of p) (filter (behind (path_text p)) items) ++ filter (child_of p) (filter (behind (generics_of (path_text (Vendor a)))) items) ≡ children_of (Some (path_text p)) items) (sym is)
    (vendor_below items a sorted all)
