-- Whether an item lies in a range.
use Rattle.std.proofs.Common.{◌≡◌, ◌⊎◌, inl, inr, ℕ, ℤ, pos, List, [], ◌∷◌, length, Bool, cond, true, false, ◌&&◌, None, Some, Option, Ordering, Less, Equal, Greater, is_lt, is_gt, is_eq, refl, sym, ap, subst, ◌∙◌, codes}
use Rattle.std.specs.Prelude.{not, ◌==◌}
use Rattle.std.specs.List.{list_any}
use Rattle.std.specs.Ordering.{ordering_reverse, nat_cmp, eq_by_cmp}
use Rattle.std.specs.Cmp.Lexicographic.{nat_list_cmp_total}
use Rattle.std.specs.FinMap.Entries.{is_sorted, below_all}
use Rattle.std.proofs.lemmas.Bool.{cases_Bool, and_parts}
use Rattle.std.proofs.lemmas.Cmp.{tied_itself}
use Rattle.sqlite.specs.declared.types.Value.TheVariants.{Null, Text}
use Rattle.sqlite.specs.Order.{Row}
use Rattle.sqlite_value.proofs.OrderLemmas.{value_cmp-Text}
use Rattle.sqlite.specs.Ops.{is_true, binary}
use Rattle.sqlite.specs.Term.{Term, col, op2}
use Rattle.sqlite.specs.Query.{IsAnswer}
use Rattle.sqlite.specs.Program.{overlay}
use Rattle.sqlite.specs.Listing.{understood, reads_listing}
use Rattle.sqlite.specs.Command.TheVariants.{Select}
use Rattle.sqlite.specs.Collation.TheVariants.{Binary}
use Rattle.sqlite.specs.State.{State, Shown}
use Rattle.sqlite.proofs.Callers.{IsPlain, command_of, reads_as}
use Rattle.sqlite_sql.specs.declared.ops.BinaryOp.TheVariants.{Compare}
use Rattle.sqlite_sql.specs.declared.ops.CompareOp.TheVariants.{Gt, Lt}
use Rattle.sqlite_tied.specs.Compute.{everything}
use Rattle.sqlite_rules.specs.Lists.{Has}
use Rattle.sqlite_rules.proofs.ListLemmas.{has_filtered, has_kept}
use Rattle.pid_ident.specs.Trees.{text_cmp}
use Rattle.pid_moderation.specs.Items.{Items, name_at}
use Rattle.pid_moderation.specs.Views.{Views}
use Rattle.pid_tables.specs.declared.rows.schema_version.Version.{Version}
use Rattle.pid_tables.specs.Rows.Steps.Answers.{IsFirstWithin}
use Rattle.pid_tables.specs.Rows.Schema.{schema_of}
use Rattle.pid_tables.specs.Rows.TableRows.{item_row}
use Rattle.pid_tables.specs.Rows.Shows.{Counts, Numbers, ShowsKeeping}
use Rattle.pid_tables.specs.Rows.Steps.Ranges.{is_between, holds_between}
use Rattle.pid_tables.proofs.OfRows.Statements.{program, first_one, IsAlone, command_alone, plain_alone}
use Rattle.pid_tables.proofs.OfRows.MapLemmas.{none_over}
use Rattle.pid_tables.proofs.OfRows.SetLemmas.{tied}
use Rattle.pid_tables.proofs.OfRows.Select.{passing, said}
use Rattle.pid_tables.proofs.OfRows.TurnLemmas.{hits}
use Rattle.pid_tables.proofs.OfRows.FirstLemmas.{HasNone, IsFirst, first_found}

abbrev pub select_between : List ℕ
select_between = codes "SELECT path FROM item WHERE path > ?1 AND path < ?2 LIMIT 1"

abbrev pub in_range : List Term
in_range = op2 (Compare Gt Binary) (col 1 1) (col 0 0) ∷ op2 (Compare Lt Binary) (col 1 1) (col 0 1) ∷ []

pub select_between_alone : (version : Version) → IsAlone (schema_of version) select_between (Select (program (first_one 4 in_range (col 1 1 ∷ []) [])) (codes "path" ∷ [])) 2
unfolding understood everything
select_between_alone version = refl

pub select_between_is : (version : Version) → command_of (understood (schema_of version) select_between) ≡ Select (program (first_one 4 in_range (col 1 1 ∷ []) [])) (codes "path" ∷ [])
select_between_is version = command_alone (schema_of version) select_between _ 2 (select_between_alone version)

pub select_between_plain : (version : Version) → IsPlain (understood (schema_of version) select_between)
select_between_plain version = plain_alone (schema_of version) select_between _ 2 (select_between_alone version)

pub select_between_unlisted : (version : Version) → reads_listing (schema_of version) select_between ≡ false
unfolding understood everything
select_between_unlisted version = refl

turned : (o : Ordering) → is_gt o ≡ is_lt (ordering_reverse o)
turned Less = refl
turned Equal = refl
turned Greater = refl

pub above : (p q : List ℕ) → is_true (binary (Compare Gt Binary) (Text p) (Text q)) ≡ is_lt (text_cmp q p)
unfolding binary
above p q = said _ ∙ ap is_gt (value_cmp-Text p q) ∙ turned (text_cmp p q) ∙ ap is_lt (sym (nat_list_cmp_total.antisymm q p))

below : (p q : List ℕ) → is_true (binary (Compare Lt Binary) (Text p) (Text q)) ≡ is_lt (text_cmp p q)
unfolding binary
below p q = said _ ∙ ap is_lt (value_cmp-Text p q)

two_tests : (a b : Bool) → (a && (b && true)) ≡ (a && b)
two_tests true true = refl
two_tests true false = refl
two_tests false b = refl

module _ (low high : List ℕ) where
  abbrev params : Row
  params = Text low ∷ Text high ∷ []

  pub hits_between : (id : ℤ) (path name : List ℕ) → hits in_range params (item_row id path name) ≡ is_between low high path
  hits_between id path name = ap (λ b. b && (is_true (binary (Compare Lt Binary) (Text path) (Text high)) && true)) (above path low) ∙ ap (λ b. is_lt (text_cmp low path) && (b && true)) (below path high) ∙ two_tests _ _

-- ---- lists of items

pub any_there : (f : List ℕ × List ℕ → Bool) (items : Items) (e : List ℕ × List ℕ) → Has items e → f e ≡ true → list_any f items ≡ true
any_there f [] e h is = absurd h
any_there f (x ∷ items) e (inl same) h = ap (λ b. Rattle.std.specs.Prelude.◌||◌ b (list_any f items)) (ap f (sym same) ∙ h)
any_there f (x ∷ items) e (inr later) h = either_way (f x) (list_any f items) (any_there f items e later h)
  where
    either_way : (a b : Bool) → b ≡ true → Rattle.std.specs.Prelude.◌||◌ a b ≡ true
    either_way true b h = refl
    either_way false b h = h

pub any_found : (f : List ℕ × List ℕ → Bool) (items : Items) → list_any f items ≡ true → (e : List ℕ × List ℕ) × Has items e × (f e ≡ true)
any_found f [] h = absurd (let bad : ⊥ = cc in bad)
any_found f (x ∷ items) h = elim (cases_Bool (f x)) [
  | inl yes_it ↦ (x, inl refl, yes_it)
  | inr not_it ↦ let more = any_found f items (rest (f x) (list_any f items) not_it h) in (more.0, inr more.1, more.2)
]
  where
    rest : (a b : Bool) → a ≡ false → Rattle.std.specs.Prelude.◌||◌ a b ≡ true → b ≡ true
    rest true b e h = absurd (let bad : ⊥ = cc in bad)
    rest false b e h = h

-- what is found at a path is in the list
pub found_in : (path name : List ℕ) (items : Items) → name_at path items ≡ Some name → Has items (path, name)
found_in path name [] h = absurd (let bad : ⊥ = cc in bad)
found_in path name (e ∷ items) h = go (eq_by_cmp text_cmp path e.0) refl (found_in path name items) h
  where
    go : (b : Bool) → eq_by_cmp text_cmp path e.0 ≡ b → (name_at path items ≡ Some name → Has items (path, name)) → Rattle.std.proofs.Common.cond b (Some e.1) (name_at path items) ≡ Some name → Has (e ∷ items) (path, name)
    go true t later h = let key = tied path e.0 t in let value : e.1 ≡ name = cc in inl (λ i. (key i, sym value i))
    go false t later h = inr (later h)

-- at its own path a text ties with itself
own_tie : (k : List ℕ) → eq_by_cmp text_cmp k k ≡ true
own_tie k = ap is_eq (tied_itself nat_list_cmp_total k)

-- where no path comes twice, what is in the list is found at its path
pub found_at : (items : Items) (e : List ℕ × List ℕ) → is_sorted text_cmp items ≡ true → Has items e → name_at e.0 items ≡ Some e.1
found_at [] e sorted h = absurd h
found_at (x ∷ items) e sorted (inl same) = subst (λ (y : List ℕ × List ℕ). name_at y.0 (x ∷ items) ≡ Some y.1) (sym same) (ap (λ b. cond b (Some x.1) (name_at x.0 items)) (own_tie x.0))
found_at (x ∷ items) e sorted (inr later) =
    let parts = and_parts (below_all text_cmp x.0 items) (is_sorted text_cmp items) sorted in
    let apart : eq_by_cmp text_cmp e.0 x.0 ≡ false = not_tied items e x.0 parts.0 later in
    ap (λ b. cond b (Some x.1) (name_at e.0 items)) apart ∙ found_at items e parts.1 later
  where
    less_apart : (a b : List ℕ) (o : Ordering) → text_cmp a b ≡ o → is_lt o ≡ true → eq_by_cmp text_cmp b a ≡ false
    less_apart a b Less e h = ap is_eq (nat_list_cmp_total.antisymm b a ∙ ap ordering_reverse e)
    less_apart a b Equal e h = absurd (let bad : ⊥ = cc in bad)
    less_apart a b Greater e h = absurd (let bad : ⊥ = cc in bad)

    not_tied : (items : Items) (e : List ℕ × List ℕ) (k : List ℕ) → below_all text_cmp k items ≡ true → Has items e → eq_by_cmp text_cmp e.0 k ≡ false
    not_tied [] e k h there = absurd there
    not_tied (y ∷ items) e k h (inl same) = subst (λ (z : List ℕ × List ℕ). eq_by_cmp text_cmp z.0 k ≡ false) (sym same) (less_apart k y.0 (text_cmp k y.0) refl (and_parts (is_lt (text_cmp k y.0)) _ h).0)
    not_tied (y ∷ items) e k h (inr later) = not_tied items e k (and_parts (is_lt (text_cmp k y.0)) _ h).1 later

-- ---- what the query answers

module _ {version : Version} {numbers : Numbers} (old new : State) (c : Counts) (v : Views) (shows : ShowsKeeping version c numbers old.now v) (low high : List ℕ) where
  abbrev rows : List Row
  rows = old.now.trees 4

  none_in : ((r : Row) → Has (passing in_range (Text low ∷ Text high ∷ []) rows) r → ⊥) → holds_between low high v.items ≡ false
  none_in none = elim (cases_Bool (holds_between low high v.items)) [
    | inl some ↦
        let e = any_found (λ e. is_between low high e.0) v.items some in
        let pair = shows.items.complete e.0.0 e.0.1 (found_at v.items e.0 shows.views.sorted e.1) in
        absurd (none _ (has_kept _ rows (item_row pair.0 e.0.0 e.0.1) pair.1 (hits_between low high pair.0 e.0.0 e.0.1 ∙ e.2)))
    | inr none_there ↦ none_there
  ]

  some_in : (r : Row) → Has (passing in_range (Text low ∷ Text high ∷ []) rows) r → holds_between low high v.items ≡ true
  some_in r h =
      let kept = has_filtered _ rows r h in
      let pair = shows.items.sound r kept.0 in
      let inside = sym (hits_between low high pair.id pair.key pair.value) ∙ subst (λ x. hits in_range (Text low ∷ Text high ∷ []) x ≡ true) pair.is kept.1 in
      any_there (λ e. is_between low high e.0) v.items (pair.key, pair.value) (found_in pair.key pair.value v.items pair.maps) inside

  pub between_found : (answer : List Row) → Shown select_between (Text low ∷ Text high ∷ []) old new answer
      → ((answer ≡ []) × (holds_between low high v.items ≡ false)) ⊎ ((row : Row) × (answer ≡ row ∷ []) × (holds_between low high v.items ≡ true))
  between_found answer h =
      let ps = Text low ∷ Text high ∷ [] in
      let got = reads_as select_between ps old new (schema_of version) shows.schema _ (select_between_is version) (select_between_plain version) (select_between_unlisted version) answer h in
      let a : IsAnswer (first_one 4 in_range (col 1 1 ∷ []) []) (overlay old.now.trees []) ps answer = got.answer Null in
      elim (subst (λ xs. HasNone 4 in_range (col 1 1 ∷ []) [] ps xs answer ⊎ IsFirst 4 in_range (col 1 1 ∷ []) [] ps xs answer) (none_over old.now.trees 4) (first_found 4 in_range (col 1 1 ∷ []) [] ps (overlay old.now.trees []) answer a)) [
        | inl none ↦ inl (none.0, none_in none.1)
        | inr first ↦ inr (_, first.is, some_in first.row first.there)
      ]

-- whether it answers a row says whether there is an item
pub rows_within : (low high : List ℕ) (items : Items) (answer : List Row) → IsFirstWithin low high items answer → not (length answer == 0) ≡ holds_between low high items
rows_within low high items answer (inl none) = ap (λ l. not (length l == 0)) none.0 ∙ sym none.1
rows_within low high items answer (inr some) = ap (λ l. not (length l == 0)) some.1 ∙ sym some.2
