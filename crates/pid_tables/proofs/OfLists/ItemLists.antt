-- What queries on items answer that go in the order of paths.
use Rattle.std.proofs.Common.{◌≡◌, ℕ, ℤ, List, [], ◌∷◌, ◌++◌, map, filter, Bool, true, false, cond, Ordering, Less, Equal, Greater, is_lt, refl, sym, ap, subst, ◌∙◌, codes}
use Rattle.std.specs.List.{AllByRecursion}
use Rattle.std.specs.Ordering.{ordering_then}
use Rattle.std.specs.FinMap.Entries.{is_sorted, below_all}
use Rattle.std.proofs.lemmas.Bool.{and_parts}
use Rattle.sqlite.specs.declared.types.Value.TheVariants.{Null, Text}
use Rattle.sqlite.specs.Order.{Row, column}
use Rattle.sqlite.specs.Tree.{IsAscending, rowid}
use Rattle.sqlite.specs.Term.{Term, col}
use Rattle.pid_tables.specs.Rows.Steps.Ranges.{is_between}
use Rattle.sqlite.specs.Query.{IsAnswer, Output, output_cmp}
use Rattle.sqlite.specs.Program.{overlay}
use Rattle.sqlite.specs.Listing.{understood, reads_listing}
use Rattle.sqlite.specs.Command.TheVariants.{Select}
use Rattle.sqlite.specs.Collation.TheVariants.{Binary}
use Rattle.sqlite.specs.Effect.{Database}
use Rattle.sqlite.specs.State.{State, Shown, Begins}
use Rattle.sqlite.proofs.Callers.{IsPlain, command_of, reads_as, begins_as}
use Rattle.sqlite_resolve.specs.Compile.{first}
use Rattle.sqlite_tied.specs.Compute.{everything}
use Rattle.sqlite_value.specs.declared.keys.Key.{Key}
use Rattle.sqlite_value.proofs.OrderLemmas.{value_cmp-Text}
use Rattle.sqlite_value.specs.Keys.{ascending}
use Rattle.sqlite_rules.proofs.ListLemmas.{has_filtered, has_kept}
use Rattle.pid_ident.specs.Trees.{text_cmp}
use Rattle.pid_moderation.specs.Items.{Items}
use Rattle.pid_moderation.specs.Views.{Views}
use Rattle.pid_tables.specs.declared.rows.schema_version.Version.TheVariants.{Two}
use Rattle.pid_tables.specs.Rows.Schema.{pid_schema}
use Rattle.pid_tables.specs.Rows.TableRows.{item_row}
use Rattle.pid_tables.specs.Rows.Steps.Answers.{item_shown}
use Rattle.pid_tables.specs.Rows.Shows.{Counts}
use Rattle.pid_tables.specs.Rows.Steps.Shows.{ShowsCounting}
use Rattle.pid_tables.proofs.OfRows.Statements.{program, listing, whole, IsAlone, command_alone, plain_alone}
use Rattle.pid_tables.proofs.OfRows.MapLemmas.{none_over}
use Rattle.pid_tables.proofs.OfRows.QueryTexts.{IsOneAs, one_alone, in_order}
use Rattle.pid_tables.specs.Rows.Steps.Queries.{IsQuery}
use Rattle.pid_tables.proofs.OfRows.Lengths.{IsDistinct}
use Rattle.pid_tables.proofs.OfRows.OneRowEach.{item_keys_apart}
use Rattle.pid_tables.proofs.OfRows.Select.{passing, out}
use Rattle.pid_tables.proofs.OfRows.TurnLemmas.{hits}
use Rattle.pid_tables.proofs.OfRows.RangeLemmas.{in_range, hits_between, found_in, found_at}
use Rattle.pid_tables.proofs.OfLists.OrderedLemmas.{StandsFor, listed}
use Rattle.pid_tables.proofs.OfLists.PlainTexts.{ShowsNothing}

abbrev pub both_columns : List Term
both_columns = col 1 1 ∷ col 1 2 ∷ []

abbrev pub by_path : List (Term × Key)
by_path = (col 1 1, ascending Binary) ∷ []

-- what a pair is sorted by, and shown as
abbrev pub mark : List ℕ × List ℕ → Output
mark e = (Text e.0 ∷ [], item_shown e)

pub less_is : (o : Ordering) → is_lt o ≡ true → o ≡ Less
less_is Less h = refl
less_is Equal h = absurd (let bad : ⊥ = cc in bad)
less_is Greater h = absurd (let bad : ⊥ = cc in bad)

apart_before : {X K : Type 0} (f : X → K) (p : X → Bool) (k : K) (xs : List X) → AllByRecursion (λ y. k ≡ y → ⊥) (map f xs) → AllByRecursion (λ y. k ≡ y → ⊥) (map f (filter p xs))
apart_before f p k [] all = tt
apart_before f p k (x ∷ xs) all = elim (p x) as (λ b. AllByRecursion (λ y. k ≡ y → ⊥) (map f (cond b (x ∷ filter p xs) (filter p xs)))) [
  | true ↦ (all.0, apart_before f p k xs all.1)
  | false ↦ apart_before f p k xs all.1
]

-- what is kept of distinct keys is distinct
pub kept_distinct : {X K : Type 0} (f : X → K) (p : X → Bool) (xs : List X) → IsDistinct (map f xs) → IsDistinct (map f (filter p xs))
kept_distinct f p [] once = tt
kept_distinct f p (x ∷ xs) once = elim (p x) as (λ b. IsDistinct (map f (cond b (x ∷ filter p xs) (filter p xs)))) [
  | true ↦ (apart_before f p (f x) xs once.0, kept_distinct f p xs once.1)
  | false ↦ kept_distinct f p xs once.1
]

finer_before : {X K L : Type 0} (f : X → K) (g : X → L) (x : X) (xs : List X) → ((y : X) → g x ≡ g y → f x ≡ f y) → AllByRecursion (λ y. f x ≡ y → ⊥) (map f xs) → AllByRecursion (λ y. g x ≡ y → ⊥) (map g xs)
finer_before f g x [] finer all = tt
finer_before f g x (y ∷ xs) finer all = (λ same. all.0 (finer y same), finer_before f g x xs finer all.1)

-- what tells more is distinct too
pub finer_distinct : {X K L : Type 0} (f : X → K) (g : X → L) (xs : List X) → ((x y : X) → g x ≡ g y → f x ≡ f y) → IsDistinct (map f xs) → IsDistinct (map g xs)
finer_distinct f g [] finer once = tt
finer_distinct f g (x ∷ xs) finer once = (finer_before f g x xs (finer x) once.0, finer_distinct f g xs finer once.1)

module _ (tests : List Term) (limit : Term) (params : Row) where
  abbrev cmp : Output → Output → Ordering
  cmp = output_cmp (listing 4 tests both_columns by_path limit)

  mark_less : (a b : List ℕ × List ℕ) → is_lt (text_cmp a.0 b.0) ≡ true → cmp (mark a) (mark b) ≡ Less
  mark_less a b h = ap (λ o. ordering_then o Equal) (value_cmp-Text a.0 b.0 ∙ less_is _ h)

  marks_above : (f : List ℕ × List ℕ → Bool) (e : List ℕ × List ℕ) (items : Items) → below_all text_cmp e.0 items ≡ true → AllByRecursion (λ o. cmp (mark e) o ≡ Less) (map mark (filter f items))
  marks_above f e [] h = tt
  marks_above f e (i ∷ items) h =
      let parts = and_parts (is_lt (text_cmp e.0 i.0)) (below_all text_cmp e.0 items) h in
      elim (f i) as (λ b. AllByRecursion (λ o. cmp (mark e) o ≡ Less) (map mark (cond b (i ∷ filter f items) (filter f items)))) [
        | true ↦ (mark_less e i parts.0, marks_above f e items parts.1)
        | false ↦ marks_above f e items parts.1
      ]

  marks_rise : (f : List ℕ × List ℕ → Bool) (items : Items) → is_sorted text_cmp items ≡ true → IsAscending (λ a b. cmp a b ≡ Less) (map mark (filter f items))
  marks_rise f [] h = tt
  marks_rise f (i ∷ items) h =
      let parts = and_parts (below_all text_cmp i.0 items) (is_sorted text_cmp items) h in
      elim (f i) as (λ b. IsAscending (λ a b. cmp a b ≡ Less) (map mark (cond b (i ∷ filter f items) (filter f items)))) [
        | true ↦ (marks_above f i items parts.0, marks_rise f items parts.1)
        | false ↦ marks_rise f items parts.1
      ]

  -- the rows of items that pass tests stand for the items that do
  pub items_stand : (db : Database) (c : Counts) (v : Views) → ShowsCounting c db v → (f : List ℕ × List ℕ → Bool) → ((id : ℤ) (path name : List ℕ) → hits tests params (item_row id path name) ≡ f (path, name))
      → StandsFor 4 tests both_columns by_path limit params mark (filter f v.items) (db.trees 4)
  items_stand db c v shows f passes = record {
    each = λ r h.
        let kept = has_filtered (hits tests params) (db.trees 4) r h in
        let pair = shows.items.sound r kept.0 in
        let is : f (pair.key, pair.value) ≡ true = sym (passes pair.id pair.key pair.value) ∙ subst (λ x. hits tests params x ≡ true) pair.is kept.1 in
        ((pair.key, pair.value), has_kept f v.items (pair.key, pair.value) (found_in pair.key pair.value v.items pair.maps) is, ap (out 4 tests both_columns by_path limit params) pair.is);
    there = λ e h.
        let kept = has_filtered f v.items e h in
        let pair = shows.items.complete e.0 e.1 (found_at v.items e shows.views.sorted kept.0) in
        (item_row pair.0 e.0 e.1, has_kept (hits tests params) (db.trees 4) (item_row pair.0 e.0 e.1) pair.1 (passes pair.0 e.0 e.1 ∙ kept.1), refl);
    apart =
        let keys = item_keys_apart Two db shows.sound shows.schema shows.items.ordered (λ r h. let pair = shows.items.sound r h in (pair.id, pair.key, ap rowid pair.is, ap (λ x. column x 1) pair.is)) in
        finer_distinct (λ r. column r 1) (out 4 tests both_columns by_path limit params) (passing tests params (db.trees 4)) (λ x y same. ap (λ (o : Output). column o.0 0) same)
        (kept_distinct (λ r. column r 1) (hits tests params) (db.trees 4) keys);
    rises = marks_rise f v.items shows.views.sorted;
  }

-- ---- all items

abbrev pub select_all : List ℕ
select_all = codes "SELECT path, name FROM item ORDER BY path"

select_all_alone : IsAlone pid_schema select_all (Select (program (listing 4 [] both_columns by_path whole)) (codes "path" ∷ codes "name" ∷ [])) 0
unfolding understood everything
select_all_alone = refl

pub select_all_is : command_of (understood pid_schema select_all) ≡ Select (program (listing 4 [] both_columns by_path whole)) (codes "path" ∷ codes "name" ∷ [])
select_all_is = command_alone pid_schema select_all _ 0 select_all_alone

pub select_all_plain : IsPlain (understood pid_schema select_all)
select_all_plain = plain_alone pid_schema select_all _ 0 select_all_alone

pub select_all_unlisted : reads_listing pid_schema select_all ≡ false
unfolding understood everything
select_all_unlisted = refl

-- under any schema
pub select_all_shows : ShowsNothing (first select_all)
unfolding everything
select_all_shows = λ schema base. refl

all_one : IsOneAs select_all [] (understood pid_schema select_all)
all_one = one_alone select_all [] (understood pid_schema select_all) _ select_all_alone

pub all_query : IsQuery pid_schema select_all []
all_query = in_order pid_schema select_all [] 4 [] both_columns (codes "path" ∷ codes "name" ∷ []) all_one by_path whole select_all_is select_all_unlisted refl

all_kept : {X : Type 0} (xs : List X) → filter (λ _. true) xs ≡ xs
all_kept [] = refl
all_kept (x ∷ xs) = ap (λ l. x ∷ l) (all_kept xs)

module _ (db : Database) (c : Counts) (v : Views) (shows : ShowsCounting c db v) where
  items_answer : (answer : List Row) → IsAnswer (listing 4 [] both_columns by_path whole) (overlay db.trees []) [] answer → answer ≡ map item_shown v.items
  items_answer answer a = listed 4 [] both_columns by_path whole [] mark (filter (λ _. true) v.items) (overlay db.trees []) (db.trees 4) answer (none_over db.trees 4)
      (items_stand [] whole [] db c v shows (λ _. true) (λ id path name. refl)) a ∙ ap (map item_shown) (all_kept v.items)

  pub all_found : (old new : State) → old.now ≡ db → (answer : List Row) → Shown select_all [] old new answer → answer ≡ map item_shown v.items
  all_found old new is answer h =
      let got = reads_as select_all [] old new pid_schema (ap (λ (d : Database). d.schema) is ∙ shows.schema) _ select_all_is select_all_plain select_all_unlisted answer h in
      items_answer answer (subst (λ (d : Database). IsAnswer (listing 4 [] both_columns by_path whole) (overlay d.trees []) [] answer) is (got.answer Null))

  pub front_found : (old : State) → old.now ≡ db → (given : List Row) → Begins select_all [] old given → (tail : List Row) × (given ++ tail ≡ map item_shown v.items)
  front_found old is given h =
      let got = begins_as select_all [] old old pid_schema (ap (λ (d : Database). d.schema) is ∙ shows.schema) _ select_all_is select_all_plain select_all_unlisted given h in
      let more = got.1 in
      (more.0, items_answer (given ++ more.0) (subst (λ (d : Database). IsAnswer (listing 4 [] both_columns by_path whole) (overlay d.trees []) [] (given ++ more.0)) is (more.1 Null)))

-- ---- the items between two texts

abbrev pub select_range : List ℕ
select_range = codes "SELECT path, name FROM item WHERE path > ?1 AND path < ?2 ORDER BY path"

select_range_alone : IsAlone pid_schema select_range (Select (program (listing 4 in_range both_columns by_path whole)) (codes "path" ∷ codes "name" ∷ [])) 2
unfolding understood everything
select_range_alone = refl

pub select_range_is : command_of (understood pid_schema select_range) ≡ Select (program (listing 4 in_range both_columns by_path whole)) (codes "path" ∷ codes "name" ∷ [])
select_range_is = command_alone pid_schema select_range _ 2 select_range_alone

pub select_range_plain : IsPlain (understood pid_schema select_range)
select_range_plain = plain_alone pid_schema select_range _ 2 select_range_alone

pub select_range_unlisted : reads_listing pid_schema select_range ≡ false
unfolding understood everything
select_range_unlisted = refl

range_one : (low high : List ℕ) → IsOneAs select_range (Text low ∷ Text high ∷ []) (understood pid_schema select_range)
range_one low high = one_alone select_range (Text low ∷ Text high ∷ []) (understood pid_schema select_range) _ select_range_alone

pub range_query : (low high : List ℕ) → IsQuery pid_schema select_range (Text low ∷ Text high ∷ [])
range_query low high = in_order pid_schema select_range (Text low ∷ Text high ∷ []) 4 in_range both_columns (codes "path" ∷ codes "name" ∷ []) (range_one low high) by_path whole select_range_is select_range_unlisted refl

module _ (db : Database) (c : Counts) (v : Views) (shows : ShowsCounting c db v) (low high : List ℕ) where
  abbrev params : Row
  params = Text low ∷ Text high ∷ []

  pub range_found : (old new : State) → old.now ≡ db → (answer : List Row) → Shown select_range params old new answer → answer ≡ map item_shown (filter (λ e. is_between low high e.0) v.items)
  range_found old new is answer h =
      let got = reads_as select_range params old new pid_schema (ap (λ (d : Database). d.schema) is ∙ shows.schema) _ select_range_is select_range_plain select_range_unlisted answer h in
      listed 4 in_range both_columns by_path whole params mark (filter (λ e. is_between low high e.0) v.items) (overlay db.trees []) (db.trees 4) answer (none_over db.trees 4)
      (items_stand in_range whole params db c v shows (λ e. is_between low high e.0) (hits_between low high))
      (subst (λ (d : Database). IsAnswer (listing 4 in_range both_columns by_path whole) (overlay d.trees []) params answer) is (got.answer Null))
