-- What a query of changes answers: items in the order of their paths, each with its number.
use Rattle.std.proofs.Common.{◌≡◌, inl, inr, ℕ, zero, suc, ℤ, ◌<◌, List, [], ◌∷◌, map, filter, take, Bool, true, false, not, cond, Option, Some, None, Ordering, Less, Equal, is_lt, refl, sym, ap, subst, ◌∙◌, codes, arith}
use Rattle.std.specs.Prelude.{◌&&◌, nat_lt, option_map, ◌^◌}
use Rattle.std.specs.List.{AllByRecursion}
use Rattle.std.specs.Ordering.{ordering_then}
use Rattle.std.specs.FinMap.Entries.{is_sorted, below_all}
use Rattle.std.proofs.lemmas.Bool.{and_parts, and_from, both_ways, not-true}
use Rattle.std.proofs.lemmas.Bool.Decides.{nat_tests}
use Rattle.std.proofs.lemmas.List.{take-map}
use Rattle.sqlite.specs.declared.types.Value.TheVariants.{Null, Int, Text}
use Rattle.sqlite.specs.Order.{Row, column, value_cmp}
use Rattle.sqlite.specs.Tree.{IsAscending, IsTable, rowid}
use Rattle.sqlite.specs.Term.{Term, col, op2}
use Rattle.sqlite.specs.Query.{IsAnswer, Output, output_cmp}
use Rattle.sqlite.specs.Program.{overlay}
use Rattle.sqlite.specs.Listing.{understood, reads_listing}
use Rattle.sqlite.specs.Command.TheVariants.{Select}
use Rattle.sqlite.specs.Collation.TheVariants.{Binary}
use Rattle.sqlite.specs.Effect.{Database, IsDatabase}
use Rattle.sqlite.specs.State.{State, Shown}
use Rattle.sqlite.proofs.Callers.{IsPlain, command_of, reads_as}
use Rattle.sqlite_tied.specs.Compute.{everything}
use Rattle.sqlite_sql.specs.declared.ops.BinaryOp.TheVariants.{Compare}
use Rattle.sqlite_sql.specs.declared.ops.CompareOp.TheVariants.{Gt}
use Rattle.sqlite_value.proofs.OrderLemmas.{value_cmp-Text}
use Rattle.sqlite_value.specs.Keys.{plain, first_key}
use Rattle.sqlite_rules.specs.Lists.{Has}
use Rattle.sqlite_rules.proofs.ListLemmas.{all_has, has_filtered, has_kept}
use Rattle.sqlite_schema.specs.Rules.{agree, clashes, equal, passes, Obeys}
use Rattle.sqlite_schema.specs.declared.schema.Constraint.TheVariants.{Unique}
use Rattle.pid_ident.specs.Trees.{text_cmp}
use Rattle.pid_moderation.specs.Items.{Items, name_at}
use Rattle.pid_moderation.specs.Views.{Views}
use Rattle.pid_tables.specs.declared.rows.schema_version.Version.TheVariants.{Two}
use Rattle.pid_tables.specs.Rows.Schema.{schema_of, pid_schema, item_since}
use Rattle.pid_tables.specs.Rows.Steps.Queries.{IsQuery}
use Rattle.pid_tables.specs.Rows.Shows.{Counts}
use Rattle.pid_tables.specs.Rows.Steps.Shows.{ShowsCounting}
use Rattle.pid_tables.specs.Rows.TableRows.{number, since_row}
use Rattle.pid_tables.proofs.OfRows.Lengths.{IsDistinct}
use Rattle.pid_tables.proofs.OfRows.MapLemmas.{none_over}
use Rattle.pid_tables.proofs.OfRows.OneRowEach.{below_differs, none_among, rising_apart}
use Rattle.pid_tables.proofs.OfRows.QueryTexts.{IsOneAs, one_alone, in_order}
use Rattle.pid_tables.proofs.OfRows.RangeLemmas.{above, found_in, found_at}
use Rattle.pid_tables.proofs.OfRows.Select.{passing, out, text_equal}
use Rattle.pid_tables.proofs.OfRows.Statements.{program, listing, IsAlone, command_alone, plain_alone}
use Rattle.pid_tables.proofs.OfRows.TurnLemmas.{hits}
use Rattle.pid_moderation.specs.ChangePages.{changes_in, is_later, numbered_in, AreHeld}
use Rattle.pid_tables.specs.Lists.Steps.ChangeRows.{since_shown, AreNamed, held}
use Rattle.pid_tables.proofs.OfLists.ItemLists.{both_columns, by_path, finer_distinct, kept_distinct, less_is}
use Rattle.pid_tables.proofs.OfLists.OrderedLemmas.{StandsFor, listed}
use Rattle.pid_tables.proofs.OfLists.PendingLists.{a_hundred, higher}

abbrev pub select_changes : List ℕ
select_changes = codes "SELECT path, since FROM item_since WHERE path > ?1 AND since > ?2 ORDER BY path LIMIT 100"

abbrev pub later : List Term
later = op2 (Compare Gt Binary) (col 1 1) (col 0 0) ∷ op2 (Compare Gt Binary) (col 1 2) (col 0 1) ∷ []

select_changes_alone : IsAlone pid_schema select_changes (Select (program (listing 11 later both_columns by_path a_hundred)) (codes "path" ∷ codes "since" ∷ [])) 2
unfolding understood everything
select_changes_alone = refl

pub select_changes_is : command_of (understood pid_schema select_changes) ≡ Select (program (listing 11 later both_columns by_path a_hundred)) (codes "path" ∷ codes "since" ∷ [])
select_changes_is = command_alone pid_schema select_changes _ 2 select_changes_alone

pub select_changes_plain : IsPlain (understood pid_schema select_changes)
select_changes_plain = plain_alone pid_schema select_changes _ 2 select_changes_alone

pub select_changes_unlisted : reads_listing pid_schema select_changes ≡ false
unfolding understood everything
select_changes_unlisted = refl

changes_one : (after : List ℕ) (floor : ℕ) → IsOneAs select_changes (Text after ∷ number floor ∷ []) (understood pid_schema select_changes)
changes_one after floor = one_alone select_changes (Text after ∷ number floor ∷ []) (understood pid_schema select_changes) _ select_changes_alone

pub changes_query : (after : List ℕ) (floor : ℕ) → IsQuery pid_schema select_changes (Text after ∷ number floor ∷ [])
changes_query after floor = in_order pid_schema select_changes (Text after ∷ number floor ∷ []) 11 later both_columns (codes "path" ∷ codes "since" ∷ []) (changes_one after floor) by_path a_hundred select_changes_is select_changes_unlisted refl

-- ---- a path has one row

agrees : (a b : Row) (k : List ℕ) → column a 1 ≡ Text k → column b 1 ≡ Text k → agree plain (1 ∷ []) a (1 ∷ []) b ≡ true
unfolding first_key
agrees a b k p q = (λ i. equal Binary (p i) (q i) && true) ∙ ap (λ t. t && true) (text_equal k)

since_keys_apart : (db : Database) → IsDatabase db → db.schema ≡ schema_of Two → IsTable (db.trees 11) → ((r : Row) → Has (db.trees 11) r → (id : ℤ) × (k : List ℕ) × (rowid r ≡ Int id) × (column r 1 ≡ Text k))
    → IsDistinct (map (λ r. column r 1) (db.trees 11))
since_keys_apart db sound has up keyed =
    let obeys : Obeys (schema_of Two) db.trees = subst (λ s. Obeys s db.trees) has sound.obeys in
    let passed : AllByRecursion (λ row. passes Unique (schema_of Two) db.trees item_since row ≡ true) (db.trees 11) = (obeys.rules Unique).1.1.1.1.1.1.0 in
    rising_apart (λ a b. value_cmp (rowid a) (rowid b) ≡ Less) (λ r. column r 1) (db.trees 11) up (λ a b p q less same.
    let ka = keyed a p in
    let kb = keyed b q in
    let clean : not (clashes plain (1 ∷ []) (db.trees 11) b) ≡ true = (and_parts _ _ (all_has _ (db.trees 11) b passed q)).0 in
    let none = none_among _ (db.trees 11) a (not-true _ clean) p in
    both_ways _ none (and_from _ _ (agrees a b kb.1 (same ∙ kb.3) kb.3) (below_differs (rowid a) (rowid b) ka.0 kb.0 ka.2 kb.2 less)))

-- ---- the rows that pass stand for the items

module _ (v : Views) where
  -- what an item is sorted by, and shown as
  abbrev pub since_mark : List ℕ × List ℕ → Output
  since_mark e = (Text e.0 ∷ [], Text e.0 ∷ number (v.since e.0) ∷ [])

two_tests : (a b : Bool) → (a && (b && true)) ≡ (a && b)
two_tests true true = refl
two_tests true false = refl
two_tests false b = refl

hits_later : (after : List ℕ) (floor : ℕ) (id : ℤ) (path : List ℕ) (n : ℕ) → hits later (Text after ∷ number floor ∷ []) (since_row id path n) ≡ (is_lt (text_cmp after path) && nat_lt floor n)
hits_later after floor id path n = (λ i. above path after i && (higher n floor i && true)) ∙ two_tests (is_lt (text_cmp after path)) (nat_lt floor n)

module _ (v : Views) (params : Row) where
  abbrev cmp : Output → Output → Ordering
  cmp = output_cmp (listing 11 later both_columns by_path a_hundred)

  mark_less : (a b : List ℕ × List ℕ) → is_lt (text_cmp a.0 b.0) ≡ true → cmp (since_mark v a) (since_mark v b) ≡ Less
  mark_less a b h = ap (λ o. ordering_then o Equal) (value_cmp-Text a.0 b.0 ∙ less_is _ h)

  marks_above : (f : List ℕ × List ℕ → Bool) (e : List ℕ × List ℕ) (items : Items) → below_all text_cmp e.0 items ≡ true → AllByRecursion (λ o. cmp (since_mark v e) o ≡ Less) (map (since_mark v) (filter f items))
  marks_above f e [] h = tt
  marks_above f e (i ∷ items) h =
      let parts = and_parts (is_lt (text_cmp e.0 i.0)) (below_all text_cmp e.0 items) h in
      elim (f i) as (λ b. AllByRecursion (λ o. cmp (since_mark v e) o ≡ Less) (map (since_mark v) (cond b (i ∷ filter f items) (filter f items)))) [
        | true ↦ (mark_less e i parts.0, marks_above f e items parts.1)
        | false ↦ marks_above f e items parts.1
      ]

  marks_rise : (f : List ℕ × List ℕ → Bool) (items : Items) → is_sorted text_cmp items ≡ true → IsAscending (λ a b. cmp a b ≡ Less) (map (since_mark v) (filter f items))
  marks_rise f [] h = tt
  marks_rise f (i ∷ items) h =
      let parts = and_parts (below_all text_cmp i.0 items) (is_sorted text_cmp items) h in
      elim (f i) as (λ b. IsAscending (λ a b. cmp a b ≡ Less) (map (since_mark v) (cond b (i ∷ filter f items) (filter f items)))) [
        | true ↦ (marks_above f i items parts.0, marks_rise f items parts.1)
        | false ↦ marks_rise f items parts.1
      ]

numbered : (n : ℕ) (o : Option (List ℕ)) (since : ℕ) → option_map (λ name. since) o ≡ Some n → (name : List ℕ) × (o ≡ Some name) × (since ≡ n)
numbered n None since h = absurd (let bad : ⊥ = cc in bad)
numbered n (Some name) since h = (name, refl, cc)

module _ (db : Database) (c : Counts) (v : Views) (shows : ShowsCounting c db v) (floor : ℕ) (after : List ℕ) where
  abbrev params : Row
  params = Text after ∷ number floor ∷ []

  changes_stand : StandsFor 11 later both_columns by_path a_hundred params (since_mark v) (filter (is_later floor after v) v.items) (db.trees 11)
  changes_stand = record {
    each = λ r h.
        let kept = has_filtered (hits later params) (db.trees 11) r h in
        let pair = shows.sinces.sound r kept.0 in
        let it = numbered pair.value (name_at pair.key v.items) (v.since pair.key) pair.maps in
        let row_is : r ≡ since_row pair.id pair.key (v.since pair.key) = pair.is ∙ ap (since_row pair.id pair.key) (sym it.2) in
        let is : is_later floor after v (pair.key, it.0) ≡ true = sym (hits_later after floor pair.id pair.key (v.since pair.key)) ∙ subst (λ x. hits later params x ≡ true) row_is kept.1 in
        ((pair.key, it.0), has_kept (is_later floor after v) v.items (pair.key, it.0) (found_in pair.key it.0 v.items it.1) is, ap (out 11 later both_columns by_path a_hundred params) row_is);
    there = λ e h.
        let kept = has_filtered (is_later floor after v) v.items e h in
        let pair = shows.sinces.complete e.0 (v.since e.0) (ap (option_map (λ name. v.since e.0)) (found_at v.items e shows.views.sorted kept.0)) in
        (since_row pair.0 e.0 (v.since e.0), has_kept (hits later params) (db.trees 11) (since_row pair.0 e.0 (v.since e.0)) pair.1 (hits_later after floor pair.0 e.0 (v.since e.0) ∙ kept.1), refl);
    apart =
        let keys = since_keys_apart db shows.sound shows.schema shows.sinces.ordered (λ r h. let pair = shows.sinces.sound r h in (pair.id, pair.key, ap rowid pair.is, ap (λ x. column x 1) pair.is)) in
        finer_distinct (λ r. column r 1) (out 11 later both_columns by_path a_hundred params) (passing later params (db.trees 11)) (λ x y same. ap (λ (o : Output). column o.0 0) same)
        (kept_distinct (λ r. column r 1) (hits later params) (db.trees 11) keys);
    rises = marks_rise v params (is_later floor after v) v.items shows.views.sorted;
  }

  pub changes_found : (old new : State) → old.now ≡ db → (answer : List Row) → Shown select_changes (Text after ∷ number floor ∷ []) old new answer
      → answer ≡ map since_shown (changes_in 100 floor after v).items
  changes_found old new is answer h =
      let got = reads_as select_changes params old new pid_schema (ap (λ (d : Database). d.schema) is ∙ shows.schema) _ select_changes_is select_changes_plain select_changes_unlisted answer h in
      listed 11 later both_columns by_path a_hundred params (since_mark v) (filter (is_later floor after v) v.items) (overlay db.trees []) (db.trees 11) answer (none_over db.trees 11) changes_stand
      (subst (λ (d : Database). IsAnswer (listing 11 later both_columns by_path a_hundred) (overlay d.trees []) params answer) is (got.answer Null))
      ∙ first_of 100 (filter (is_later floor after v) v.items)
    where
      first_of : (k : ℕ) (xs : Items) → take k (map (λ e. (since_mark v e).1) xs) ≡ map since_shown (take k (map (numbered_in v) xs))
      first_of zero xs = refl
      first_of (suc k) [] = refl
      first_of (suc k) (x ∷ xs) = ap (λ l. (since_mark v x).1 ∷ l) (first_of k xs)

-- ---- what is in a page

named_all : (v : Views) (xs : Items) → ((e : List ℕ × List ℕ) → Has xs e → name_at e.0 v.items ≡ Some e.1) → AreNamed v (map (numbered_in v) xs)
named_all v [] there = tt
named_all v (x ∷ xs) there = (there x (inl refl), named_all v xs (λ e h. there e (inr h)))

taken_has : (k : ℕ) (xs : Items) (e : List ℕ × List ℕ) → Has (take k xs) e → Has xs e
taken_has zero xs e h = absurd h
taken_has (suc k) [] e h = absurd h
taken_has (suc k) (x ∷ xs) e (inl same) = inl same
taken_has (suc k) (x ∷ xs) e (inr later) = inr (taken_has k xs e later)

-- each item of a page has its name
pub changes_named : (v : Views) (most since : ℕ) (after : List ℕ) → is_sorted text_cmp v.items ≡ true → AreNamed v (changes_in most since after v).items
changes_named v most since after sorted =
    let changed = filter (is_later since after v) v.items in
    subst (AreNamed v) (sym (take-map (numbered_in v) most changed))
    (named_all v (take most changed) (λ e h. found_at v.items e sorted (has_filtered (is_later since after v) v.items e (taken_has most changed e h)).0))

same_above : (since n : ℕ) → n < 2 ^ 63 → nat_lt (held since) n ≡ nat_lt since n
same_above since n low = grind (arith, nat_tests)

-- of numbers that SQLite holds, none is above one that it does not hold
pub changes_held : (v : Views) (most since : ℕ) (after : List ℕ) → AreHeld v → changes_in most (held since) after v ≡ changes_in most since after v
changes_held v most since after low = λ i. record { revision = v.revision; items = take most (map (numbered_in v) (filter (λ e. is_lt (text_cmp after e.0) && same_above since (v.since e.0) (low e.0) i) v.items)) }
