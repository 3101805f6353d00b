-- Queries and writes by key on a table that keeps a map, in any schema.
use Rattle.std.proofs.Common.{◌≡◌, ◌≢◌, ◌⊎◌, inl, inr, ℕ, ℤ, List, [], ◌∷◌, ◌++◌, map, drop, slice_get, length, Bool, true, false, cond, None, Some, Option, Ok, refl, sym, ap, subst, ◌∙◌}
use Rattle.std.specs.Prelude.{option_map, nat_le, unwrap_or, ◌-◌, ◌^◌, ◌/◌}
use Rattle.std.specs.List.{AllByRecursion}
use Rattle.std.proofs.lemmas.Bool.{both_ways, false_from_ne_true}
use Rattle.std.specs.List.Sorted.{IsPermutation}
use Rattle.std.proofs.lemmas.List.Sorted.{IsPermutation-sym}
use Rattle.sqlite.specs.Tree.{Trees, rowid}
use Rattle.sqlite.specs.Order.{Row, column}
use Rattle.sqlite.specs.declared.types.Value.TheVariants.{Null, Int}
use Rattle.sqlite.specs.Term.{Term, col}
use Rattle.sqlite.specs.Table.{Table}
use Rattle.sqlite.specs.Source.TheVariants.{Values}
use Rattle.sqlite.specs.Cast.{cast_row}
use Rattle.sqlite.specs.Edit.{numbered, edit_of, without_all}
use Rattle.sqlite.specs.Query.{IsAnswer}
use Rattle.sqlite.specs.Program.{overlay}
use Rattle.sqlite.specs.Effect.{IsDatabase, value_rows}
use Rattle.sqlite.specs.State.{State, Executes, Shown}
use Rattle.sqlite.proofs.Callers.{reads_as}
use Rattle.sqlite_rules.specs.Lists.{Has}
use Rattle.sqlite_rules.specs.declared.error.Rowids.TheVariants.{Chosen}
use Rattle.sqlite_rules.specs.Calls.{ids_of}
use Rattle.sqlite_rules.proofs.ListLemmas.{has_filtered, has_kept}
use Rattle.sqlite_rules.proofs.ProbeLemmas.{mapped_has}
use Rattle.sqlite_rules.proofs.PlaceLemmas.{given as given_rows}
use Rattle.sqlite.specs.Schema.{Schema}
use Rattle.sqlite_schema.specs.declared.schema.Keys.TheVariants.{Enforced}
use Rattle.pid_tables.specs.Rows.PairRows.{Map, RowsAre}
use Rattle.pid_tables.proofs.OfRows.Statements.{simple, program, IsSelect, IsInsert, IsUpdate}
use Rattle.pid_tables.proofs.OfRows.Select.{passing, shown, simple_rows}
use Rattle.pid_tables.proofs.OfRows.WriteLemmas.{IsPlainTable, UpdatesAlone}
use Rattle.pid_tables.proofs.OfRows.RanLemmas.{Makes, ran_insert, ran_update}
use Rattle.pid_tables.proofs.OfRows.TurnLemmas.{AreKeyed, hits, Turns, turns_insert, turns_hit, has_mapped, permuted}

nil_or_first : {X : Type 0} (xs : List X) → (xs ≡ []) ⊎ ((x : X) × Has xs x × (slice_get xs 0 ≡ Some x))
nil_or_first [] = inl refl
nil_or_first (x ∷ xs) = inr (x, inl refl, refl)

pub some_same : {X : Type 0} {x y : X} → ◌≡◌ {A = Option X} (Some x) (Some y) → x ≡ y
some_same e = cc

-- the tests find the row of the key that the first parameters are, and no other
pub record Finds {K V : Type 0} (row : ℤ → K → V → Row) (tests : List Term) (given : K → Row) : Type 0 where
  pub decides : (a b : K) → (a ≡ b) ⊎ (a ≢ b)
  pub has_id : (id : ℤ) (k : K) (v : V) → (i : ℤ) × (rowid (row id k v) ≡ Int i)
  pub hit : (id : ℤ) (k : K) (v : V) (more : Row) → hits tests (given k ++ more) (row id k v) ≡ true
  pub only : (id : ℤ) (k l : K) (v : V) (more : Row) → hits tests (given k ++ more) (row id l v) ≡ true → l ≡ k

-- one key of the map is set, or taken out
pub record Sets {K V : Type 0} (m : Map K V) (key : K) (value : Option V) (next : Map K V) : Type 0 where
  pub at : next key ≡ value
  pub past : (k : K) → k ≢ key → next k ≡ m k

-- the table shows the map, and each other table is as it was
pub record Wrote {K V : Type 0} (schema : Schema) (row : ℤ → K → V → Row) (table : Table) (old new : State) (m : Map K V) : Type 0 where
  pub schema_is : new.now.schema ≡ schema
  pub sound : IsDatabase new.now
  pub rows : RowsAre row m (new.now.trees table.tree)
  pub others : AllByRecursion (λ (t : Table). t.tree ≢ table.tree → new.now.trees t.tree ≡ old.now.trees t.tree) schema.tables

pub none_over : (db : Trees) (t : ℕ) → overlay db [] t ≡ db t
none_over db t = elim (nat_le (2 ^ 31) t) as (λ b. unwrap_or (cond b (slice_get [] (t - 2 ^ 31)) None) (db t) ≡ db t) [ true ↦ refl | false ↦ refl ]

module _ {K V : Type 0} (row : ℤ → K → V → Row) (tests : List Term) (given : K → Row) (it : Finds row tests given) (m : Map K V) (key : K) where
  module _ (rows : List Row) (are : RowsAre row m rows) (more : Row) where
    abbrev params : Row
    params = given key ++ more

    -- a row that passes stands for the key's value
    pub passes_for : (r : Row) → Has (passing tests params rows) r → (id : ℤ) × (v : V) × (r ≡ row id key v) × (m key ≡ Some v)
    passes_for r h =
        let kept = has_filtered _ rows r h in
        let pair = are.sound r kept.0 in
        let same = it.only pair.id key pair.key pair.value more (subst (λ x. hits tests params x ≡ true) pair.is kept.1) in
        subst (λ k. (id : ℤ) × (v : V) × (r ≡ row id k v) × (m k ≡ Some v)) same (pair.id, pair.value, pair.is, pair.maps)

    pub has_passing : (v : V) → m key ≡ Some v → (id : ℤ) × Has (passing tests params rows) (row id key v)
    has_passing v is =
        let pair = are.complete key v is in
        (pair.0, has_kept _ rows (row pair.0 key v) pair.1 (it.hit pair.0 key v more))

    -- the first row of the answer shows the key's value
    pub first_is : (project : List Term) (out : V → Row) → ((id : ℤ) (v : V) → shown project params (row id key v) ≡ out v) → (answer : List Row)
        → IsPermutation (map (shown project params) (passing tests params rows)) answer → slice_get answer 0 ≡ option_map out (m key)
    first_is project out outs answer same = elim (nil_or_first answer) [
      | inl none ↦ go (m key) refl none
      | inr some ↦
          let back = has_mapped _ _ some.0 (permuted answer _ some.0 (IsPermutation-sym _ _ same) some.1) in
          let found = passes_for back.0 back.1 in
          some.2 ∙ ap Some back.2 ∙ ap (λ r. Some (shown project params r)) found.2 ∙ ap Some (outs found.0 found.1) ∙ ap (option_map out) (sym found.3)
    ]
      where
        go : (o : Option V) → m key ≡ o → answer ≡ [] → slice_get answer 0 ≡ option_map out o
        go None is none = rw none
        go (Some v) is none = absurd (
            let there = has_passing v is in
            subst (λ xs. Has xs (shown project params (row there.0 key v))) none (permuted (map (shown project params) (passing tests params rows)) answer (shown project params (row there.0 key v)) same (mapped_has (shown project params) (passing tests params rows) (row there.0 key v) there.1)))

    pub own_hits : (id : ℤ) (k : K) (v : V) → hits tests params (row id k v) ≡ false → k ≢ key
    own_hits id k v miss same = both_ways _ miss (subst (λ q. hits tests (given q ++ more) (row id k v) ≡ true) same (it.hit id k v more))

    pub others_miss : (id : ℤ) (k : K) (v : V) → k ≢ key → hits tests params (row id k v) ≡ false
    others_miss id k v other = false_from_ne_true _ (λ passed. other (it.only id key k v more passed))

  pub pairs_set : (value : Option V) (after : Map K V) → Sets m key value after → (rows next news : List Row) (hit : Row → Bool) → RowsAre row m rows → Turns rows next news hit
      → ((x : Row) → Has news x → (id : ℤ) × (v : V) × (x ≡ row id key v) × (value ≡ Some v))
      → ((v : V) → value ≡ Some v → (id : ℤ) × Has news (row id key v))
      → ((id : ℤ) (k : K) (v : V) → m k ≡ Some v → hit (row id k v) ≡ false → k ≢ key)
      → ((id : ℤ) (k : K) (v : V) → k ≢ key → hit (row id k v) ≡ false)
      → RowsAre row after next
  pairs_set value after sets rows next news hit are turns each some missed others = record {
    ordered = turns.ordered;
    sound = λ x h. elim (turns.from x h) [
      | inl new ↦ let made = each x new in record { id = made.0; key = key; value = made.1; is = made.2; maps = sets.at ∙ made.3 }
      | inr was ↦
          let pair = are.sound x was.0 in
          let other = missed pair.id pair.key pair.value pair.maps (ap hit (sym pair.is) ∙ was.1) in
          record { id = pair.id; key = pair.key; value = pair.value; is = pair.is; maps = sets.past pair.key other ∙ pair.maps }
    ];
    complete = λ k v maps. elim (it.decides k key) [
      | inl is ↦
          let there = some v (sym (ap after is ∙ sets.at) ∙ maps) in
          (there.0, turns.added _ (subst (λ q. Has news (row there.0 q v)) (sym is) there.1))
      | inr other ↦
          let there = are.complete k v (sym (sets.past k other) ∙ maps) in
          (there.0, turns.stays _ there.1 (others there.0 k v other))
    ];
  }

  module _ (schema : Schema) (table : Table) (at : ℕ) (here : slice_get schema.tables at ≡ Some table) (plain : IsPlainTable table) (old new : State) (has : old.now.schema ≡ schema)
      (are : RowsAre row m (old.now.trees table.tree)) where
    abbrev rows : List Row
    rows = old.now.trees table.tree

    keyed : AreKeyed rows
    keyed r h = let pair = are.sound r h in let id = it.has_id pair.id pair.key pair.value in (id.0, ap (λ x. column x 0) pair.is ∙ id.1)

    matched : (params : Row) (project : List Term) (answer : List Row) → IsAnswer (simple table.tree tests project) (overlay old.now.trees []) params answer
        → IsPermutation (map (shown project params) (passing tests params rows)) answer
    matched params project answer a =
        subst (λ xs. IsPermutation (map (shown project params) (passing tests params xs)) answer) (none_over old.now.trees table.tree)
        (simple_rows table.tree tests project (overlay old.now.trees []) params answer a)

    pub map_found : (sql : List ℕ) (names : List (List ℕ)) (project : List Term) → IsSelect schema table.tree tests project sql names → (out : V → Row)
        → ((id : ℤ) (v : V) → shown project (given key ++ []) (row id key v) ≡ out v) → (answer : List Row) → Shown sql (given key ++ []) old new answer → slice_get answer 0 ≡ option_map out (m key)
    map_found sql names project s out outs answer h =
        let got = reads_as sql (given key ++ []) old new schema has _ s.is s.plain s.unlisted answer h in
        first_is rows are [] project out outs answer (matched (given key ++ []) project answer (got.answer Null))

    pub map_added : (sql : List ℕ) (terms : List Term) (width : ℕ) → IsInsert schema at terms width sql → (more source : Row) → value_rows (given key ++ more) width (length terms / width) terms ≡ source ∷ []
        → (v : V) → ((rs : List Row) → (id : ℤ) × (numbered Chosen rs (cast_row table source ∷ []) ≡ row id key v ∷ [])) → (after : Map K V) → Sets m key (Some v) after
        → (count : ℕ) → m key ≡ None → Executes sql (given key ++ more) old new (Ok count) → Wrote schema row table old new after
    map_added sql terms width s more source one v numbers after sets count none h =
        let ran = ran_insert schema sql (given key ++ more) old new has at table here plain s.plain count h (Values terms width) s.is in
        let makes = subst (λ xs. Makes schema old new (edit_of old.now.trees table [] Chosen 0 xs)) (ran.1.1 ∙ one) ran.2 in
        let id = numbers rows in
        let next = new.now.trees table.tree in
        let turns = subst (λ news. Turns rows next news (λ _. false)) id.1 (turns_insert rows next _ are.ordered makes.applies.fresh makes.applies.rows) in
        record {
          schema_is = makes.schema_is;
          sound = makes.sound;
          rows = pairs_set (Some v) after sets rows next (row id.0 key v ∷ []) (λ _. false) are turns (λ x one. elim one [ inl is ↦ (id.0, v, is, refl) | inr more ↦ absurd more ])
              (λ w e. (id.0, inl (ap (row id.0 key) (sym (some_same e))))) (λ i k w maps miss same. absurd (let e = sym none ∙ ap m (sym same) ∙ maps in cc)) (λ i k w other. refl);
          others = makes.applies.tables;
        }

    pub map_changed : (sql : List ℕ) (change : List Term) → IsUpdate schema at table.tree tests change sql → UpdatesAlone schema Enforced table old.now.trees → (more : Row) (was v : V)
        → ((id : ℤ) → cast_row table (drop 1 (shown (col 1 0 ∷ change) (given key ++ more) (row id key was))) ≡ row id key v) → (after : Map K V) → Sets m key (Some v) after
        → (count : ℕ) → m key ≡ Some was → Executes sql (given key ++ more) old new (Ok count) → Wrote schema row table old new after
    map_changed sql change s quiet more was v put after sets count some h =
        let params = given key ++ more in
        let ran = ran_update schema sql params old new has at table here plain s.plain count h (program (simple table.tree tests (col 1 0 ∷ change))) s.is quiet in
        let next = new.now.trees table.tree in
        let same = matched params (col 1 0 ∷ change) ran.0 (ran.1.answer Null) in
        let news = map (λ s. cast_row table (drop 1 s)) ran.0 in
        let turns0 = turns_hit tests change params rows ran.0 are.ordered keyed same next _ ran.2.applies.fresh ran.2.applies.rows in
        let turns = subst (λ xs. Turns rows next xs (hits tests params)) (given_rows (without_all rows (ids_of ran.0)) news) turns0 in
        let out = shown (col 1 0 ∷ change) params in
        record {
          schema_is = ran.2.schema_is;
          sound = ran.2.sound;
          rows = pairs_set (Some v) after sets rows next news (hits tests params) are turns
              (λ x one.
              let s = has_mapped (λ s. cast_row table (drop 1 s)) ran.0 x one in
              let r = has_mapped out (passing tests params rows) s.0 (permuted ran.0 _ s.0 (IsPermutation-sym _ _ same) s.1) in
              let found = passes_for rows are more r.0 r.1 in
              let value : found.1 ≡ was = some_same (sym found.3 ∙ some) in
              (found.0, v, s.2 ∙ ap (λ a. cast_row table (drop 1 a)) (r.2 ∙ ap out (found.2 ∙ ap (row found.0 key) value)) ∙ put found.0, refl))
              (λ w e.
              let found = has_passing rows are more was some in
              let there = mapped_has (λ s. cast_row table (drop 1 s)) ran.0 _ (permuted _ ran.0 _ same (mapped_has out (passing tests params rows) (row found.0 key was) found.1)) in
              (found.0, subst (Has news) (put found.0 ∙ ap (row found.0 key) (some_same e)) there))
              (λ i k w maps miss. own_hits rows are more i k w miss) (λ i k w other. others_miss rows are more i k w other);
          others = ran.2.applies.tables;
        }
