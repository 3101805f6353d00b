-- DELETE FROM item WHERE path = ?1, as the two tables show it afterwards.
use Rattle.std.proofs.Common.{◌≡◌, ◌≢◌, inl, inr, ℕ, ℤ, List, [], ◌∷◌, map, true, None, Some, Ok, refl, sym, ap, subst, ◌∙◌, arith, true≢false}
use Rattle.std.specs.List.{AllByRecursion, list_any}
use Rattle.std.specs.List.Sorted.{IsPermutation}
use Rattle.std.proofs.lemmas.List.Sorted.{IsPermutation-sym}
use Rattle.std.proofs.lemmas.Bool.{and_parts, and_from}
use Rattle.sqlite.specs.Tree.{Trees, rowid}
use Rattle.sqlite.specs.Order.{Row}
use Rattle.sqlite.specs.Table.{Table}
use Rattle.sqlite.specs.declared.types.Value.TheVariants.{Null, Int, Text}
use Rattle.sqlite.specs.Ops.{binary}
use Rattle.sqlite.specs.Term.{Term, col}
use Rattle.sqlite.specs.Edit.{edit_of, row_at, without_all, id_in, Applies}
use Rattle.sqlite.specs.Program.{overlay}
use Rattle.sqlite.specs.State.{State, Executes}
use Rattle.sqlite.specs.Effect.{IsDatabase}
use Rattle.sqlite_schema.specs.declared.schema.Keys.TheVariants.{Enforced}
use Rattle.sqlite_value.specs.Keys.{plain, first_key}
use Rattle.sqlite_rules.specs.declared.error.Rowids.TheVariants.{Given}
use Rattle.sqlite_rules.specs.Action.{pairs, loses, is_child_of, AreChildren}
use Rattle.sqlite_rules.specs.Calls.{ids_of}
use Rattle.sqlite_rules.specs.Lists.{Has}
use Rattle.sqlite_rules.proofs.ListLemmas.{some_has, some_from, has_filtered}
use Rattle.sqlite_rules.proofs.ProbeLemmas.{mapped_has}
use Rattle.sqlite_rules.proofs.PlaceLemmas.{left_or_taken, row_at_is}
use Rattle.sqlite_rules.proofs.TableLemmas.{without_all_has}
use Rattle.pid_tables.specs.declared.rows.schema_version.Version.TheVariants.{Two}
use Rattle.pid_tables.specs.Rows.Schema.{schema_of, item}
use Rattle.pid_tables.specs.Rows.PairRows.{Map, RowsAre}
use Rattle.pid_tables.specs.Rows.TableRows.{item_row, since_row}
use Rattle.pid_tables.proofs.OfRows.Select.{passing, shown, simple_rows, text_equal, texts_equal}
use Rattle.pid_tables.proofs.OfRows.Statements.{program, simple}
use Rattle.pid_tables.proofs.OfRows.StatementTexts.{delete_item}
use Rattle.pid_tables.proofs.OfRows.KeyTexts.{by_first, delete_item_is}
use Rattle.pid_tables.proofs.OfRows.Keys.{item_found, item_plain, texts_decided}
use Rattle.pid_tables.proofs.OfRows.MapLemmas.{Sets, none_over, passes_for, has_passing, pairs_set, own_hits, others_miss}
use Rattle.pid_tables.proofs.OfRows.TurnLemmas.{AreKeyed, hits, has_mapped, permuted, turns_hit, IsTable-without_all, left_lacks, own_rowid}
use Rattle.pid_tables.proofs.OfRows.RanLemmas.{ran_delete}
use Rattle.pid_tables.proofs.OfRows.SinceCascade.{work_of, lost, Cascaded, two_steps}

-- ---- which row of item_since is a child of which item

lost_itself : (id : ℤ) (path name : List ℕ) → loses plain (1 ∷ []) (item_row id path name, []) ≡ true
unfolding first_key binary
lost_itself id path name = and_from _ _ (and_from _ _ (text_equal path) refl) refl

child_from : (n : ℕ) (sid id : ℤ) (path name : List ℕ) (moves : List (Row × Row)) → is_child_of (work_of moves) (since_row sid path n) (item_row id path name, []) ≡ true
unfolding first_key
child_from n sid id path name moves = and_from _ _ (lost_itself id path name) (and_from _ _ (text_equal path) refl)

child_is : (n : ℕ) (sid id : ℤ) (p path name : List ℕ) (moves : List (Row × Row)) → is_child_of (work_of moves) (since_row sid p n) (item_row id path name, []) ≡ true → p ≡ path
unfolding first_key
child_is n sid id p path name moves h = texts_equal p path (and_parts _ _ (and_parts _ _ h).1).0

pair_of : (olds : List Row) (x : Row) → Has olds x → Has (pairs olds []) (x, [])
pair_of [] x h = absurd h
pair_of (o ∷ olds) x (inl same) = inl (ap (λ r. (r, [])) same)
pair_of (o ∷ olds) x (inr later) = inr (pair_of olds x later)

of_pair : (olds : List Row) (move : Row × Row) → Has (pairs olds []) move → (x : Row) × Has olds x × (move ≡ (x, []))
of_pair [] move h = absurd h
of_pair (o ∷ olds) move (inl same) = (o, inl refl, same)
of_pair (o ∷ olds) move (inr later) = let it = of_pair olds move later in (it.0, inr it.1, it.2)

-- ---- the rows of item_since afterwards

module _ (items : Map (List ℕ) (List ℕ)) (since : Map (List ℕ) ℕ) (key : List ℕ) (olds : List Row) (mid next : Trees) (are : RowsAre since_row since (mid 11))
    (old_is : (x : Row) → Has olds x → (id : ℤ) × (name : List ℕ) × (x ≡ item_row id key name))
    (old_has : (name : List ℕ) → items key ≡ Some name → (id : ℤ) × Has olds (item_row id key name))
    (only_items : (p : List ℕ) (n : ℕ) → since p ≡ Some n → (name : List ℕ) × (items p ≡ Some name)) where
  abbrev moves : List (Row × Row)
  moves = pairs olds []

  -- whoever is hit has the key
  hit_is : (sid : ℤ) (p : List ℕ) (n : ℕ) → list_any (is_child_of (work_of moves) (since_row sid p n)) moves ≡ true → p ≡ key
  hit_is sid p n h =
      let m = some_has (is_child_of (work_of moves) (since_row sid p n)) moves h in
      let old = of_pair olds m.0 m.1 in
      let it = old_is old.0 old.1 in
      child_is n sid it.0 p key it.1 moves (subst (λ move. is_child_of (work_of moves) (since_row sid p n) move ≡ true) (old.2 ∙ ap (λ r. (r, [])) it.2) m.2)

  -- and the row of the key is hit
  is_hit : (sid : ℤ) (n : ℕ) → since key ≡ Some n → list_any (is_child_of (work_of moves) (since_row sid key n)) moves ≡ true
  is_hit sid n maps =
      let name = only_items key n maps in
      let old = old_has name.0 name.1 in
      some_from (is_child_of (work_of moves) (since_row sid key n)) moves (item_row old.0 key name.0, []) (pair_of olds _ old.1) (child_from n sid old.0 key name.0 moves)

  is_lost : (n : ℕ) → since key ≡ Some n → lost olds ≡ true
  is_lost n maps =
      let name = only_items key n maps in
      let old = old_has name.0 name.1 in
      some_from (loses plain (1 ∷ [])) moves (item_row old.0 key name.0, []) (pair_of olds _ old.1) (lost_itself old.0 key name.0)

  -- where the key has no row, nothing is to go
  untouched : (after : Map (List ℕ) ℕ) → Sets since key None after → ((n : ℕ) → since key ≡ Some n → ⊥) → RowsAre since_row after (mid 11)
  untouched after sets none = record {
    ordered = are.ordered;
    sound = λ x h.
        let pair = are.sound x h in
        record { id = pair.id; key = pair.key; value = pair.value; is = pair.is; maps = sets.past pair.key (λ same. none pair.value (ap since (sym same) ∙ pair.maps)) ∙ pair.maps };
    complete = λ p n maps. elim (texts_decided p key) [
      | inl same ↦ absurd (let bad : None ≡ Some n = sym sets.at ∙ ap after (sym same) ∙ maps in cc)
      | inr other ↦ are.complete p n (sym (sets.past p other) ∙ maps)
    ];
  }

  gone : (after : Map (List ℕ) ℕ) → Sets since key None after → (ids : List ℤ) → AreChildren mid (work_of moves) ids → next 11 ≡ without_all (mid 11) ids → RowsAre since_row after (next 11)
  gone after sets ids children is = subst (RowsAre since_row after) (sym is) (record {
    ordered = IsTable-without_all ids (mid 11) are.ordered;
    sound = λ x h.
        let pair = are.sound x (without_all_has ids (mid 11) x h) in
        let id : rowid x ≡ Int pair.id = ap rowid pair.is in
        let other : pair.key ≢ key = (λ same.
        let maps : since key ≡ Some pair.value = ap since (sym same) ∙ pair.maps in
        let row : x ≡ since_row pair.id key pair.value = pair.is ∙ ap (λ k. since_row pair.id k pair.value) same in
        let hit = subst (λ r. list_any (is_child_of (work_of moves) r) moves ≡ true) (sym row) (is_hit pair.id pair.value maps) in
        left_lacks ids (mid 11) pair.id x (children.complete x pair.id (without_all_has ids (mid 11) x h) hit id) (own_rowid pair.id x id) h) in
        record { id = pair.id; key = pair.key; value = pair.value; is = pair.is; maps = sets.past pair.key other ∙ pair.maps };
    complete = λ p n maps. elim (texts_decided p key) [
      | inl same ↦ absurd (let bad : None ≡ Some n = sym sets.at ∙ ap after (sym same) ∙ maps in cc)
      | inr other ↦
          let there = are.complete p n (sym (sets.past p other) ∙ maps) in
          let x = since_row there.0 p n in (
            there.0,
            elim (left_or_taken (mid 11) ids x are.ordered there.1) [
              | inl left ↦ left
              | inr taken ↦ absurd (
                  let id = has_mapped (row_at (mid 11)) ids x taken in
                  let r = children.sound id.0 id.1 in
                  let same = row_at_is (mid 11) id.0 r.0 are.ordered r.1 (own_rowid id.0 r.0 r.3) in
                  let row : r.0 ≡ x = sym same ∙ sym id.2 in
                  other (hit_is there.0 p n (subst (λ y. list_any (is_child_of (work_of moves) y) moves ≡ true) row r.2)))
            ],
          )
    ];
  })

pub record Removed (old new : State) (items : Map (List ℕ) (List ℕ)) (since : Map (List ℕ) ℕ) : Type 0 where
  pub schema : new.now.schema ≡ schema_of Two
  pub sound : IsDatabase new.now
  pub of_items : RowsAre item_row items (new.now.trees 4)
  pub of_since : RowsAre since_row since (new.now.trees 11)
  pub others : AllByRecursion (λ (t : Table). t.tree ≢ 4 → t.tree ≢ 11 → new.now.trees t.tree ≡ old.now.trees t.tree) (schema_of Two).tables

module _ (old new : State) (items after_items : Map (List ℕ) (List ℕ)) (since after_since : Map (List ℕ) ℕ) (key : List ℕ) (has : old.now.schema ≡ schema_of Two)
    (are_items : RowsAre item_row items (old.now.trees 4)) (are_since : RowsAre since_row since (old.now.trees 11))
    (only_items : (p : List ℕ) (n : ℕ) → since p ≡ Some n → (name : List ℕ) × (items p ≡ Some name))
    (sets_items : Sets items key None after_items) (sets_since : Sets since key None after_since)
    (count : ℕ) (h : Executes delete_item (Text key ∷ []) old new (Ok count)) where
  abbrev stored : List Row
  stored = old.now.trees 4

  abbrev params : Row
  params = Text key ∷ []

  abbrev ids_only : List Term
  ids_only = col 1 0 ∷ []

  keyed : AreKeyed stored
  keyed r there = let pair = are_items.sound r there in (pair.id, ap rowid pair.is)

  module _ (answer : List Row) (same : IsPermutation (map (shown ids_only params) (passing by_first params stored)) answer) where
    abbrev olds : List Row
    olds = map (row_at stored) (ids_of answer)

    old_is : (x : Row) → Has olds x → (id : ℤ) × (name : List ℕ) × (x ≡ item_row id key name)
    old_is x there =
        let id = has_mapped (row_at stored) (ids_of answer) x there in
        let a = has_mapped (λ a. id_in (rowid a)) answer id.0 id.1 in
        let r = has_mapped (shown ids_only params) (passing by_first params stored) a.0 (permuted answer _ a.0 (IsPermutation-sym _ _ same) a.1) in
        let found = passes_for item_row by_first (λ k. Text k ∷ []) item_found items key stored are_items [] r.0 r.1 in
        let id_is : id.0 ≡ found.0 = a.2 ∙ ap (λ out. id_in (rowid out)) r.2 ∙ ap (λ row. id_in (rowid (shown ids_only params row))) found.2 in
        let row = row_at_is stored id.0 r.0 are_items.ordered (has_filtered (hits by_first params) stored r.0 r.1).0 (own_rowid id.0 r.0 (ap rowid found.2 ∙ ap Int (sym id_is))) in
        (found.0, found.1, id.2 ∙ row ∙ found.2)

    old_has : (name : List ℕ) → items key ≡ Some name → (id : ℤ) × Has olds (item_row id key name)
    old_has name maps =
        let p = has_passing item_row by_first (λ k. Text k ∷ []) item_found items key stored are_items [] name maps in
        let row = item_row p.0 key name in
        let a = permuted _ answer (shown ids_only params row) same (mapped_has (shown ids_only params) (passing by_first params stored) row p.1) in
        let id : Has (ids_of answer) p.0 = mapped_has (λ a. id_in (rowid a)) answer (shown ids_only params row) a in
        let at = row_at_is stored p.0 row are_items.ordered (has_filtered (hits by_first params) stored row p.1).0 (own_rowid p.0 row refl) in
        (p.0, subst (Has olds) at (mapped_has (row_at stored) (ids_of answer) p.0 id))

    module _ (mid next : Trees) (first : Applies (schema_of Two) Enforced old.now.trees (edit_of old.now.trees item (ids_of answer) Given 0 []) mid) where
      items_gone : RowsAre item_row after_items (mid 4)
      items_gone =
          let turns = turns_hit by_first [] params stored answer are_items.ordered keyed same (mid 4) [] first.fresh first.rows in
          pairs_set item_row by_first (λ k. Text k ∷ []) item_found items key None after_items sets_items stored (mid 4) [] (hits by_first params) are_items turns
          (λ x one. absurd one) (λ w e. absurd (let bad : ⊥ = cc in bad))
          (λ i k w maps miss. own_hits item_row by_first (λ k. Text k ∷ []) item_found items key stored are_items [] i k w miss)
          (λ i k w other. others_miss item_row by_first (λ k. Text k ∷ []) item_found items key stored are_items [] i k w other)

      since_mid : RowsAre since_row since (mid 11)
      since_mid = subst (RowsAre since_row since) (sym (first.tables.1.1.1.1.1.1.0 (λ e. omega arith))) are_since

      since_gone : Cascaded mid olds next → RowsAre since_row after_since (next 11)
      since_gone (inl (stays, same_trees)) =
          let kept = untouched items since key olds mid next since_mid old_is old_has only_items after_since sets_since (λ n maps. true≢false (sym (is_lost items since key olds mid next since_mid old_is old_has only_items n maps) ∙ stays)) in
          subst (RowsAre since_row after_since) (ap (λ (t : Trees). t 11) (sym same_trees)) kept
      since_gone (inr (ids, children, inl (none, same_trees))) =
          gone items since key olds mid next since_mid old_is old_has only_items after_since sets_since ids children (ap (λ (t : Trees). t 11) same_trees ∙ sym (ap (without_all (mid 11)) none))
      since_gone (inr (ids, children, inr second)) = gone items since key olds mid next since_mid old_is old_has only_items after_since sets_since ids children second.rows

      items_stay : Cascaded mid olds next → next 4 ≡ mid 4
      items_stay (inl (stays, same_trees)) = ap (λ (t : Trees). t 4) same_trees
      items_stay (inr (ids, children, inl (none, same_trees))) = ap (λ (t : Trees). t 4) same_trees
      items_stay (inr (ids, children, inr second)) = second.tables.1.1.0 (λ e. omega arith)

      abbrev Same : Table → Type 0
      Same t = t.tree ≢ 4 → t.tree ≢ 11 → next t.tree ≡ old.now.trees t.tree

      from_mid : (ts : List Table) → AllByRecursion (λ (t : Table). t.tree ≢ 4 → mid t.tree ≡ old.now.trees t.tree) ts → next ≡ mid → AllByRecursion Same ts
      from_mid [] one e = tt
      from_mid (t ∷ ts) one e = ((λ a b. ap (λ (db : Trees). db t.tree) e ∙ one.0 a), from_mid ts one.1 e)

      from_both : (ts : List Table) → AllByRecursion (λ (t : Table). t.tree ≢ 4 → mid t.tree ≡ old.now.trees t.tree) ts → AllByRecursion (λ (t : Table). t.tree ≢ 11 → next t.tree ≡ mid t.tree) ts → AllByRecursion Same ts
      from_both [] one two = tt
      from_both (t ∷ ts) one two = ((λ a b. two.0 b ∙ one.0 a), from_both ts one.1 two.1)

      others_stay : Cascaded mid olds next → AllByRecursion Same (schema_of Two).tables
      others_stay (inl (stays, same_trees)) = from_mid (schema_of Two).tables first.tables same_trees
      others_stay (inr (ids, children, inl (none, same_trees))) = from_mid (schema_of Two).tables first.tables same_trees
      others_stay (inr (ids, children, inr second)) = from_both (schema_of Two).tables first.tables second.tables

  pub removed : Removed old new after_items after_since
  removed =
      let ran = ran_delete (schema_of Two) delete_item params old new has 2 item refl item_plain (delete_item_is Two).plain count h (program (simple 4 by_first ids_only)) (delete_item_is Two).is in
      let answer = ran.0 in
      let same : IsPermutation (map (shown ids_only params) (passing by_first params stored)) answer =
      subst (λ xs. IsPermutation (map (shown ids_only params) (passing by_first params xs)) answer) (none_over old.now.trees 4) (simple_rows 4 by_first ids_only (overlay old.now.trees []) params answer (ran.1.answer Null)) in
      let two = two_steps old.now.trees new.now.trees (ids_of answer) ran.2.writes in
      record {
        schema = ran.2.schema_is;
        sound = ran.2.sound;
        of_items = subst (RowsAre item_row after_items) (sym (items_stay answer same two.0 new.now.trees two.1 two.2)) (items_gone answer same two.0 new.now.trees two.1);
        of_since = since_gone answer same two.0 new.now.trees two.1 two.2;
        others = others_stay answer same two.0 new.now.trees two.1 two.2;
      }
