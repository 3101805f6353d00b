-- INSERT INTO item_since .. SELECT .. FROM item: one row with 0 for each item.
use Rattle.std.proofs.Common.{◌≡◌, inl, inr, ℕ, ℤ, pos, List, [], ◌∷◌, map, drop, None, Some, Option, Ok, refl, sym, ap, subst, ◌∙◌}
use Rattle.std.specs.Prelude.{option_map}
use Rattle.std.specs.List.Sorted.{IsPermutation}
use Rattle.std.proofs.lemmas.List.Sorted.{IsPermutation-sym}
use Rattle.sqlite.specs.Tree.{put_row, IsTable}
use Rattle.sqlite.specs.Order.{Row}
use Rattle.sqlite.specs.declared.types.Value.{Value}
use Rattle.sqlite.specs.declared.types.Value.TheVariants.{Null, Text}
use Rattle.sqlite.specs.Cast.{cast_row}
use Rattle.sqlite.specs.Edit.{numbered, with_rowid, next_rowid}
use Rattle.sqlite.specs.Program.{overlay}
use Rattle.sqlite.specs.Query.{IsAnswer}
use Rattle.sqlite.specs.Source.TheVariants.{Query}
use Rattle.sqlite.specs.State.{State, Executes}
use Rattle.sqlite.specs.Table.{Table}
use Rattle.sqlite.specs.Effect.{IsDatabase}
use Rattle.sqlite_rules.specs.Lists.{Has}
use Rattle.sqlite_rules.specs.declared.error.Rowids.TheVariants.{Chosen}
use Rattle.sqlite_rules.proofs.ListLemmas.{has_filtered, has_kept}
use Rattle.sqlite_rules.proofs.ProbeLemmas.{mapped_has}
use Rattle.std.specs.List.{AllByRecursion}
use Rattle.pid_tables.specs.Rows.PairRows.{Map, RowsAre}
use Rattle.pid_tables.specs.Rows.TableRows.{item_row, number, since_row}
use Rattle.pid_tables.proofs.OfRows.Select.{passing, shown, simple_rows}
use Rattle.pid_tables.proofs.OfRows.MapLemmas.{none_over}
use Rattle.pid_tables.proofs.OfRows.TurnLemmas.{hits, has_mapped, permuted, turns_insert}
use Rattle.pid_tables.proofs.OfRows.WriteLemmas.{cast_int, cast_null}
use Rattle.pid_tables.proofs.OfRows.Keys.{since_plain}
use Rattle.pid_tables.proofs.OfRows.Statements.{program, simple}
use Rattle.pid_tables.specs.declared.rows.schema_version.Version.TheVariants.{Two}
use Rattle.pid_tables.specs.Rows.Schema.{schema_of, item_since}
use Rattle.pid_tables.proofs.OfRows.StatementTexts.{fill_since}
use Rattle.pid_tables.proofs.OfRows.SinceTexts.{fill_is, fill_plain, copied, copying}
use Rattle.pid_tables.proofs.OfRows.RanLemmas.{ran_insert}

-- a row that is to be numbered
abbrev pub unnumbered : List ℕ → Row
unnumbered path = Null ∷ Text path ∷ number 0 ∷ []

pub unnumbered_cast : (path : List ℕ) → cast_row item_since (unnumbered path) ≡ unnumbered path
unnumbered_cast path = λ i. cast_null i ∷ Text path ∷ cast_int (pos 0) i ∷ []

-- each row that comes of the sources has a number before its path
numbered_from : (paths : List (List ℕ)) (rows : List Row) (x : Row) → Has (numbered Chosen rows (map unnumbered paths)) x → (id : ℤ) × (p : List ℕ) × Has paths p × (x ≡ since_row id p 0)
numbered_from [] rows x h = absurd h
numbered_from (p ∷ paths) rows x (inl same) = (next_rowid rows, p, inl refl, same)
numbered_from (p ∷ paths) rows x (inr later) = let it = numbered_from paths (put_row (with_rowid Chosen rows (unnumbered p)) rows) x later in (it.0, it.1, inr it.2, it.3)

numbered_to : (paths : List (List ℕ)) (rows : List Row) (p : List ℕ) → Has paths p → (id : ℤ) × Has (numbered Chosen rows (map unnumbered paths)) (since_row id p 0)
numbered_to [] rows p h = absurd h
numbered_to (q ∷ paths) rows p (inl same) = (next_rowid rows, inl (ap (λ t. since_row (next_rowid rows) t 0) same))
numbered_to (q ∷ paths) rows p (inr later) = let it = numbered_to paths (put_row (with_rowid Chosen rows (unnumbered q)) rows) p later in (it.0, inr it.1)

abbrev path_in : Value → List ℕ
path_in (Text t) = t
path_in _ = []

abbrev second : Row → List ℕ
second (a ∷ b ∷ row) = path_in b
second _ = []

-- the sources are these texts, each with 0
are_unnumbered : (answer : List Row) → ((a : Row) → Has answer a → (p : List ℕ) × (a ≡ unnumbered p)) → map (λ s. cast_row item_since (drop 0 s)) answer ≡ map unnumbered (map second answer)
are_unnumbered [] each = refl
are_unnumbered (a ∷ answer) each =
    let it = each a (inl refl) in
    let one : cast_row item_since a ≡ unnumbered (second a) = ap (cast_row item_since) it.1 ∙ unnumbered_cast it.0 ∙ sym (ap (λ r. unnumbered (second r)) it.1) in
    λ i. one i ∷ are_unnumbered answer (λ b h. each b (inr h)) i

some_after : (o : Option (List ℕ)) (v : ℕ) → option_map (λ _. 0) o ≡ Some v → (name : List ℕ) × (o ≡ Some name) × (v ≡ 0)
some_after None v h = absurd (let bad : ⊥ = cc in bad)
some_after (Some name) v h = (name, refl, cc)

pub record Filled (old new : State) (items : Map (List ℕ) (List ℕ)) : Type 0 where
  pub schema : new.now.schema ≡ schema_of Two
  pub sound : IsDatabase new.now
  pub rows : RowsAre since_row (λ p. option_map (λ _. 0) (items p)) (new.now.trees 11)
  pub others : AllByRecursion (λ (t : Table). (t.tree ≡ 11 → ⊥) → new.now.trees t.tree ≡ old.now.trees t.tree) (schema_of Two).tables

pub filled : (old new : State) (items : Map (List ℕ) (List ℕ)) → old.now.schema ≡ schema_of Two → RowsAre item_row items (old.now.trees 4) → old.now.trees 11 ≡ [] → (count : ℕ) → Executes fill_since [] old new (Ok count)
    → Filled old new items
filled old new items has are empty count h =
    let ran = ran_insert (schema_of Two) fill_since [] old new has 6 item_since refl since_plain fill_plain count h (Query (program copying)) fill_is in
    let answer = ran.0 in
    let stored = old.now.trees 4 in
    let q = ran.1.answer Null in
    let as_simple : IsAnswer (simple 4 [] copied) (overlay old.now.trees []) [] answer = record { staged = q.staged; grouped = q.grouped; kept = q.kept; distinct = q.distinct; ordered = q.ordered; same = q.same; sorted = q.sorted; shown = q.shown } in
    let same : IsPermutation (map (shown copied []) (passing [] [] stored)) answer = subst (λ xs. IsPermutation (map (shown copied []) (passing [] [] xs)) answer) (none_over old.now.trees 4) (simple_rows 4 [] copied (overlay old.now.trees []) [] answer as_simple) in
    let back : (a : Row) → Has answer a → (p : List ℕ) × (name : List ℕ) × (a ≡ unnumbered p) × (items p ≡ Some name) = (λ a there.
    let r = has_mapped (shown copied []) (passing [] [] stored) a (permuted answer (map (shown copied []) (passing [] [] stored)) a (IsPermutation-sym _ _ same) there) in
    let pair = are.sound r.0 (has_filtered (hits [] []) stored r.0 r.1).0 in
    (pair.key, pair.value, r.2 ∙ ap (shown copied []) pair.is, pair.maps)) in
    let sources = are_unnumbered answer (λ a there. let it = back a there in (it.0, it.2)) in
    let rows = old.now.trees 11 in
    let next = new.now.trees 11 in
    let news = numbered Chosen rows (map (λ s. cast_row item_since (drop 0 s)) answer) in
    let up : IsTable rows = subst IsTable (sym empty) tt in
    let turns = turns_insert rows next news up ran.2.applies.fresh ran.2.applies.rows in
    let texts = map second answer in
    record {
      schema = ran.2.schema_is;
      sound = ran.2.sound;
      rows = record {
        ordered = turns.ordered;
        sound = λ x there. elim (turns.from x there) [
          | inl new ↦
              let it = numbered_from texts rows x (subst (λ xs. Has (numbered Chosen rows xs) x) sources new) in
              let a = has_mapped second answer it.1 it.2 in
              let b = back a.0 a.1 in
              let path : it.1 ≡ b.0 = a.2 ∙ ap second b.2 in
              record { id = it.0; key = it.1; value = 0; is = it.3; maps = ap (λ p. option_map (λ _. 0) (items p)) path ∙ ap (option_map (λ _. 0)) b.3 }
          | inr was ↦ absurd (subst (λ xs. Has xs x) empty was.0)
        ];
        complete = λ p v maps.
            let name = some_after (items p) v maps in
            let there = are.complete p name.0 name.1 in
            let out = mapped_has (shown copied []) (passing [] [] stored) (item_row there.0 p name.0) (has_kept (hits [] []) stored (item_row there.0 p name.0) there.1 refl) in
            let text : Has texts p = mapped_has second answer (unnumbered p) (permuted (map (shown copied []) (passing [] [] stored)) answer (unnumbered p) same out) in
            let new = numbered_to texts rows p text in
            (new.0, turns.added _ (subst (λ n. Has news (since_row new.0 p n)) (sym name.2) (subst (λ xs. Has (numbered Chosen rows xs) (since_row new.0 p 0)) (sym sources) new.1)));
      };
      others = ran.2.applies.tables;
    }
