-- Tables that show a sound history have good items.
use Rattle.std.proofs.Common.{◌≡◌, ℕ, List, [], ◌∷◌, length, true, Option, Some, refl, sym, ap, subst, ◌∙◌, arith, IsTrue, IsSome}
use Rattle.std.specs.Prelude.{is_some, IfSome}
use Rattle.std.specs.FinMap.{get, get-from_sorted}
use Rattle.std.proofs.lemmas.List.{length-map}
use Rattle.sqlite.specs.Order.{Row}
use Rattle.sqlite.specs.Effect.{Database}
use Rattle.sqlite_rules.specs.Lists.{Has}
use Rattle.pid_ident.specs.PathTexts.{IsPath, path_text, parent_of}
use Rattle.pid_ident.specs.Trees.{text_cmp}
use Rattle.pid_ident.specs.Words.{is_name}
use Rattle.pid_file.specs.declared.path.Path.{Path}
use Rattle.pid_moderation.specs.History.{History}
use Rattle.pid_moderation.specs.Items.{name_at}
use Rattle.pid_moderation.specs.Sound.{IsSound}
use Rattle.pid_moderation.specs.Views.{items_of, views_of}
use Rattle.pid_moderation.specs.Writes.{tree_of}
use Rattle.pid_moderation.specs.Laws.{ItemsAreSorted}
use Rattle.pid_tables.specs.Rows.Shows.{ShowsIn}
use Rattle.pid_tables.specs.declared.rows.schema_version.Version.{Version}
use Rattle.pid_tables.specs.Rows.TableRows.{item_row}
use Rattle.pid_tables.specs.Check.Conditions.{columns, rows_in, HasItemRow, IsItemRow, AreItems}
use Rattle.pid_tables.proofs.OfRows.Lengths.{some_there, mapped, unmapped}

module _ (sorted : ItemsAreSorted) (h : History) (sound : IsSound h) (version : Version) (db : Database) (shows : ShowsIn version db (views_of h)) where
  got : (k : List ℕ) → get (tree_of h) k ≡ name_at k (items_of h)
  got k = get-from_sorted text_cmp (items_of h) k (sorted h)

  item_there : (path : Path) → IsSome (get (tree_of h) (path_text path)) → HasItemRow (rows_in db.trees).items path
  item_there path there =
      let name = some_there (name_at (path_text path) (items_of h)) (ap is_some (sym (got (path_text path))) ∙ there) in
      let row = shows.items.complete (path_text path) name.0 name.1 in
      (columns (1 ∷ 2 ∷ []) (item_row row.0 (path_text path) name.0), mapped (columns (1 ∷ 2 ∷ [])) (db.trees 4) (item_row row.0 (path_text path) name.0) row.1, refl)

  some_of : {X : Type 0} (o : Option X) (x : X) → o ≡ Some x → IsSome o
  some_of o x e = ap is_some e

  name_good : (key name : List ℕ) → get (tree_of h) key ≡ Some name → is_name name ≡ true
  name_good key name e = subst (λ (o : Option (List ℕ)). IfSome o (λ n. IsTrue (is_name n))) e (sound.tree.names key)

  parent_there : (path : Path) → IsPath path → IsSome (get (tree_of h) (path_text path)) → (above : Path) → parent_of path ≡ Some above → HasItemRow (rows_in db.trees).items above
  parent_there path range there above e = item_there above (subst (λ (o : Option Path). IfSome o (λ q. IsSome (get (tree_of h) (path_text q)))) e (sound.tree.parents path range there))

  item_good : (r : Row) → Has (rows_in db.trees).items r → IsItemRow (rows_in db.trees).items r
  item_good r has =
      let from = unmapped (columns (1 ∷ 2 ∷ [])) (db.trees 4) r has in
      let pair = shows.items.sound from.0 from.1 in
      let is : get (tree_of h) pair.key ≡ Some pair.value = got pair.key ∙ pair.maps in
      let path = sound.tree.paths pair.key (some_of _ pair.value is) in
      let there : IsSome (get (tree_of h) (path_text path.0)) = subst (λ k. IsSome (get (tree_of h) k)) path.1.same (some_of _ pair.value is) in
      record {
        path = path.0;
        name = pair.value;
        is = from.2 ∙ ap (columns (1 ∷ 2 ∷ [])) (pair.is ∙ ap (λ k. item_row pair.id k pair.value) path.1.same);
        in_range = path.1.in_range;
        good = name_good pair.key pair.value is;
        parent = parent_there path.0 path.1.in_range there;
      }

  pub items_kept : length (db.trees 4) ≡ length (items_of h) → AreItems (rows_in db.trees).items
  items_kept same = record { each = item_good; limit = omega (arith, same, sound.item_limit, length-map (db.trees 4) (columns (1 ∷ 2 ∷ []))) }
