-- Tables that show a sound history have good numbers of changes.
use Rattle.std.proofs.Common.{◌≡◌, ℕ, ◌≤◌, List, [], ◌∷◌, Option, Some, None, true, refl, sym, ap, subst, ◌∙◌, IsSome}
use Rattle.std.specs.Prelude.{is_some, option_map}
use Rattle.std.specs.FinMap.{get, get-from_sorted}
use Rattle.sqlite.specs.declared.types.Value.TheVariants.{Text}
use Rattle.sqlite.specs.Order.{Row, column}
use Rattle.sqlite.specs.Effect.{Database}
use Rattle.sqlite_rules.specs.Lists.{Has}
use Rattle.pid_ident.specs.PathTexts.{IsPath, path_text}
use Rattle.pid_ident.specs.Trees.{text_cmp}
use Rattle.pid_file.specs.declared.path.Path.{Path}
use Rattle.pid_moderation.specs.History.{History}
use Rattle.pid_moderation.specs.Items.{name_at}
use Rattle.pid_moderation.specs.Laws.{ItemsAreSorted}
use Rattle.pid_moderation.specs.Sound.{IsSound}
use Rattle.pid_moderation.specs.Views.{items_of, revision_of, since_of, views_of}
use Rattle.pid_moderation.specs.Writes.{tree_of}
use Rattle.pid_tables.specs.Rows.Shows.{ShowsIn}
use Rattle.pid_tables.specs.Rows.TableRows.{since_row}
use Rattle.pid_tables.specs.declared.rows.schema_version.Version.{Version}
use Rattle.pid_tables.specs.declared.rows.schema_version.Version.TheVariants.{One, Two}
use Rattle.pid_tables.proofs.OfRows.Lengths.{mapped, unmapped}
use Rattle.pid_tables.specs.Check.Conditions.{columns, rows_in, HasItemRow, IsSinceRow, AreSinces, AreNumbered}
use Rattle.pid_tables.proofs.OfCheck.ItemFacts.{texts_same}

-- the number of a path, where it has an item
numbered : (o : Option (List ℕ)) (n m : ℕ) → option_map (λ name. n) o ≡ Some m → (is_some o ≡ true) × (n ≡ m)
numbered None n m e = absurd cc
numbered (Some name) n m e = (refl, let is : n ≡ m = cc in is)

module _ (sorted : ItemsAreSorted) (h : History) (sound : IsSound h) (within : (path : List ℕ) → since_of path h ≤ revision_of h) (db : Database) (shows : ShowsIn Two db (views_of h)) where
  since_good : (r : Row) → Has (rows_in db.trees).sinces r → IsSinceRow (revision_of h) r
  since_good r has =
      let from = unmapped (columns (1 ∷ 2 ∷ [])) (db.trees 11) r has in
      let pair = shows.sinces.sound from.0 from.1 in
      let it = numbered (name_at pair.key (items_of h)) (since_of pair.key h) pair.value pair.maps in
      let there : IsSome (get (tree_of h) pair.key) = ap is_some (get-from_sorted text_cmp (items_of h) pair.key (sorted h)) ∙ it.0 in
      let path = sound.tree.paths pair.key there in
      record {
        path = path.0;
        since = pair.value;
        is = from.2 ∙ ap (columns (1 ∷ 2 ∷ [])) (pair.is ∙ ap (λ k. since_row pair.id k pair.value) path.1.same);
        in_range = path.1.in_range;
        within = subst (λ n. n ≤ revision_of h) it.1 (within pair.key);
      }

  since_there : (path : Path) → IsPath path → HasItemRow (rows_in db.trees).items path → HasItemRow (rows_in db.trees).sinces path
  since_there path range (r, has, is) =
      let from = unmapped (columns (1 ∷ 2 ∷ [])) (db.trees 4) r has in
      let pair = shows.items.sound from.0 from.1 in
      let key : pair.key ≡ path_text path = texts_same _ _ (sym (ap (λ (x : Row). column x 0) (from.2 ∙ ap (columns (1 ∷ 2 ∷ [])) pair.is)) ∙ is) in
      let maps = ap (option_map (λ (name : List ℕ). since_of pair.key h)) pair.maps in
      let row = shows.sinces.complete pair.key (since_of pair.key h) maps in
      (columns (1 ∷ 2 ∷ []) (since_row row.0 pair.key (since_of pair.key h)), mapped (columns (1 ∷ 2 ∷ [])) (db.trees 11) (since_row row.0 pair.key (since_of pair.key h)) row.1, ap Text key)

  sinces_good : AreSinces (revision_of h) (rows_in db.trees).items (rows_in db.trees).sinces
  sinces_good = record { each = since_good; there = since_there }

pub sinces_kept : (version : Version) → ItemsAreSorted → (h : History) → IsSound h → ((path : List ℕ) → since_of path h ≤ revision_of h) → (db : Database) → ShowsIn version db (views_of h)
    → AreNumbered version (revision_of h) (rows_in db.trees)
sinces_kept One sorted h sound within db shows = tt
sinces_kept Two sorted h sound within db shows = sinces_good sorted h sound within db shows
