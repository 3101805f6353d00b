-- What the queries answer where the tables were made first: the rows that storage has, in some order.
use Rattle.std.specs.Prelude.{nat_le, unwrap_or, ◌-◌, ◌^◌}
use Rattle.std.proofs.Common.{slice_get, cond, ◌≡◌, ℕ, List, [], ◌∷◌, ◌++◌, map, true, false, None, refl, sym, ap, subst, subst₂, ◌∙◌}
use Rattle.std.specs.List.Sorted.{IsPermutation}
use Rattle.sqlite.specs.declared.types.Value.TheVariants.{Null}
use Rattle.sqlite.specs.Order.{Row}
use Rattle.sqlite.specs.Term.{Term}
use Rattle.sqlite.specs.Tree.{Trees}
use Rattle.sqlite.specs.Program.{overlay}
use Rattle.sqlite.specs.Listing.{understood, reads_listing, IsSourceOf}
use Rattle.sqlite.specs.Effect.{Database, Reads}
use Rattle.sqlite.specs.Schema.{Schema}
use Rattle.sqlite.specs.Command.TheVariants.{Select}
use Rattle.sqlite.proofs.Callers.{command_of}
use Rattle.pid_tables.specs.declared.rows.schema_version.Version.{Version}
use Rattle.pid_tables.specs.declared.rows.schema_version.Version.TheVariants.{One, Two}
use Rattle.pid_tables.specs.Rows.Schema.{more_tables}
use Rattle.pid_tables.proofs.OfRows.Statements.{IsSelect, program, simple}
use Rattle.pid_tables.proofs.OfRows.Select.{passing, shown, simple_rows}
use Rattle.pid_tables.specs.Check.Conditions.{Rows, rows_in, AreOfRegistry}
use Rattle.pid_tables.specs.Check.Checking.{ShowsRegistry, ShowsDamage}
use Rattle.pid_tables.specs.Check.Shapes.{IsMadeFirst, ShowsRows, ShowsSinces, ShowsTables}
use Rattle.pid_tables.proofs.OfCheck.Complete.{as_six}
use Rattle.pid_tables.proofs.OfCheck.Moved.{AreSame, SameSinces, rows_moved, backwards}
use Rattle.pid_tables.proofs.OfCheck.WholeTexts.{meta_is, account_is, item_is, submission_is, remark_is, receipt_is, since_is}

all_pass : (rows : List Row) → passing [] [] rows ≡ rows
all_pass [] = refl
all_pass (r ∷ rows) = ap (λ xs. r ∷ xs) (all_pass rows)

nothing_over : (db : Trees) (t : ℕ) → overlay db [] t ≡ db t
nothing_over db t = elim (nat_le (2 ^ 31) t) as (λ b. unwrap_or (cond b (slice_get [] (t - 2 ^ 31)) None) (db t) ≡ db t) [ true ↦ refl | false ↦ refl ]

module _ (tree : ℕ) (project : List Term) (sql : List ℕ) (names : List (List ℕ)) (schema : Schema) (s : IsSelect schema tree [] project sql names) (db : Database) (has : db.schema ≡ schema) (rows : List Row)
    (shows : ShowsRows db sql rows) where
  read : Reads (Select (program (simple tree [] project)) names) db [] rows
  read =
      let known = sym shows.is ∙ ap (λ x. understood x sql) has in
      let from : shows.source ≡ db = subst (λ b. IsSourceOf b db shows.source) (ap (λ x. reads_listing x sql) has ∙ s.unlisted) shows.from in
      subst₂ (λ k d. Reads k d [] rows) (ap command_of known ∙ s.is) from shows.answer

  pub stored : IsPermutation (map (shown project []) (db.trees tree)) rows
  stored =
      let same = simple_rows tree [] project (overlay db.trees []) [] rows (read.answer Null) in
      subst (λ xs. IsPermutation (map (shown project []) xs) rows) (all_pass (db.trees tree)) (subst (λ xs. IsPermutation (map (shown project []) (passing [] [] xs)) rows) (nothing_over db.trees tree) same)

module _ (db : Database) (t : Rows) where
  sinces_same : (version : Version) → IsMadeFirst version db.schema → ShowsSinces version db t.sinces → SameSinces version (rows_in db.trees).sinces t.sinces
  sinces_same One first shows = tt
  sinces_same Two first shows = stored 11 _ _ _ _ (since_is first.0 db.schema.indexes db.schema.views) db (as_six Two db.schema first) t.sinces shows

  pub rows_same : (version : Version) → IsMadeFirst version db.schema → ShowsTables version db t → AreSame version (rows_in db.trees) t
  rows_same version first shows =
      let is = as_six version db.schema first in
      let others = more_tables version ++ first.0 in
      let indexes = db.schema.indexes in
      let views = db.schema.views in
      record {
        meta = stored 0 _ _ _ _ (meta_is others indexes views) db is t.meta shows.meta;
        accounts = stored 2 _ _ _ _ (account_is others indexes views) db is t.accounts shows.accounts;
        items = stored 4 _ _ _ _ (item_is others indexes views) db is t.items shows.items;
        submissions = stored 6 _ _ _ _ (submission_is others indexes views) db is t.submissions shows.submissions;
        remarks = stored 7 _ _ _ _ (remark_is others indexes views) db is t.remarks shows.remarks;
        receipts = stored 9 _ _ _ _ (receipt_is others indexes views) db is t.receipts shows.receipts;
        sinces = sinces_same version first shows.sinces;
      }

module _ (version : Version) (db : Database) (first : IsMadeFirst version db.schema) where
  pub registry_stored : ShowsRegistry version db → AreOfRegistry version (rows_in db.trees)
  registry_stored it = rows_moved version it.0 (rows_in db.trees) (backwards version _ _ (rows_same db it.0 version first it.1)) it.2

  pub never_damaged : AreOfRegistry version (rows_in db.trees) → ShowsDamage version db → ⊥
  never_damaged good it = it.2 (rows_moved version (rows_in db.trees) it.0 (rows_same db it.0 version first it.1) good)
