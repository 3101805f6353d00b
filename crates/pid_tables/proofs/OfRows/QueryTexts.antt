-- The queries on the tables of each schema are refused in no way.
use Rattle.std.proofs.Common.{◌≡◌, ℕ, pos, List, [], ◌∷◌, codes, true, false, inl, inr, None, length, Ok, Err, Result, refl, sym, subst, ap}
use Rattle.std.proofs.lemmas.Bool.{false≢true, leb-true}
use Rattle.sqlite.specs.declared.types.Value.TheVariants.{Int, Text}
use Rattle.sqlite.specs.Order.{Row}
use Rattle.sqlite.specs.Tree.{Trees}
use Rattle.sqlite.specs.Term.{Term, lit, col}
use Rattle.sqlite.specs.Command.{Command}
use Rattle.sqlite.specs.Command.TheVariants.{Select}
use Rattle.sqlite.specs.Listing.{understood, reads_listing}
use Rattle.sqlite.proofs.Callers.{command_of}
use Rattle.sqlite_resolve.specs.declared.compiled.Compiled.{Compiled}
use Rattle.sqlite_resolve.specs.declared.error.CompileError.{CompileError}
use Rattle.sqlite_schema.specs.declared.program.Program.{Program}
use Rattle.sqlite_sql.specs.Program.{ProgramOverflows}
use Rattle.sqlite_value.specs.declared.keys.Key.{Key}
use Rattle.sqlite.specs.Schema.{Schema}
use Rattle.pid_tables.specs.Rows.TableRows.{number}
use Rattle.pid_tables.specs.Rows.Steps.Queries.{IsSafeSelect, IsOneStatement, IsQueryAs, IsQuery}
use Rattle.sqlite_typing.specs.Types.{accepts_program}
use Rattle.pid_tables.specs.declared.rows.schema_version.Version.{Version}
use Rattle.pid_tables.specs.Rows.Schema.{schema_of}
use Rattle.pid_tables.proofs.OfRows.Statements.{listing, whole, simple, program, IsSelect, SelectsAlone, Parts, parts}
use Rattle.pid_tables.proofs.OfRows.StatementTexts.{select_meta, select_account, select_item, select_submission, select_receipt}
use Rattle.pid_tables.proofs.OfRows.KeyTexts.{by_first, by_rowid, by_both, submission_columns, submission_names, receipt_columns, select_meta_is, select_account_is, select_item_is, select_submission_is, select_receipt_is, select_meta_alone, select_account_alone, select_item_alone, select_submission_alone, select_receipt_alone}
use Rattle.pid_tables.proofs.OfRows.LastRemark.{falling, select_last, select_last_alone, select_last_is, select_last_unlisted}
use Rattle.pid_tables.proofs.OfRows.RangeLemmas.{in_range, select_between, select_between_alone, select_between_is, select_between_unlisted}

abbrev pub IsOneAs : List ℕ → Row → Result Compiled CompileError → Type 0
IsOneAs sql params (Ok c) = IsOneStatement sql params c
IsOneAs sql params (Err e) = ⊥

pub one_alone : (sql : List ℕ) (params : Row) (r : Result Compiled CompileError) (command : Command) → ◌≡◌ {A = Parts} (parts sql r) (command, None, [], length params, true) → IsOneAs sql params r
one_alone sql params (Ok c) command alone = record {
  whole = leb-true (length sql) c.tail (ap (λ (x : Parts). x.4) alone);
  given = sym (ap (λ (x : Parts). x.3) alone);
  bare = ap (λ (x : Parts). x.1) alone;
  timeless = ap (λ (x : Parts). x.2) alone;
}
one_alone sql params (Err e) command alone = absurd (false≢true (ap (λ (x : Parts). x.4) alone))

whole_query : (schema : Schema) (sql : List ℕ) (params : Row) (r : Result Compiled CompileError) (p : Program) (names : List (List ℕ)) → IsOneAs sql params r → command_of r ≡ Select p names → IsSafeSelect schema params (Select p names) → IsQueryAs schema sql params r
whole_query schema sql params (Ok c) p names one is asks = (one, subst (IsSafeSelect schema params) (sym is) asks)
whole_query schema sql params (Err e) p names one is asks = absurd one

-- a listing sums nothing
module _ (schema : Schema) (sql : List ℕ) (params : Row) (tree : ℕ) (tests project : List Term) (names : List (List ℕ)) (one : IsOneAs sql params (understood schema sql)) where
  module _ (order : List (Term × Key)) (limit : Term) where
    fits : (db : Trees) → ProgramOverflows db params [] [] (listing tree tests project order limit) → ⊥
    fits db (inl grouped) = grouped
    fits db (inr folded) = folded.4

    pub in_order : command_of (understood schema sql) ≡ Select (program (listing tree tests project order limit)) names → reads_listing schema sql ≡ false
        → accepts_program schema [] (listing tree tests project order limit) params ≡ true → IsQuery schema sql params
    in_order is unlisted accepted = record { known = whole_query schema sql params (understood schema sql) (program (listing tree tests project order limit)) names one is (accepted, fits); unlisted = unlisted }

-- of a text that is alone
module _ (schema : Schema) (sql : List ℕ) (params : Row) (tree : ℕ) (tests project : List Term) (names : List (List ℕ)) where
  pub by_key : SelectsAlone schema tree tests project sql names (length params) → IsSelect schema tree tests project sql names → accepts_program schema [] (simple tree tests project) params ≡ true → IsQuery schema sql params
  by_key alone is accepted = in_order schema sql params tree tests project names (one_alone sql params (understood schema sql) _ alone) [] whole is.is is.unlisted accepted

-- at most one
abbrev one_row : Term
one_row = lit (Int (pos 1))

pub meta_query : (version : Version) (label : List ℕ) → IsQuery (schema_of version) select_meta (Text label ∷ [])
meta_query version label = by_key (schema_of version) select_meta (Text label ∷ []) 0 by_first (col 1 2 ∷ []) (codes "value" ∷ []) (select_meta_alone version) (select_meta_is version) refl

pub account_query : (version : Version) (name : List ℕ) → IsQuery (schema_of version) select_account (Text name ∷ [])
account_query version name = by_key (schema_of version) select_account (Text name ∷ []) 2 by_first (col 1 2 ∷ []) (codes "rank" ∷ []) (select_account_alone version) (select_account_is version) refl

pub item_query : (version : Version) (path : List ℕ) → IsQuery (schema_of version) select_item (Text path ∷ [])
item_query version path = by_key (schema_of version) select_item (Text path ∷ []) 4 by_first (col 1 2 ∷ []) (codes "name" ∷ []) (select_item_alone version) (select_item_is version) refl

pub submission_query : (version : Version) (n : ℕ) → IsQuery (schema_of version) select_submission (number n ∷ [])
submission_query version n = by_key (schema_of version) select_submission (number n ∷ []) 6 by_rowid submission_columns submission_names (select_submission_alone version) (select_submission_is version) refl

pub receipt_query : (version : Version) (who token : List ℕ) → IsQuery (schema_of version) select_receipt (Text who ∷ Text token ∷ [])
receipt_query version who token = by_key (schema_of version) select_receipt (Text who ∷ Text token ∷ []) 9 by_both receipt_columns (codes "kind" ∷ codes "a" ∷ codes "b" ∷ codes "c" ∷ []) (select_receipt_alone version) (select_receipt_is version) refl

last_one : (version : Version) (n : ℕ) → IsOneAs select_last (number n ∷ []) (understood (schema_of version) select_last)
last_one version n = one_alone select_last _ (understood (schema_of version) select_last) _ (select_last_alone version)

pub last_query : (version : Version) (n : ℕ) → IsQuery (schema_of version) select_last (number n ∷ [])
last_query version n = in_order (schema_of version) select_last (number n ∷ []) 7 by_first (col 1 2 ∷ []) (codes "seq" ∷ []) (last_one version n) falling one_row (select_last_is version) (select_last_unlisted version) refl

between_one : (version : Version) (low high : List ℕ) → IsOneAs select_between (Text low ∷ Text high ∷ []) (understood (schema_of version) select_between)
between_one version low high = one_alone select_between _ (understood (schema_of version) select_between) _ (select_between_alone version)

pub between_query : (version : Version) (low high : List ℕ) → IsQuery (schema_of version) select_between (Text low ∷ Text high ∷ [])
between_query version low high = in_order (schema_of version) select_between (Text low ∷ Text high ∷ []) 4 in_range (col 1 1 ∷ []) (codes "path" ∷ []) (between_one version low high) [] one_row (select_between_is version) (select_between_unlisted version) refl
