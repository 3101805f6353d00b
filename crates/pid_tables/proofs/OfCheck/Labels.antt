-- What the queries of the tables show, whatever the schema.
use Rattle.std.proofs.lemmas.Bool.{false≢true}
use Rattle.std.specs.Prelude.{IsSome}
use Rattle.std.proofs.Common.{◌≡◌, ℕ, List, [], true, false, cond, Option, Some, None, Ok, Err, Result, refl, sym, ap, subst}
use Rattle.sqlite.specs.Order.{Row}
use Rattle.sqlite.specs.Schema.{Schema}
use Rattle.sqlite.specs.Listing.{understood, reads_listing, if_select, is_select, listing_schema}
use Rattle.sqlite.specs.Effect.{Database, Reads}
use Rattle.sqlite.specs.State.{State, Shown, CommitsShowing, ShowsRows as ShowsAnswer}
use Rattle.sqlite.specs.Tree.{Trees}
use Rattle.sqlite.specs.Given.{IsPlain, Returns}
use Rattle.sqlite.specs.Clock.{timed as at_time}
use Rattle.sqlite.specs.Command.{Command}
use Rattle.sqlite_schema.specs.declared.command.Returning.{Returning}
use Rattle.sqlite_resolve.specs.declared.compiled.Compiled.{Compiled}
use Rattle.sqlite_resolve.specs.declared.error.CompileError.{CompileError}
use Rattle.sqlite_resolve.specs.declared.error.CompileError.TheVariants.{NoSuchTable}
use Rattle.sqlite_resolve.specs.Compile.{first, compiled, planned, meaning, command, returning, timed, with_command}
use Rattle.sqlite_resolve.specs.Lowering.{Checked, and_then}
use Rattle.sqlite_syntax.specs.declared.statement.Parsed.{Parsed}
use Rattle.sqlite_tied.specs.Compute.{everything}
use Rattle.pid_tables.specs.Check.Queries.{query_of}
use Rattle.pid_tables.specs.declared.check.schema.Table.{Table}
use Rattle.pid_tables.specs.declared.check.schema.Table.TheVariants.{Meta, Account, Item, Submission, Remark, Receipt, Since}
use Rattle.pid_tables.specs.Check.Shapes.{CanBeAsked, ShowsRows, ShowsLater}
use Rattle.pid_tables.specs.Check.Steps.Labels.{IsLater}

-- a statement, if it is one, that shows nothing of a write and reads no time
abbrev IsPlainIfAsked : Result Compiled CompileError → Type 0
IsPlainIfAsked (Ok c) = (c.returning ≡ None) × (c.formats ≡ [])
IsPlainIfAsked (Err e) = Unit {0}

-- in one equation, since each `refl` reads the text anew
abbrev OnlyReads : Checked Parsed → Type 0
OnlyReads (Ok p) = (schema : Schema) (base : ℕ) → ◌≡◌ {A = Checked (Option Returning) × List (List ℕ)} (returning schema base p.statement, timed schema p.formats p.statement) (Ok None, [])
OnlyReads (Err e) = Unit {0}

only_reads : (table : Table) → OnlyReads (first (query_of table))
unfolding everything
only_reads Meta = λ schema base. refl
only_reads Account = λ schema base. refl
only_reads Item = λ schema base. refl
only_reads Submission = λ schema base. refl
only_reads Remark = λ schema base. refl
only_reads Receipt = λ schema base. refl
only_reads Since = λ schema base. refl

module _ (schema : Schema) (p : Parsed) where
  abbrev IsPlan : Checked (List (List ℕ) × (Command × Option Returning)) → Type 0
  IsPlan (Ok plan) = (plan.0 ≡ []) × (plan.1.1 ≡ None)
  IsPlan (Err e) = Unit {0}

  with_plan : (r : Checked (List (List ℕ) × (Command × Option Returning))) → IsPlan r → IsPlainIfAsked (and_then r (λ plan. Ok (with_command p plan)))
  with_plan (Ok plan) h = (h.1, h.0)
  with_plan (Err e) h = tt

  is_plan : (formats : List (List ℕ)) → formats ≡ [] → (shown : Checked (Option Returning)) → shown ≡ Ok None → (c : Checked Command)
      → IsPlan (and_then (and_then shown (λ what. and_then c (λ k. Ok (k, what)))) (λ found. Ok (formats, found)))
  is_plan formats none (Ok what) same (Ok k) = (none, let is : what ≡ None = cc in is)
  is_plan formats none (Ok what) same (Err e) = tt
  is_plan formats none (Err e) same c = tt

  planned_plain : ((base : ℕ) → returning schema base p.statement ≡ Ok None) → timed schema p.formats p.statement ≡ [] → IsPlan (planned schema p)
  unfolding planned meaning
  planned_plain shows untimed = is_plan (timed schema p.formats p.statement) untimed (returning schema _ p.statement) (shows _) (command schema p.formats _ p.statement)

compiled_plain : (table : Table) (schema : Schema) → IsPlainIfAsked (compiled schema (query_of table))
unfolding compiled
compiled_plain table schema = go (first (query_of table)) (only_reads table)
  where
    go : (r : Checked Parsed) → OnlyReads r → IsPlainIfAsked (and_then r (λ p. and_then (planned schema p) (λ plan. Ok (with_command p plan))))
    go (Ok p) h = with_plan schema p (planned schema p) (planned_plain schema p (λ base. ap (λ (x : Checked (Option Returning) × List (List ℕ)). x.0) (h schema base)) (ap (λ (x : Checked (Option Returning) × List (List ℕ)). x.1) (h schema 0)))
    go (Err e) h = tt

listed_plain : (r : Result Compiled CompileError) → IsPlainIfAsked r → IsPlainIfAsked (if_select r)
listed_plain (Ok c) h = elim (is_select c.command) as (λ b. IsPlainIfAsked (cond b (Ok c) (Err NoSuchTable))) [ true ↦ h | false ↦ tt ]
listed_plain (Err e) h = tt

plain : (table : Table) (schema : Schema) → IsPlainIfAsked (understood schema (query_of table))
unfolding understood
plain table schema = elim (reads_listing schema (query_of table)) as (λ b. IsPlainIfAsked (cond b (if_select (compiled listing_schema (query_of table))) (compiled schema (query_of table)))) [
  | true ↦ listed_plain (compiled listing_schema (query_of table)) (compiled_plain table listing_schema)
  | false ↦ compiled_plain table schema
]

pub asked_plain : (table : Table) (schema : Schema) → CanBeAsked schema (query_of table) → IsPlain (understood schema (query_of table))
asked_plain table schema asked = subst IsPlain (sym asked.1) (subst IsPlainIfAsked asked.1 (plain table schema))

pub rows_shown : (table : Table) (old new : State) (rows : List Row) → Shown (query_of table) [] old new rows → ShowsRows old.now (query_of table) rows
unfolding Shown
rows_shown table old new rows h =
    let is_plain = subst IsPlainIfAsked h.1.is (plain table old.now.schema) in
    let it = subst (ShowsAnswer old new (query_of table) h.0 (at_time [] h.0.formats h.1.now) rows) is_plain.0 h.2 in
    record { query = h.0; is = h.1.is; source = it.0; from = it.1; answer = subst (λ formats. Reads h.0.command it.0 (at_time [] formats h.1.now) rows) is_plain.1 it.2 }

-- so it commits nothing, and shows nothing of a write
pub commits_none : (table : Table) (s : State) (db : Trees) → CommitsShowing (query_of table) [] s db → ⊥
unfolding CommitsShowing
commits_none table s db h =
    let plain = subst IsPlainIfAsked h.1.is (plain table s.now.schema) in
    false≢true (subst IsSome plain.0 h.2)

pub returns_none : (table : Table) (schema : Schema) → Returns (understood schema (query_of table)) → ⊥
returns_none table schema h = go (understood schema (query_of table)) (plain table schema) h
  where
    go : (r : Result Compiled CompileError) → IsPlainIfAsked r → Returns r → ⊥
    go (Ok c) plain some = false≢true (subst IsSome plain.0 some)
    go (Err e) plain some = some

pub later_shown : (db : Database) (rows : List Row) (o : Option ℕ) → ShowsRows db (query_of Meta) rows → IsLater rows o → ShowsLater db o
later_shown db rows (Some n) shows it = (rows, shows, it)
later_shown db rows None shows it = (rows, shows, it)
