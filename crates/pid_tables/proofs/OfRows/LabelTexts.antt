-- The query of a label is a query under any schema that knows it, and means the same where meta was made first.
use Rattle.std.proofs.Common.{◌≡◌, ℕ, List, [], ◌∷◌, true, false, cond, Option, None, Ok, Err, Result, codes, refl, sym, subst}
use Rattle.sqlite.specs.Schema.{Schema}
use Rattle.sqlite.specs.Table.{Table}
use Rattle.sqlite.specs.Term.{col}
use Rattle.sqlite.specs.Listing.{understood, reads_listing, if_select, is_select, listing_schema}
use Rattle.sqlite.specs.Command.{Command}
use Rattle.sqlite.proofs.Callers.{IsPlain}
use Rattle.sqlite_schema.specs.declared.command.Returning.{Returning}
use Rattle.sqlite_schema.specs.declared.schema.Index.{Index}
use Rattle.sqlite_schema.specs.declared.schema.View.{View}
use Rattle.sqlite_resolve.specs.declared.compiled.Compiled.{Compiled}
use Rattle.sqlite_resolve.specs.declared.error.CompileError.{CompileError}
use Rattle.sqlite_resolve.specs.declared.error.CompileError.TheVariants.{NoSuchTable}
use Rattle.sqlite_resolve.specs.Compile.{first, compiled, planned, meaning, command, returning, timed, with_command}
use Rattle.sqlite_resolve.specs.Lowering.{Checked, and_then}
use Rattle.sqlite_syntax.specs.declared.statement.Parsed.{Parsed}
use Rattle.sqlite_tied.specs.Compute.{everything}
use Rattle.pid_tables.specs.Rows.LabelRows.{value_text}
use Rattle.pid_tables.specs.Rows.Schema.{meta}
use Rattle.pid_tables.proofs.OfRows.KeyTexts.{by_first}
use Rattle.pid_tables.proofs.OfRows.Statements.{IsSelect, select_alone}

-- ---- under any schema

-- a statement, if it is one, that shows nothing of a write and reads no time
abbrev pub IsPlainIfAsked : Result Compiled CompileError → Type 0
IsPlainIfAsked (Ok c) = (c.returning ≡ None) × (c.formats ≡ [])
IsPlainIfAsked (Err e) = Unit {0}

abbrev OnlyReads : Checked Parsed → Type 0
OnlyReads (Ok p) = (schema : Schema) → ((base : ℕ) → returning schema base p.statement ≡ Ok None) × (timed schema p.formats p.statement ≡ [])
OnlyReads (Err e) = Unit {0}

only_reads : OnlyReads (first value_text)
unfolding everything
only_reads = λ schema. (λ base. refl, refl)

module _ (schema : Schema) (p : Parsed) where
  abbrev IsPlan : Checked (List (List ℕ) × (Command × Option Returning)) → Type 0
  IsPlan (Ok plan) = (plan.0 ≡ []) × (plan.1.1 ≡ None)
  IsPlan (Err e) = Unit {0}

  with_plan : (r : Checked (List (List ℕ) × (Command × Option Returning))) → IsPlan r → IsPlainIfAsked (and_then r (λ plan. Ok (with_command p plan)))
  with_plan (Ok plan) h = (h.1, h.0)
  with_plan (Err e) h = tt

  is_plan : (formats : List (List ℕ)) → formats ≡ [] → (shown : Checked (Option Returning)) → shown ≡ Ok None → (c : Checked Command)
      → IsPlan (and_then (and_then shown (λ what. and_then c (λ k. Ok (k, what)))) (λ found. Ok (formats, found)))
  is_plan formats none (Ok what) same (Ok k) = (none, let is : what ≡ None = cc in is)
  is_plan formats none (Ok what) same (Err e) = tt
  is_plan formats none (Err e) same c = tt

  planned_plain : ((base : ℕ) → returning schema base p.statement ≡ Ok None) → timed schema p.formats p.statement ≡ [] → IsPlan (planned schema p)
  unfolding planned meaning
  planned_plain shows untimed = is_plan (timed schema p.formats p.statement) untimed (returning schema _ p.statement) (shows _) (command schema p.formats _ p.statement)

compiled_plain : (schema : Schema) → IsPlainIfAsked (compiled schema value_text)
unfolding compiled
compiled_plain schema = go (first value_text) only_reads
  where
    go : (r : Checked Parsed) → OnlyReads r → IsPlainIfAsked (and_then r (λ p. and_then (planned schema p) (λ plan. Ok (with_command p plan))))
    go (Ok p) h = with_plan schema p (planned schema p) (planned_plain schema p (h schema).0 (h schema).1)
    go (Err e) h = tt

listed_plain : (r : Result Compiled CompileError) → IsPlainIfAsked r → IsPlainIfAsked (if_select r)
listed_plain (Ok c) h = elim (is_select c.command) as (λ b. IsPlainIfAsked (cond b (Ok c) (Err NoSuchTable))) [ true ↦ h | false ↦ tt ]
listed_plain (Err e) h = tt

pub plain_if_asked : (schema : Schema) → IsPlainIfAsked (understood schema value_text)
unfolding understood
plain_if_asked schema = elim (reads_listing schema value_text) as (λ b. IsPlainIfAsked (cond b (if_select (compiled listing_schema value_text)) (compiled schema value_text))) [
  | true ↦ listed_plain (compiled listing_schema value_text) (compiled_plain listing_schema)
  | false ↦ compiled_plain schema
]

pub asked_plain : (schema : Schema) (query : Compiled) → understood schema value_text ≡ Ok query → IsPlain (understood schema value_text)
asked_plain schema query is = subst IsPlain (sym is) (subst IsPlainIfAsked is (plain_if_asked schema))

-- ---- where meta was made first

abbrev pub meta_first : List Table → List Index → List View → Schema
meta_first others indexes views = record { tables = meta ∷ others; indexes = indexes; views = views }

pub value_is : (others : List Table) (indexes : List Index) (views : List View) → IsSelect (meta_first others indexes views) 0 by_first (col 1 2 ∷ []) value_text (codes "value" ∷ [])
unfolding understood everything
value_is others indexes views = select_alone (meta_first others indexes views) 0 by_first (col 1 2 ∷ []) value_text (codes "value" ∷ []) 1 refl refl
