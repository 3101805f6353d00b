-- In a database of any schema each CREATE text makes its table, or is refused.
use Rattle.std.proofs.Common.{◌≡◌, ◌∙◌, ℕ, List, [], codes, Bool, true, false, cond, is_some, Option, None, Ok, Err, Result, refl, ap, sym, subst}
use Rattle.std.specs.Prelude.{slice_range, if◌then◌else◌}
use Rattle.sqlite.specs.Compile.{table_defined_by}
use Rattle.sqlite.specs.Schema.{Schema}
use Rattle.sqlite.specs.Listing.{understood, reads_listing, if_select, is_select, listing_schema, misses_table}
use Rattle.sqlite.specs.Command.{Command}
use Rattle.sqlite.specs.Command.TheVariants.{CreateTable, Nothing}
use Rattle.sqlite_schema.specs.declared.command.Returning.{Returning}
use Rattle.sqlite_schema.specs.Names.{table_named, index_named, view_named}
use Rattle.std.specs.Option.{option_or}
use Rattle.sqlite_resolve.specs.declared.compiled.Compiled.{Compiled}
use Rattle.sqlite_resolve.specs.declared.error.CompileError.{CompileError}
use Rattle.sqlite_resolve.specs.declared.error.CompileError.TheVariants.{NoSuchTable, Exists, Unsupported}
use Rattle.sqlite_resolve.specs.Compile.{first, is_attached, compiled, planned, meaning, command, returning, timed, with_command}
use Rattle.sqlite_resolve.specs.Lowering.{Checked, and_then}
use Rattle.sqlite_syntax.specs.declared.statement.Parsed.{Parsed}
use Rattle.sqlite_tied.specs.Compute.{everything}
use Rattle.pid_tables.specs.Rows.Schema.{meta, account, item, submission, remark, receipt, item_since}
use Rattle.pid_tables.specs.Steps.MakingTables.{IsKnownDefinition, IsMaker, IsMakerOf}

abbrev pub create_meta : List ℕ
create_meta = codes "CREATE TABLE meta (label TEXT NOT NULL PRIMARY KEY, value INTEGER NOT NULL) STRICT"

abbrev pub create_account : List ℕ
create_account = codes "CREATE TABLE account (name TEXT NOT NULL PRIMARY KEY, rank INTEGER NOT NULL CHECK (rank BETWEEN 0 AND 3)) STRICT"

abbrev pub create_item : List ℕ
create_item = codes "CREATE TABLE item (path TEXT NOT NULL PRIMARY KEY, name TEXT NOT NULL) STRICT"

abbrev pub create_submission : List ℕ
create_submission = codes "CREATE TABLE submission (num INTEGER NOT NULL PRIMARY KEY, author TEXT NOT NULL REFERENCES account(name), path TEXT NOT NULL, form INTEGER NOT NULL CHECK (form BETWEEN 0 AND 1), name TEXT NOT NULL, note TEXT NOT NULL, state INTEGER NOT NULL CHECK (state BETWEEN 0 AND 3), decider TEXT NOT NULL, reason TEXT NOT NULL) STRICT"

abbrev pub create_remark : List ℕ
create_remark = codes "CREATE TABLE remark (num INTEGER NOT NULL REFERENCES submission(num), seq INTEGER NOT NULL, author TEXT NOT NULL REFERENCES account(name), body TEXT NOT NULL, PRIMARY KEY (num, seq)) STRICT"

abbrev pub create_receipt : List ℕ
create_receipt = codes "CREATE TABLE receipt (account TEXT NOT NULL REFERENCES account(name), token TEXT NOT NULL, kind INTEGER NOT NULL, a INTEGER NOT NULL, b INTEGER NOT NULL, c INTEGER NOT NULL, PRIMARY KEY (account, token)) STRICT"

abbrev pub create_item_since : List ℕ
create_item_since = codes "CREATE TABLE item_since (path TEXT NOT NULL PRIMARY KEY REFERENCES item(path) ON DELETE CASCADE, since INTEGER NOT NULL) STRICT"

-- ---- what a text comes to in any schema

-- a table of this name is made where the name is free
abbrev pub made_by : Schema → List ℕ → Checked Command
made_by schema name =
    if is_attached schema name then Err Unsupported else and_then (if is_some (index_named schema name) then Err Exists else (if is_some (option_or (table_named schema name) (view_named schema name)) then Err Exists else Ok true)) (λ is_new. if is_new then Ok CreateTable else Ok Nothing)

-- whether the statement is the whole text, what it shows of what it writes, whether it reads the
-- time, and what it makes
abbrev Outcome : Type 0
Outcome = List ℕ × Checked (Option Returning) × List (List ℕ) × Checked Command

abbrev comes_to : Schema → ℕ → List ℕ → Parsed → Outcome
comes_to schema base text p = (slice_range text p.start p.end, returning schema base p.statement, timed schema p.formats p.statement, command schema p.formats base p.statement)

abbrev made_alone : Schema → List ℕ → List ℕ → Outcome
made_alone schema text name = (text, Ok None, [], made_by schema name)

-- one equation, so that the text is computed once; and it can be parsed
abbrev pub OnlyMakes : List ℕ → List ℕ → Checked Parsed → Type 0
OnlyMakes text name (Ok p) = (schema : Schema) (base : ℕ) → comes_to schema base text p ≡ made_alone schema text name
OnlyMakes text name (Err e) = ⊥

abbrev MakesIfGiven : Checked Command → Type 0
MakesIfGiven (Ok k) = k ≡ CreateTable
MakesIfGiven (Err e) = Unit {0}

made_if : (attached other same : Bool) (made : Checked Command) → MakesIfGiven made
    → MakesIfGiven (if attached then Err Unsupported else and_then (if other then Err Exists else (if same then Err Exists else Ok true)) (λ is_new. if is_new then made else Ok Nothing))
made_if true other same made h = tt
made_if false true same made h = tt
made_if false false true made h = tt
made_if false false false made h = h

made_at : (schema : Schema) (name : List ℕ) → MakesIfGiven (made_by schema name)
made_at schema name = made_if (is_attached schema name) (is_some (index_named schema name)) (is_some (option_or (table_named schema name) (view_named schema name))) (Ok CreateTable) refl

-- what is planned shows nothing, reads no time and makes a table
abbrev IsPlan : Type 0 → Checked (List (List ℕ) × (Command × Option Returning)) → Type 0
IsPlan AtErr (Ok plan) = (plan.0 ≡ []) × (plan.1.0 ≡ CreateTable) × (plan.1.1 ≡ None)
IsPlan AtErr (Err e) = AtErr

is_plan : (formats : List (List ℕ)) → formats ≡ [] → (shown : Checked (Option Returning)) → shown ≡ Ok None → (c : Checked Command) → MakesIfGiven c
    → IsPlan (Unit {0}) (and_then (and_then shown (λ what. and_then c (λ k. Ok (k, what)))) (λ found. Ok (formats, found)))
is_plan formats none (Ok what) same (Ok k) makes = (none, makes, let is : what ≡ None = cc in is)
is_plan formats none (Ok what) same (Err e) makes = tt
is_plan formats none (Err e) same c makes = tt

known_plan : (formats : List (List ℕ)) → formats ≡ [] → (shown : Checked (Option Returning)) → shown ≡ Ok None → (c : Checked Command) → c ≡ Ok CreateTable
    → IsPlan ⊥ (and_then (and_then shown (λ what. and_then c (λ k. Ok (k, what)))) (λ found. Ok (formats, found)))
known_plan formats none (Ok what) same (Ok k) makes = (none, let made : k ≡ CreateTable = cc in made, let is : what ≡ None = cc in is)
known_plan formats none (Ok what) same (Err e) makes = let no : ⊥ = cc in no
known_plan formats none (Err e) same c makes = let no : ⊥ = cc in no

module _ (text name : List ℕ) where
  module _ (schema : Schema) (p : Parsed) where
    with_plan : slice_range text p.start p.end ≡ text → (r : Checked (List (List ℕ) × (Command × Option Returning))) → IsPlan (Unit {0}) r → IsMaker text (and_then r (λ plan. Ok (with_command p plan)))
    with_plan whole (Ok plan) h = (h.1, h.2, h.0, whole)
    with_plan whole (Err e) h = tt

    with_known : slice_range text p.start p.end ≡ text → (r : Checked (List (List ℕ) × (Command × Option Returning))) → IsPlan ⊥ r → IsKnownDefinition text (and_then r (λ plan. Ok (with_command p plan)))
    with_known whole (Ok plan) h = (h.1, h.2, h.0, whole)
    with_known whole (Err e) h = h

    module _ (only : OnlyMakes text name (Ok p)) where
      whole : slice_range text p.start p.end ≡ text
      whole = ap (λ (t : Outcome). t.0) (only schema 0)

      untimed : timed schema p.formats p.statement ≡ []
      untimed = ap (λ (t : Outcome). t.2) (only schema 0)

      shows : (base : ℕ) → returning schema base p.statement ≡ Ok None
      shows base = ap (λ (t : Outcome). t.1) (only schema base)

      makes : (base : ℕ) → command schema p.formats base p.statement ≡ made_by schema name
      makes base = ap (λ (t : Outcome). t.3) (only schema base)

      is_planned : IsPlan (Unit {0}) (planned schema p)
      unfolding planned meaning
      is_planned = is_plan (timed schema p.formats p.statement) untimed (returning schema _ p.statement) (shows _) (command schema p.formats _ p.statement) (subst MakesIfGiven (sym (makes _)) (made_at schema name))

      known_planned : made_by schema name ≡ Ok CreateTable → IsPlan ⊥ (planned schema p)
      unfolding planned meaning
      known_planned free = known_plan (timed schema p.formats p.statement) untimed (returning schema _ p.statement) (shows _) (command schema p.formats _ p.statement) (makes _ ∙ free)

  compiled_maker : (schema : Schema) → OnlyMakes text name (first text) → IsMaker text (compiled schema text)
  unfolding compiled
  compiled_maker schema only = go (first text) only
    where
      go : (r : Checked Parsed) → OnlyMakes text name r → IsMaker text (and_then r (λ p. and_then (planned schema p) (λ plan. Ok (with_command p plan))))
      go (Ok p) h = with_plan schema p (whole schema p h) (planned schema p) (is_planned schema p h)
      go (Err e) h = absurd h

  listed_maker : (r : Result Compiled CompileError) → IsMaker text r → IsMaker text (if_select r)
  listed_maker (Ok c) h = elim (is_select c.command) as (λ b. IsMaker text (cond b (Ok c) (Err NoSuchTable))) [ true ↦ h | false ↦ tt ]
  listed_maker (Err e) h = tt

  maker : OnlyMakes text name (first text) → (schema : Schema) → IsMaker text (understood schema text)
  unfolding understood
  maker only schema = elim (reads_listing schema text) as (λ b. IsMaker text (cond b (if_select (compiled listing_schema text)) (compiled schema text))) [
    | true ↦ listed_maker (compiled listing_schema text) (compiled_maker listing_schema only)
    | false ↦ compiled_maker schema only
  ]

  -- the text is understood where the name is free
  compiled_known : (schema : Schema) → OnlyMakes text name (first text) → made_by schema name ≡ Ok CreateTable → IsKnownDefinition text (compiled schema text)
  unfolding compiled
  compiled_known schema only free = go (first text) only
    where
      go : (r : Checked Parsed) → OnlyMakes text name r → IsKnownDefinition text (and_then r (λ p. and_then (planned schema p) (λ plan. Ok (with_command p plan))))
      go (Ok p) h = with_known schema p (whole schema p h) (planned schema p) (known_planned schema p h free)
      go (Err e) h = h

  unlisted : (r other : Result Compiled CompileError) → IsKnownDefinition text r → IsKnownDefinition text (if misses_table r then other else r)
  unlisted (Ok c) other h = h
  unlisted (Err e) other h = absurd h

  pub known : (schema : Schema) → OnlyMakes text name (first text) → made_by schema name ≡ Ok CreateTable → IsKnownDefinition text (understood schema text)
  unfolding understood
  known schema only free = unlisted (compiled schema text) (if_select (compiled listing_schema text)) (compiled_known schema only free)

-- ---- the seven texts

pub only_meta : OnlyMakes create_meta (codes "meta") (first create_meta)
unfolding everything
only_meta = λ schema base. refl

pub meta_defined : table_defined_by create_meta ≡ Ok (record meta { tree = 0 })
unfolding everything
meta_defined = refl

pub meta_maker : IsMakerOf create_meta (codes "meta")
meta_maker = record { table = record meta { tree = 0 }; defined = meta_defined; named = refl; makes = maker create_meta (codes "meta") only_meta }

pub only_account : OnlyMakes create_account (codes "account") (first create_account)
unfolding everything
only_account = λ schema base. refl

pub account_defined : table_defined_by create_account ≡ Ok (record account { tree = 0 })
unfolding everything
account_defined = refl

pub account_maker : IsMakerOf create_account (codes "account")
account_maker = record { table = record account { tree = 0 }; defined = account_defined; named = refl; makes = maker create_account (codes "account") only_account }

pub only_item : OnlyMakes create_item (codes "item") (first create_item)
unfolding everything
only_item = λ schema base. refl

pub item_defined : table_defined_by create_item ≡ Ok (record item { tree = 0 })
unfolding everything
item_defined = refl

pub item_maker : IsMakerOf create_item (codes "item")
item_maker = record { table = record item { tree = 0 }; defined = item_defined; named = refl; makes = maker create_item (codes "item") only_item }

pub only_submission : OnlyMakes create_submission (codes "submission") (first create_submission)
unfolding everything
only_submission = λ schema base. refl

pub submission_defined : table_defined_by create_submission ≡ Ok (record submission { tree = 0 })
unfolding everything
submission_defined = refl

pub submission_maker : IsMakerOf create_submission (codes "submission")
submission_maker = record { table = record submission { tree = 0 }; defined = submission_defined; named = refl; makes = maker create_submission (codes "submission") only_submission }

pub only_remark : OnlyMakes create_remark (codes "remark") (first create_remark)
unfolding everything
only_remark = λ schema base. refl

pub remark_defined : table_defined_by create_remark ≡ Ok (record remark { tree = 0 })
unfolding everything
remark_defined = refl

pub remark_maker : IsMakerOf create_remark (codes "remark")
remark_maker = record { table = record remark { tree = 0 }; defined = remark_defined; named = refl; makes = maker create_remark (codes "remark") only_remark }

pub only_receipt : OnlyMakes create_receipt (codes "receipt") (first create_receipt)
unfolding everything
only_receipt = λ schema base. refl

pub receipt_defined : table_defined_by create_receipt ≡ Ok (record receipt { tree = 0 })
unfolding everything
receipt_defined = refl

pub receipt_maker : IsMakerOf create_receipt (codes "receipt")
receipt_maker = record { table = record receipt { tree = 0 }; defined = receipt_defined; named = refl; makes = maker create_receipt (codes "receipt") only_receipt }

pub only_item_since : OnlyMakes create_item_since (codes "item_since") (first create_item_since)
unfolding everything
only_item_since = λ schema base. refl

pub item_since_defined : table_defined_by create_item_since ≡ Ok (record item_since { tree = 0 })
unfolding everything
item_since_defined = refl

pub item_since_maker : IsMakerOf create_item_since (codes "item_since")
item_since_maker = record { table = record item_since { tree = 0 }; defined = item_since_defined; named = refl; makes = maker create_item_since (codes "item_since") only_item_since }
