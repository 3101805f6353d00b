-- Queries and writes on one table, by its key, in a schema.
use Rattle.std.proofs.Common.{◌≡◌, ℕ, pos, negsuc, nat_le, List, [], ◌∷◌, length, Bool, true, false, Option, None, Ok, Err, Result, ap}
use Rattle.std.proofs.lemmas.Bool.{false≢true}
use Rattle.sqlite.specs.declared.types.Value.TheVariants.{Int}
use Rattle.sqlite.specs.Term.{Term, lit, col, op2}
use Rattle.sqlite.specs.Query.{Query, inner, end}
use Rattle.sqlite.specs.Command.{Command}
use Rattle.sqlite.specs.Command.TheVariants.{Insert, Update, Delete, Select, Nothing}
use Rattle.sqlite.specs.Source.TheVariants.{Values}
use Rattle.sqlite_sql.specs.declared.ops.BinaryOp.TheVariants.{Compare}
use Rattle.sqlite_sql.specs.declared.ops.CompareOp.TheVariants.{Eq}
use Rattle.sqlite.specs.Collation.TheVariants.{Binary}
use Rattle.sqlite.specs.Listing.{understood, reads_listing}
use Rattle.sqlite.proofs.Callers.{IsPlain, command_of}
use Rattle.sqlite_resolve.specs.declared.compiled.Compiled.{Compiled}
use Rattle.sqlite_resolve.specs.declared.error.CompileError.{CompileError}
use Rattle.sqlite_schema.specs.declared.command.Returning.{Returning}
use Rattle.sqlite_schema.specs.declared.program.Program.{Program}
use Rattle.sqlite_value.specs.declared.keys.Key.{Key}
use Rattle.sqlite.specs.Schema.{Schema}

-- the rows of one table that pass the tests, in an order, at most so many
abbrev pub listing : ℕ → List Term → List Term → List (Term × Key) → Term → Query
listing tree tests project order limit = record {
  from = inner tree end;
  filter = tests;
  group = None;
  project = project;
  distinct = false;
  collations = [];
  order = order;
  limit = limit;
  offset = lit (Int (pos 0));
}

-- no limit
abbrev pub whole : Term
whole = lit (Int (negsuc 0))

-- all that pass, in no order
abbrev pub simple : ℕ → List Term → List Term → Query
simple tree tests project = listing tree tests project [] whole

-- the first that passes, in an order
abbrev pub first_one : ℕ → List Term → List Term → List (Term × Key) → Query
first_one tree tests project order = listing tree tests project order (lit (Int (pos 1)))

abbrev pub program : Query → Program
program q = record { lets = []; body = q }

-- the column at a place equals a parameter
abbrev pub equals : ℕ → ℕ → Term
equals at param = op2 (Compare Eq Binary) (col 1 at) (col 0 param)

-- ---- a text that is one statement alone

-- its command, what it shows of a write, how it reads the time, how many parameters it has, and whether the text ends with it
abbrev pub Parts : Type 0
Parts = Command × Option Returning × List (List ℕ) × ℕ × Bool

abbrev pub parts : List ℕ → Result Compiled CompileError → Parts
parts sql (Ok c) = (c.command, c.returning, c.formats, length c.names, nat_le (length sql) c.tail)
parts sql (Err e) = (Nothing, None, [], 0, false)

-- all of it by one `refl`, since each `refl` computes the statement anew
abbrev pub IsAlone : Schema → List ℕ → Command → ℕ → Type 0
IsAlone schema sql command given = ◌≡◌ {A = Parts} (parts sql (understood schema sql)) (command, None, [], given, true)

command_in : (sql : List ℕ) (r : Result Compiled CompileError) (rest : Parts) → ◌≡◌ {A = Parts} (parts sql r) rest → command_of r ≡ rest.0
command_in sql (Ok c) rest alone = ap (λ (x : Parts). x.0) alone
command_in sql (Err e) rest alone = ap (λ (x : Parts). x.0) alone

plain_in : (sql : List ℕ) (r : Result Compiled CompileError) (command : Command) (given : ℕ) → ◌≡◌ {A = Parts} (parts sql r) (command, None, [], given, true) → IsPlain r
plain_in sql (Ok c) command given alone = (ap (λ (x : Parts). x.1) alone, ap (λ (x : Parts). x.2) alone)
plain_in sql (Err e) command given alone = absurd (false≢true (ap (λ (x : Parts). x.4) alone))

module _ (schema : Schema) (sql : List ℕ) (command : Command) (given : ℕ) (alone : IsAlone schema sql command given) where
  pub command_alone : command_of (understood schema sql) ≡ command
  command_alone = command_in sql (understood schema sql) (command, None, [], given, true) alone

  pub plain_alone : IsPlain (understood schema sql)
  plain_alone = plain_in sql (understood schema sql) command given alone

-- SELECT .. FROM .. WHERE ..
pub record IsSelect (schema : Schema) (tree : ℕ) (tests project : List Term) (sql : List ℕ) (names : List (List ℕ)) : Type 0 where
  pub is : command_of (understood schema sql) ≡ Select (program (simple tree tests project)) names
  pub plain : IsPlain (understood schema sql)
  pub unlisted : reads_listing schema sql ≡ false

-- INSERT INTO .. VALUES ..
pub record IsInsert (schema : Schema) (at : ℕ) (terms : List Term) (width : ℕ) (sql : List ℕ) : Type 0 where
  pub is : command_of (understood schema sql) ≡ Insert at (Values terms width)
  pub plain : IsPlain (understood schema sql)

-- UPDATE .. SET .. WHERE ..
pub record IsUpdate (schema : Schema) (at tree : ℕ) (tests change : List Term) (sql : List ℕ) : Type 0 where
  pub is : command_of (understood schema sql) ≡ Update at (program (simple tree tests (col 1 0 ∷ change)))
  pub plain : IsPlain (understood schema sql)

-- DELETE FROM .. WHERE ..
pub record IsDelete (schema : Schema) (at tree : ℕ) (tests : List Term) (sql : List ℕ) : Type 0 where
  pub is : command_of (understood schema sql) ≡ Delete at (program (simple tree tests (col 1 0 ∷ [])))
  pub plain : IsPlain (understood schema sql)

module _ (schema : Schema) (tree : ℕ) (tests project : List Term) (sql : List ℕ) (names : List (List ℕ)) (given : ℕ) where
  abbrev pub SelectsAlone : Type 0
  SelectsAlone = IsAlone schema sql (Select (program (simple tree tests project)) names) given

  pub select_alone : SelectsAlone → reads_listing schema sql ≡ false → IsSelect schema tree tests project sql names
  select_alone alone unlisted = record { is = command_alone schema sql _ given alone; plain = plain_alone schema sql _ given alone; unlisted = unlisted }

module _ (schema : Schema) (at tree : ℕ) (tests terms : List Term) (width : ℕ) (sql : List ℕ) (given : ℕ) where
  pub insert_alone : IsAlone schema sql (Insert at (Values terms width)) given → IsInsert schema at terms width sql
  insert_alone alone = record { is = command_alone schema sql _ given alone; plain = plain_alone schema sql _ given alone }

  pub update_alone : IsAlone schema sql (Update at (program (simple tree tests (col 1 0 ∷ terms)))) given → IsUpdate schema at tree tests terms sql
  update_alone alone = record { is = command_alone schema sql _ given alone; plain = plain_alone schema sql _ given alone }

  pub delete_alone : IsAlone schema sql (Delete at (program (simple tree tests (col 1 0 ∷ [])))) given → IsDelete schema at tree tests sql
  delete_alone alone = record { is = command_alone schema sql _ given alone; plain = plain_alone schema sql _ given alone }
