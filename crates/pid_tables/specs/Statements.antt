-- What statements in turn make of a database, whatever tables it has; those of a new registry, and
-- those that move one of schema 1.
-- A text means what SQLite takes it for there, by the names that the database has.
use Rattle.std.specs.Prelude.{◌≡◌, ◌++◌, ℕ, List, [], ◌∷◌, Result, Ok, OnOk, IsTrue, codes}
use Rattle.sqlite.specs.State.{State}
use Rattle.sqlite.specs.Order.{Row}
use Rattle.sqlite.specs.Tree.{Trees}
use Rattle.sqlite.specs.declared.types.Value.TheVariants.{Text}
use Rattle.pid_tables.specs.Rows.Clauses.{Executes, HasCleanDisk, Survives, is_open, seen}
use Rattle.pid_tables.specs.Rows.Schema.{latest}
use Rattle.pid_tables.specs.Rows.TableRows.{number}
use Rattle.pid_tables.specs.declared.rows.fault.TableFault.{TableFault}
use Rattle.pid_tables.specs.AtOnce.{IsCommitted}

-- a text of SQL and its parameters, `?1` first
abbrev pub Statement : Type 0
Statement = List ℕ × Row

abbrev pub meta_text : List ℕ
meta_text = codes "CREATE TABLE meta (label TEXT NOT NULL PRIMARY KEY, value INTEGER NOT NULL) "
    ++ codes "STRICT"

abbrev pub account_text : List ℕ
account_text = codes "CREATE TABLE account (name TEXT NOT NULL PRIMARY KEY, rank INTEGER NOT NULL "
    ++ codes "CHECK (rank BETWEEN 0 AND 3)) STRICT"

abbrev pub item_text : List ℕ
item_text = codes "CREATE TABLE item (path TEXT NOT NULL PRIMARY KEY, name TEXT NOT NULL) STRICT"

abbrev pub submission_text : List ℕ
submission_text = codes "CREATE TABLE submission (num INTEGER NOT NULL PRIMARY KEY, author TEXT "
    ++ codes "NOT NULL REFERENCES account(name), path TEXT NOT NULL, form INTEGER NOT NULL CHECK "
    ++ codes "(form BETWEEN 0 AND 1), name TEXT NOT NULL, note TEXT NOT NULL, state INTEGER NOT "
    ++ codes "NULL CHECK (state BETWEEN 0 AND 3), decider TEXT NOT NULL, reason TEXT NOT NULL) "
    ++ codes "STRICT"

abbrev pub remark_text : List ℕ
remark_text = codes "CREATE TABLE remark (num INTEGER NOT NULL REFERENCES submission(num), seq "
    ++ codes "INTEGER NOT NULL, author TEXT NOT NULL REFERENCES account(name), body TEXT NOT "
    ++ codes "NULL, PRIMARY KEY (num, seq)) STRICT"

abbrev pub receipt_text : List ℕ
receipt_text = codes "CREATE TABLE receipt (account TEXT NOT NULL REFERENCES account(name), token "
    ++ codes "TEXT NOT NULL, kind INTEGER NOT NULL, a INTEGER NOT NULL, b INTEGER NOT NULL, c "
    ++ codes "INTEGER NOT NULL, PRIMARY KEY (account, token)) STRICT"

abbrev pub item_since_text : List ℕ
item_since_text = codes "CREATE TABLE item_since (path TEXT NOT NULL PRIMARY KEY REFERENCES "
    ++ codes "item(path) ON DELETE CASCADE, since INTEGER NOT NULL) STRICT"

-- the number 0 of each item
abbrev pub item_since_rows_text : List ℕ
item_since_rows_text = codes "INSERT INTO item_since (path, since) SELECT path, 0 FROM item"

-- a label with its number
abbrev pub new_label_text : List ℕ
new_label_text = codes "INSERT INTO meta (label, value) VALUES (?1, ?2)"

-- another number for a label
abbrev pub label_text : List ℕ
label_text = codes "UPDATE meta SET value = ?2 WHERE label = ?1"

-- an account with its rank
abbrev pub new_account_text : List ℕ
new_account_text = codes "INSERT INTO account (name, rank) VALUES (?1, ?2)"

-- a new registry: its tables, its labels, and its one account, an administrator
abbrev pub registry_statements : List Statement
registry_statements = (meta_text, []) ∷ (account_text, []) ∷ (item_text, []) ∷ (submission_text, [])
    ∷ (remark_text, []) ∷ (receipt_text, []) ∷ (item_since_text, [])
    ∷ (new_label_text, Text (codes "revision") ∷ number 0 ∷ [])
    ∷ (new_label_text, Text (codes "submissions") ∷ number 0 ∷ [])
    ∷ (new_label_text, Text (codes "items") ∷ number 0 ∷ [])
    ∷ (new_label_text, Text (codes "schema") ∷ number (latest) ∷ [])
    ∷ (new_account_text, Text (codes "root") ∷ number 3 ∷ []) ∷ []

-- schema 1 becomes schema 2: the table of the numbers of changes, the revision, and the schema
abbrev pub move_statements : List Statement
move_statements = (item_since_text, []) ∷ (item_since_rows_text, [])
    ∷ (new_label_text, Text (codes "revision") ∷ number 0 ∷ [])
    ∷ (label_text, Text (codes "schema") ∷ number (latest) ∷ []) ∷ []

module _ {S : Type 0} (state : S → State) where
  -- from the first connection to the second these were carried out in turn, and nothing else
  abbrev pub CarriedOut : List Statement → S → S → Type 0
  CarriedOut [] old new = new ≡ old
  CarriedOut (s ∷ rest) old new = (mid : S) × (count : ℕ)
      × Executes state s.0 s.1 old mid (Ok count) × CarriedOut rest mid new

  -- the trees that the statements make of the database that an open connection sees
  pub record IsMadeBy (statements : List Statement) (conn : S) (db : Trees) : Type 0 where
    pub was_open : IsTrue (is_open state conn)
    pub first : S
    pub same : seen state first ≡ seen state conn
    pub last : S
    pub carried : CarriedOut statements first last
    pub made : db ≡ (seen state last).trees

  -- Nothing but the statements is written, all of them or none.
  pub record Carries {X : Type 0} (statements : List Statement) (old new : S)
      (result : Result X TableFault) : Type 0 where
    -- a crash leaves what it left before, or what they make of the database
    pub survives : Survives state old new (IsMadeBy statements old)
    -- if a value is answered, the connection sees what they make, and a crash leaves it
    pub done : HasCleanDisk state new
        → OnOk result (IsCommitted (IsMadeBy statements old) (state new))
