-- The tables of each schema, as SQLite keeps them: a choice of this project.
use Rattle.std.specs.Prelude.{ℕ, pos, true, false, List, [], ◌∷◌, Some, None, codes}
use Rattle.sqlite.specs.Collation.TheVariants.{Binary}
use Rattle.sqlite.specs.declared.types.Value.TheVariants.{Null, Int}
use Rattle.sqlite.specs.Table.{Table}
use Rattle.sqlite.specs.Schema.{Schema}
use Rattle.sqlite.specs.Kind.{Kind}
use Rattle.sqlite.specs.Kind.TheVariants.{Text, Integer}
use Rattle.sqlite.specs.Term.{Term, lit, col, op2}
use Rattle.sqlite_sql.specs.declared.ops.BinaryOp.TheVariants.{And, Compare}
use Rattle.sqlite_sql.specs.declared.ops.CompareOp.TheVariants.{Ge, Le}
use Rattle.sqlite_schema.specs.declared.schema.Column.{Column}
use Rattle.sqlite_schema.specs.declared.schema.Reference.{Reference}
use Rattle.sqlite_schema.specs.declared.schema.Index.{Index}
use Rattle.sqlite_schema.specs.declared.schema.Action.TheVariants.{NoAction, Cascade}
use Rattle.sqlite_value.specs.Keys.{plain}
use Rattle.sqlite_catalog.specs.Listing.{automatic}
use Rattle.pid_tables.specs.declared.rows.schema_version.Version.{Version}
use Rattle.pid_tables.specs.declared.rows.schema_version.Version.TheVariants.{One, Two}

abbrev pub column_of : Kind → List ℕ → Column
column_of kind name = record {
  name = name;
  kind = kind;
  is_strict = true;
  not_null = true;
  default = Null;
  collation = Binary;
}

abbrev pub words : List ℕ → Column
words = column_of Text

abbrev pub numbers : List ℕ → Column
numbers = column_of Integer

-- a table whose primary key is no rowid
abbrev pub keyed : List ℕ → ℕ → List Column → List ℕ → List Term → List Reference → Table
keyed name tree columns primary checks references = record {
  name = name;
  tree = tree;
  columns = columns;
  key = None;
  primary = primary;
  uniques = primary ∷ [];
  orders = plain ∷ [];
  checks = checks;
  references = references;
  computed = [];
  stamps = record { places = []; terms = []; formats = [] };
  is_counted = false;
}

-- the column at a place is between 0 and a number
abbrev pub up_to : ℕ → ℕ → Term
up_to at most = op2 And (op2 (Compare Ge Binary) (col 1 at) (lit (Int (pos 0))))
    (op2 (Compare Le Binary) (col 1 at) (lit (Int (pos most))))

abbrev pub refers : ℕ → List ℕ → List ℕ → Reference
refers at parent column = record {
  columns = at ∷ [];
  parent = parent;
  parent_columns = column
      ∷ [];
  on_delete = NoAction;
  on_update = NoAction;
  is_deferred = false;
}

abbrev pub meta : Table
meta = keyed (codes "meta") 0 (words (codes "label") ∷ numbers (codes "value") ∷ []) (1 ∷ []) [] []

abbrev pub account : Table
account = keyed (codes "account") 2 (words (codes "name") ∷ numbers (codes "rank") ∷ []) (1 ∷ [])
    (up_to 2 3 ∷ []) []

abbrev pub item : Table
item = keyed (codes "item") 4 (words (codes "path") ∷ words (codes "name") ∷ []) (1 ∷ []) [] []

abbrev pub submission : Table
submission = record {
  name = codes "submission";
  tree = 6;
  columns = numbers (codes "num") ∷ words (codes "author") ∷ words (codes "path")
      ∷ numbers (codes "form") ∷ words (codes "name") ∷ words (codes "note") ∷ numbers (codes "state")
      ∷ words (codes "decider") ∷ words (codes "reason") ∷ [];
  key = Some 0;
  primary = 0 ∷ [];
  uniques = [];
  orders = [];
  checks = up_to 4 1 ∷ up_to 7 3 ∷ [];
  references = refers 2 (codes "account") (codes "name") ∷ [];
  computed = [];
  stamps = record { places = []; terms = []; formats = [] };
  is_counted = false;
}

abbrev pub remark : Table
remark = keyed (codes "remark") 7 (numbers (codes "num") ∷ numbers (codes "seq")
    ∷ words (codes "author") ∷ words (codes "body") ∷ []) (1 ∷ 2 ∷ []) []
    (refers 1 (codes "submission") (codes "num") ∷ refers 3 (codes "account") (codes "name") ∷ [])

abbrev pub receipt : Table
receipt = keyed (codes "receipt") 9
    (words (codes "account") ∷ words (codes "token") ∷ numbers (codes "kind") ∷ numbers (codes "a")
    ∷ numbers (codes "b") ∷ numbers (codes "c") ∷ []) (1 ∷ 2 ∷ []) []
    (refers 1 (codes "account") (codes "name") ∷ [])

-- the row goes with the item that it refers to
abbrev pub to_item : Reference
to_item = record (refers 1 (codes "item") (codes "path")) { on_delete = Cascade }

-- for each item the number of the last change of its name
abbrev pub item_since : Table
item_since = keyed (codes "item_since") 11 (words (codes "path") ∷ numbers (codes "since") ∷ [])
    (1 ∷ []) [] (to_item ∷ [])

-- the number of a schema, as meta has it
abbrev pub version_number : Version → ℕ
version_number One = 1
version_number Two = 2

-- that of the schema that this program makes
abbrev pub latest : ℕ
latest = version_number Two

-- what a schema has after the six tables and their indexes
abbrev pub more_tables : Version → List Table
more_tables One = []
more_tables Two = item_since ∷ []

abbrev pub more_indexes : Version → List Index
more_indexes One = []
more_indexes Two = automatic item_since 0 (1 ∷ []) 12 ∷ []

-- the six tables come first in each schema
abbrev pub schema_of : Version → Schema
schema_of version = record {
  tables = meta ∷ account ∷ item ∷ submission ∷ remark ∷ receipt ∷ more_tables version;
  indexes = automatic meta 0 (1 ∷ []) 1 ∷ automatic account 0 (1 ∷ []) 3
      ∷ automatic item 0 (1 ∷ []) 5 ∷ automatic remark 0 (1 ∷ 2 ∷ []) 8
      ∷ automatic receipt 0 (1 ∷ 2 ∷ []) 10 ∷ more_indexes version;
  views = [];
}

-- the schema that this program makes
abbrev pub pid_schema : Schema
pid_schema = schema_of Two

abbrev pub no_schema : Schema
no_schema = record { tables = []; indexes = []; views = [] }
