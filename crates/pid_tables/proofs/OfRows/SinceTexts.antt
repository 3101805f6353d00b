-- What the texts of the migration mean, the one in schema 1 and the other in schema 2.
use Rattle.std.proofs.Common.{◌≡◌, pos, List, [], ◌∷◌, false, Ok, refl}
use Rattle.sqlite.specs.declared.types.Value.TheVariants.{Null, Int}
use Rattle.sqlite.specs.Term.{Term, lit, col}
use Rattle.sqlite.specs.Query.{Query as SqlQuery}
use Rattle.sqlite.specs.Collation.TheVariants.{Binary}
use Rattle.sqlite.specs.Compile.{table_defined_by}
use Rattle.sqlite.specs.Change.{created, next_tree}
use Rattle.sqlite.specs.Command.TheVariants.{CreateTable, Insert}
use Rattle.sqlite.specs.Source.TheVariants.{Query}
use Rattle.sqlite.specs.Does.{lacks_sequence}
use Rattle.sqlite.specs.Listing.{understood}
use Rattle.sqlite.proofs.Callers.{IsPlain, command_of, statement_of}
use Rattle.sqlite_tied.specs.Compute.{everything}
use Rattle.pid_tables.specs.declared.rows.schema_version.Version.TheVariants.{One, Two}
use Rattle.pid_tables.specs.Rows.Schema.{schema_of, item_since}
use Rattle.pid_tables.proofs.OfRows.Statements.{simple, program, IsAlone, command_alone, plain_alone}
use Rattle.pid_tables.proofs.OfRows.StatementTexts.{create_since, fill_since}

-- schema 2 is schema 1 with one more table
pub since_created : created (schema_of One) (record item_since { tree = 0 }) ≡ schema_of Two
since_created = refl

creates : IsAlone (schema_of One) create_since CreateTable 0
unfolding understood everything
creates = refl

pub create_is : command_of (understood (schema_of One) create_since) ≡ CreateTable
create_is = command_alone (schema_of One) create_since CreateTable 0 creates

pub create_whole : statement_of create_since (understood (schema_of One) create_since) ≡ create_since
unfolding understood everything
create_whole = refl

pub create_plain : IsPlain (understood (schema_of One) create_since)
create_plain = plain_alone (schema_of One) create_since CreateTable 0 creates

pub create_defined : table_defined_by create_since ≡ Ok (record item_since { tree = 0 })
unfolding understood everything
create_defined = refl

pub create_tree : next_tree (schema_of One) ≡ 11
create_tree = refl

pub create_alone : lacks_sequence (schema_of Two) ≡ false
create_alone = refl

-- as `simple`, but that it names the collations of its columns, which it does not use
abbrev pub copied : List Term
copied = lit Null ∷ col 1 1 ∷ lit (Int (pos 0)) ∷ []

abbrev pub copying : SqlQuery
copying = record (simple 4 [] copied) { collations = Binary ∷ Binary ∷ Binary ∷ [] }

fills : IsAlone (schema_of Two) fill_since (Insert 6 (Query (program copying))) 0
unfolding understood everything
fills = refl

pub fill_is : command_of (understood (schema_of Two) fill_since) ≡ Insert 6 (Query (program copying))
fill_is = command_alone (schema_of Two) fill_since (Insert 6 (Query (program copying))) 0 fills

pub fill_plain : IsPlain (understood (schema_of Two) fill_since)
fill_plain = plain_alone (schema_of Two) fill_since (Insert 6 (Query (program copying))) 0 fills
